-- Steps of the loops that read a script line by line.
use Rattle.std.proofs.Common.{◌≡◌, ℕ, ◌+◌, ◌≤◌, List, [], ◌∷◌, ◌++◌, length, drop, Option, Some, None, Result, Ok, Err, true, false, refl, sym, ap, ◌∙◌, append_assoc, append-nil}
use Rattle.std.proofs.lemmas.List.{drop_all}
use Rattle.plain_text.specs.Lines.{lines_of, is_passed}
use Rattle.agent_script.specs.declared.script.Line.{Line}
use Rattle.agent_script.specs.declared.script.Script.{Script}
use Rattle.agent_script.specs.Scripts.{Read, lines_from, line_or_number, onto_lines, is_tape, tasks_of, script_from, script_with, script_behind}
use Rattle.agent_script.specs.Steps.{line_of}

-- the lines that were read, and behind them those of the rest
abbrev pub behind : List Line → Result Read ℕ → Result Read ℕ
behind lines (Ok rest) = Ok (lines ++ rest.0, rest.1)
behind lines (Err number) = Err number

behind_onto : (lines : List Line) (line : Line) (rest : Result Read ℕ) → behind (lines ++ line ∷ []) rest ≡ behind lines (onto_lines line rest)
behind_onto lines line (Ok rest) = ap (λ ls. Ok (ls, rest.1)) (append_assoc lines (line ∷ []) rest.0)
behind_onto lines line (Err number) = refl

of_passed : (k n : ℕ) (line : List ℕ) (lines : List (List ℕ)) → is_passed line ≡ true → lines_from k n (line ∷ lines) ≡ lines_from k (n + 1) lines
unfolding lines_from
of_passed k n line lines passed = rw passed refl

of_tape : (k n : ℕ) (line : List ℕ) (lines : List (List ℕ)) → is_passed line ≡ false → is_tape line ≡ true → lines_from k n (line ∷ lines) ≡ Ok ([], lines)
unfolding lines_from
of_tape k n line lines passed tape = rw (passed, tape) refl

of_read : (k n : ℕ) (line : List ℕ) (lines : List (List ℕ)) (read : Option Line) → is_passed line ≡ false → is_tape line ≡ false → line_of k n line ≡ read
    → lines_from k n (line ∷ lines) ≡ line_or_number n read (lines_from k (n + 1) lines)
unfolding lines_from
of_read k n line lines read passed tape is = rw (passed, tape, is) refl

of_end : (k n : ℕ) (rest : List ℕ) → rest ≡ [] → lines_from k n (lines_of rest) ≡ Ok ([], lines_of rest)
unfolding lines_from lines_of
of_end k n rest e = ap (λ r. lines_from k n (lines_of r)) e ∙ ap (λ r. Ok ([], lines_of r)) (sym e)

pub line_passed : (k : ℕ) (lines : List Line) (n : ℕ) (rest next line : List ℕ) (all : Result Read ℕ) → behind lines (lines_from k n (lines_of rest)) ≡ all → lines_of rest ≡ line ∷ lines_of next
    → is_passed line ≡ true → behind lines (lines_from k (n + 1) (lines_of next)) ≡ all
line_passed k lines n rest next line all h parts passed = ap (behind lines) (sym (of_passed k n line (lines_of next) passed)) ∙ ap (λ ls. behind lines (lines_from k n ls)) (sym parts) ∙ h

pub tape_met : (k : ℕ) (lines : List Line) (n : ℕ) (rest next line : List ℕ) (all : Result Read ℕ) → behind lines (lines_from k n (lines_of rest)) ≡ all → lines_of rest ≡ line ∷ lines_of next
    → is_passed line ≡ false → is_tape line ≡ true → all ≡ Ok (lines, lines_of next)
tape_met k lines n rest next line all h parts passed tape =
    sym h ∙ ap (λ ls. behind lines (lines_from k n ls)) parts ∙ ap (behind lines) (of_tape k n line (lines_of next) passed tape) ∙ ap (λ ls. Ok (ls, lines_of next)) (append-nil lines)

pub line_read : (k : ℕ) (lines : List Line) (read : Line) (n : ℕ) (rest next line : List ℕ) (all : Result Read ℕ) → behind lines (lines_from k n (lines_of rest)) ≡ all → lines_of rest ≡ line ∷ lines_of next
    → is_passed line ≡ false → is_tape line ≡ false → line_of k n line ≡ Some read → behind (lines ++ read ∷ []) (lines_from k (n + 1) (lines_of next)) ≡ all
line_read k lines read n rest next line all h parts passed tape is =
    behind_onto lines read (lines_from k (n + 1) (lines_of next)) ∙ ap (behind lines) (sym (of_read k n line (lines_of next) (Some read) passed tape is))
    ∙ ap (λ ls. behind lines (lines_from k n ls)) (sym parts) ∙ h

pub line_refused : (k : ℕ) (lines : List Line) (n : ℕ) (rest next line : List ℕ) (all : Result Read ℕ) → behind lines (lines_from k n (lines_of rest)) ≡ all → lines_of rest ≡ line ∷ lines_of next
    → is_passed line ≡ false → is_tape line ≡ false → line_of k n line ≡ None → all ≡ Err n
line_refused k lines n rest next line all h parts passed tape is =
    sym h ∙ ap (λ ls. behind lines (lines_from k n ls)) parts ∙ ap (behind lines) (of_read k n line (lines_of next) None passed tape is)

pub lines_end : (k : ℕ) (lines : List Line) (n at : ℕ) (text : List ℕ) (all : Result Read ℕ) → behind lines (lines_from k n (lines_of (drop at text))) ≡ all → length text ≤ at
    → all ≡ Ok (lines, lines_of (drop at text))
lines_end k lines n at text all h end =
    sym h ∙ ap (behind lines) (of_end k n (drop at text) (drop_all at text end)) ∙ ap (λ ls. Ok (ls, lines_of (drop at text))) (append-nil lines)

-- The first line that isn't passed over.
first_passed : (n : ℕ) (line : List ℕ) (lines : List (List ℕ)) → is_passed line ≡ true → script_from n (line ∷ lines) ≡ script_from (n + 1) lines
unfolding script_from
first_passed n line lines passed = rw passed refl

first_read : (n : ℕ) (line : List ℕ) (lines : List (List ℕ)) (read : Option ℕ) → is_passed line ≡ false → tasks_of line ≡ read
    → script_from n (line ∷ lines) ≡ script_behind n read lines
unfolding script_from
first_read n line lines read passed is = rw (passed, is) refl

first_end : (n : ℕ) (rest : List ℕ) → rest ≡ [] → script_from n (lines_of rest) ≡ Err n
unfolding script_from lines_of
first_end n rest e = ap (λ r. script_from n (lines_of r)) e

pub begin_passed : (n : ℕ) (rest next line : List ℕ) (all : Result (Script × List (List ℕ)) ℕ) → script_from n (lines_of rest) ≡ all → lines_of rest ≡ line ∷ lines_of next → is_passed line ≡ true
    → script_from (n + 1) (lines_of next) ≡ all
begin_passed n rest next line all h parts passed = sym (first_passed n line (lines_of next) passed) ∙ ap (script_from n) (sym parts) ∙ h

pub begin_read : (n tasks : ℕ) (rest next line : List ℕ) (all : Result (Script × List (List ℕ)) ℕ) → script_from n (lines_of rest) ≡ all → lines_of rest ≡ line ∷ lines_of next
    → is_passed line ≡ false → tasks_of line ≡ Some tasks → all ≡ script_with tasks (lines_from tasks (n + 1) (lines_of next))
begin_read n tasks rest next line all h parts passed is = sym h ∙ ap (script_from n) parts ∙ first_read n line (lines_of next) (Some tasks) passed is

pub begin_refused : (n : ℕ) (rest next line : List ℕ) (all : Result (Script × List (List ℕ)) ℕ) → script_from n (lines_of rest) ≡ all → lines_of rest ≡ line ∷ lines_of next
    → is_passed line ≡ false → tasks_of line ≡ None → all ≡ Err n
begin_refused n rest next line all h parts passed is = sym h ∙ ap (script_from n) parts ∙ first_read n line (lines_of next) None passed is

pub begin_end : (n at : ℕ) (text : List ℕ) (all : Result (Script × List (List ℕ)) ℕ) → script_from n (lines_of (drop at text)) ≡ all → length text ≤ at → all ≡ Err n
begin_end n at text all h end = sym h ∙ first_end n (drop at text) (drop_all at text end)

-- The whole: the tasks, and then the lines.
pub script_read : (tasks : ℕ) (lines : List Line) (others : List (List ℕ)) (read : Result Read ℕ) (all : Result (Script × List (List ℕ)) ℕ) → all ≡ script_with tasks read → read ≡ Ok (lines, others)
    → all ≡ Ok (record { tasks = tasks; lines = lines }, others)
script_read tasks lines others read all e is = e ∙ ap (script_with tasks) is

pub script_refused : (tasks n : ℕ) (read : Result Read ℕ) (all : Result (Script × List (List ℕ)) ℕ) → all ≡ script_with tasks read → read ≡ Err n → all ≡ Err n
script_refused tasks n read all e is = e ∙ ap (script_with tasks) is
