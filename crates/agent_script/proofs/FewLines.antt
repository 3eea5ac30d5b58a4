-- A script has at most as many lines as its text has bytes.
use Rattle.std.proofs.Common.{◌≡◌, ℕ, suc, ◌+◌, ◌≤◌, Bool, true, false, cond, List, [], ◌∷◌, length, drop, Option, Some, None, Result, Ok, Err, subst, arith, length-drop}
use Rattle.std.specs.Prelude.{◌==◌}
use Rattle.std.proofs.lemmas.Bool.{cases_Bool}
use mathlib.Core.Logic.{inl, inr}
use Rattle.plain_text.specs.Lines.{lines_of, onto_line, is_passed}
use Rattle.agent_script.specs.declared.script.Line.{Line}
use Rattle.agent_script.specs.Scripts.{Read, lines_from, line_or_number, is_tape}
use Rattle.agent_script.specs.Steps.{line_of}

onto_count : (b : ℕ) (lines : List (List ℕ)) (n : ℕ) → length lines ≤ n → length (onto_line b lines) ≤ suc n
onto_count b [] n h = omega arith
onto_count b (line ∷ lines) n h = omega arith

few_in_text : (text : List ℕ) → length (lines_of text) ≤ length text
unfolding lines_of
few_in_text [] = omega arith
few_in_text (b ∷ text) =
    let rest = few_in_text text in
    let onto = onto_count b (lines_of text) (length text) rest in
    elim (cases_Bool (b == 10)) [ inl feed ↦ rw feed (omega arith) | inr other ↦ rw other onto ]

-- at most n lines were read
abbrev AtMost : Result Read ℕ → ℕ → Type 0
AtMost (Ok read) n = length read.0 ≤ n
AtMost (Err number) n = Unit {0}

at_most_more : (r : Result Read ℕ) (n : ℕ) → AtMost r n → AtMost r (suc n)
at_most_more (Ok read) n h = omega arith
at_most_more (Err number) n h = tt

onto_most : (line : Option Line) (number n : ℕ) (r : Result Read ℕ) → AtMost r n → AtMost (line_or_number number line r) (suc n)
onto_most None number n r h = tt
onto_most (Some line) number n (Ok read) h = omega arith
onto_most (Some line) number n (Err bad) h = tt

by_tests : (passed tape : Bool) (number n : ℕ) (line : Option Line) (lines : List (List ℕ)) (r : Result Read ℕ) → AtMost r n
    → AtMost (cond passed r (cond tape (Ok ([], lines)) (line_or_number number line r))) (suc n)
by_tests true tape number n line lines r h = at_most_more r n h
by_tests false true number n line lines r h = omega arith
by_tests false false number n line lines r h = onto_most line number n r h

few_from : (k number : ℕ) (lines : List (List ℕ)) → AtMost (lines_from k number lines) (length lines)
unfolding lines_from
few_from k number [] = omega arith
few_from k number (line ∷ lines) = by_tests (is_passed line) (is_tape line) number (length lines) (line_of k number line) lines (lines_from k (number + 1) lines) (few_from k (number + 1) lines)

pub few_in_script : (k number at : ℕ) (text : List ℕ) (lines : List Line) (others : List (List ℕ)) → lines_from k number (lines_of (drop at text)) ≡ Ok (lines, others) → length lines ≤ length text
few_in_script k number at text lines others e =
    let most : length lines ≤ length (lines_of (drop at text)) = subst (λ (r : Result Read ℕ). AtMost r (length (lines_of (drop at text)))) e (few_from k number (lines_of (drop at text))) in
    let short = few_in_text (drop at text) in
    omega (arith, length-drop at text)
