-- Lines that are counted.
use Rattle.std.proofs.Common.{◌≡◌, ℕ, ◌+◌, ◌≤◌, Bool, true, false, cond, List, [], ◌∷◌, length, drop, sym, ap, ◌∙◌, arith}
use Rattle.std.proofs.lemmas.List.{drop_all}
use Rattle.plain_text.specs.Lines.{lines_of, is_passed}
use Rattle.replay_run.specs.Commands.{first_said}

-- a line more was counted
pub line_counted : (text line : List ℕ) (count at next all : ℕ) → count + length (lines_of (drop at text)) ≡ all → lines_of (drop at text) ≡ line ∷ lines_of (drop next text)
    → count + 1 + length (lines_of (drop next text)) ≡ all
line_counted text line count at next all h e = let size = ap length e in omega arith

no_lines : (text : List ℕ) → text ≡ [] → length (lines_of text) ≡ 0
unfolding lines_of
no_lines text e = ap (λ t. length (lines_of t)) e

pub lines_counted : (text : List ℕ) (count at all : ℕ) → count + length (lines_of (drop at text)) ≡ all → length text ≤ at → count ≡ all
lines_counted text count at all h end = let none = no_lines (drop at text) (drop_all at text end) in omega arith

-- ---- The first line that isn't passed over

by_line : (passed : Bool) (number : ℕ) (line : List ℕ) (lines : List (List ℕ)) → is_passed line ≡ passed → first_said number (line ∷ lines) ≡ cond passed (first_said (number + 1) lines) number
by_line passed number line lines e = ap (λ b. cond b (first_said (number + 1) lines) number) e

-- a line was passed over
pub said_more : (text line : List ℕ) (number at next all : ℕ) → first_said number (lines_of (drop at text)) ≡ all → lines_of (drop at text) ≡ line ∷ lines_of (drop next text) → is_passed line ≡ true
    → first_said (number + 1) (lines_of (drop next text)) ≡ all
said_more text line number at next all h e passed = sym (ap (first_said number) e ∙ by_line true number line (lines_of (drop next text)) passed) ∙ h

pub said_here : (text line : List ℕ) (number at next all : ℕ) → first_said number (lines_of (drop at text)) ≡ all → lines_of (drop at text) ≡ line ∷ lines_of (drop next text) → is_passed line ≡ false → number ≡ all
said_here text line number at next all h e passed = sym (ap (first_said number) e ∙ by_line false number line (lines_of (drop next text)) passed) ∙ h

none_said : (text : List ℕ) (number : ℕ) → text ≡ [] → first_said number (lines_of text) ≡ number
unfolding lines_of
none_said text number e = ap (λ t. first_said number (lines_of t)) e

pub said_none : (text : List ℕ) (number at all : ℕ) → first_said number (lines_of (drop at text)) ≡ all → length text ≤ at → number ≡ all
said_none text number at all h end = sym (none_said (drop at text) number (drop_all at text end)) ∙ h
