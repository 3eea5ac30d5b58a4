-- Steps of the loop that reads a mirror's source line by line.
use Rattle.std.proofs.Common.{◌≡◌, ℕ, ◌+◌, ◌≤◌, List, [], ◌∷◌, ◌++◌, length, drop, Option, Some, None, Result, Ok, Err, true, false, refl, sym, ap, ◌∙◌, append_assoc, append-nil}
use Rattle.std.proofs.lemmas.List.{drop_all}
use Rattle.plain_text.specs.Lines.{lines_of, is_passed}
use Rattle.mirror_run.specs.declared.steps.MirrorStep.{MirrorStep}
use Rattle.mirror_run.specs.Steps.{steps_from, step_of, step_or_number}

-- the steps that were read, and behind them those of the rest
abbrev pub behind : List MirrorStep → Result (List MirrorStep) ℕ → Result (List MirrorStep) ℕ
behind steps (Ok rest) = Ok (steps ++ rest)
behind steps (Err number) = Err number

behind_onto : (steps : List MirrorStep) (step : MirrorStep) (n : ℕ) (rest : Result (List MirrorStep) ℕ) → behind (steps ++ step ∷ []) rest ≡ behind steps (step_or_number n (Some step) rest)
behind_onto steps step n (Ok rest) = ap (λ ls. Ok ls) (append_assoc steps (step ∷ []) rest)
behind_onto steps step n (Err number) = refl

of_passed : (n : ℕ) (line : List ℕ) (lines : List (List ℕ)) → is_passed line ≡ true → steps_from n (line ∷ lines) ≡ steps_from (n + 1) lines
unfolding steps_from
of_passed n line lines passed = rw passed refl

of_read : (n : ℕ) (line : List ℕ) (lines : List (List ℕ)) (read : Option MirrorStep) → is_passed line ≡ false → step_of line ≡ read → steps_from n (line ∷ lines) ≡ step_or_number n read (steps_from (n + 1) lines)
unfolding steps_from
of_read n line lines read passed is = rw passed (ap (λ r. step_or_number n r (steps_from (n + 1) lines)) is)

of_end : (n : ℕ) (rest : List ℕ) → rest ≡ [] → steps_from n (lines_of rest) ≡ Ok []
unfolding steps_from lines_of
of_end n rest e = ap (λ r. steps_from n (lines_of r)) e

pub line_passed : (steps : List MirrorStep) (n : ℕ) (rest next line : List ℕ) (all : Result (List MirrorStep) ℕ) → behind steps (steps_from n (lines_of rest)) ≡ all → lines_of rest ≡ line ∷ lines_of next
    → is_passed line ≡ true → behind steps (steps_from (n + 1) (lines_of next)) ≡ all
line_passed steps n rest next line all h parts passed = ap (behind steps) (sym (of_passed n line (lines_of next) passed)) ∙ ap (λ ls. behind steps (steps_from n ls)) (sym parts) ∙ h

pub line_read : (steps : List MirrorStep) (read : MirrorStep) (n : ℕ) (rest next line : List ℕ) (all : Result (List MirrorStep) ℕ) → behind steps (steps_from n (lines_of rest)) ≡ all → lines_of rest ≡ line ∷ lines_of next
    → is_passed line ≡ false → step_of line ≡ Some read → behind (steps ++ read ∷ []) (steps_from (n + 1) (lines_of next)) ≡ all
line_read steps read n rest next line all h parts passed is =
    behind_onto steps read n (steps_from (n + 1) (lines_of next)) ∙ ap (behind steps) (sym (of_read n line (lines_of next) (Some read) passed is))
    ∙ ap (λ ls. behind steps (steps_from n ls)) (sym parts) ∙ h

pub line_refused : (steps : List MirrorStep) (n : ℕ) (rest next line : List ℕ) (all : Result (List MirrorStep) ℕ) → behind steps (steps_from n (lines_of rest)) ≡ all → lines_of rest ≡ line ∷ lines_of next
    → is_passed line ≡ false → step_of line ≡ None → all ≡ Err n
line_refused steps n rest next line all h parts passed is = sym h ∙ ap (λ ls. behind steps (steps_from n ls)) parts ∙ ap (behind steps) (of_read n line (lines_of next) None passed is)

pub lines_end : (steps : List MirrorStep) (n at : ℕ) (text : List ℕ) (all : Result (List MirrorStep) ℕ) → behind steps (steps_from n (lines_of (drop at text))) ≡ all → length text ≤ at → all ≡ Ok steps
lines_end steps n at text all h end = sym h ∙ ap (behind steps) (of_end n (drop at text) (drop_all at text end)) ∙ ap (λ ls. Ok ls) (append-nil steps)
