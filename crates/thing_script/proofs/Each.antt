-- What holds of whatever is made.
use Rattle.std.proofs.Common.{ℕ, List, [], ◌∷◌, Option, Result, Ok, Err}
use Rattle.std.specs.List.{AllByRecursion}
use Rattle.agent_script.specs.declared.script.Line.{Line}
use Rattle.thing_script.specs.Topics.{lines_with, onto, request_line}

abbrev pub OkIs : {A : Type 0} → (A → Type 0) → Result A ℕ → Type 0
OkIs P (Ok x) = P x
OkIs P (Err number) = Unit {0}

-- what each line's request has, all of them have
module _ (thing : Option (List ℕ)) (P Q : Line → Type 0) (keeps : (line : Line) → P line → OkIs Q (request_line thing line)) where
  onto_each : (line : Result Line ℕ) (lines : Result (List Line) ℕ) → OkIs Q line → OkIs (AllByRecursion Q) lines → OkIs (AllByRecursion Q) (onto line lines)
  onto_each (Ok line) (Ok lines) h k = (h, k)
  onto_each (Ok line) (Err number) h k = tt
  onto_each (Err number) lines h k = tt

  pub each : (lines : List Line) → AllByRecursion P lines → OkIs (AllByRecursion Q) (lines_with thing lines)
  unfolding lines_with
  each [] h = tt
  each (line ∷ lines) h = onto_each (request_line thing line) (lines_with thing lines) (keeps line h.0) (each lines h.1)
