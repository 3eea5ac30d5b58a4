-- A script's steps, task by task.
use Rattle.std.proofs.Common.{◌≡◌, ◌≢◌, ℕ, ◌<◌, ◌==◌, true, false, Bool, List, [], ◌∷◌, ◌++◌, map, length, get_or, replicate, slice_get, slice_set, Option, None, Some, if◌then◌else◌, refl, sym, ap, ◌∙◌, ⊎_elim, append-nil, eq-eqb, ne_eqb, arith}
use Rattle.std.proofs.lemmas.Bool.{cases_eq}
use Rattle.std.proofs.lemmas.List.{map-append, length-set, length-replicate, get_or-replicate, get_or-set_same, get_or-set_other}
use Rattle.std.proofs.lemmas.List.Elements.{filter-append}
use Rattle.std.proofs.lemmas.Option.{slice_get-get_or}
use Rattle.std.specs.List.{AllByRecursion, filter}
use Rattle.agent_script.specs.declared.script.Line.{Line}
use Rattle.agent_script.specs.declared.script.Step.{Step}
use Rattle.agent_script.specs.Asked.{asked_by, asked_in}
use Rattle.agent_script.specs.Laws.{IsReadStep, IsReadLine}
use Rattle.share_work.specs.Steps.{steps_of, asked_of}
use Rattle.share_work.specs.Parting.{AreStepsOf}

step_behind : (t : ℕ) (line : Line) (lines : List Line) → List Step
step_behind t line lines = if line.task == t then line.step ∷ steps_of t lines else steps_of t lines

asks_by : (b : Bool) (s : Step) (rest : List Step) → asked_of (if b then s ∷ rest else rest) ≡ (if b then asked_by s else []) ++ asked_of rest
asks_by true s rest = refl
asks_by false s rest = refl

steps_by : (b : Bool) (line : Line) (rest : List Line) → map (λ (l : Line). l.step) (if b then line ∷ rest else rest) ≡ (if b then line.step ∷ map (λ (l : Line). l.step) rest else map (λ (l : Line). l.step) rest)
steps_by true line rest = refl
steps_by false line rest = refl

pub steps_ask : (t : ℕ) (lines : List Line) → asked_of (steps_of t lines) ≡ asked_in t lines
steps_ask t [] = refl
steps_ask t (line ∷ lines) = ap asked_of (steps_by (line.task == t) line (filter (λ (l : Line). l.task == t) lines))
    ∙ asks_by (line.task == t) line.step (steps_of t lines) ∙ ap (λ l. (if line.task == t then asked_by line.step else []) ++ l) (steps_ask t lines)

read_by : (b : Bool) (tasks : ℕ) (line : Line) (rest : List Line) → IsReadLine tasks line → AllByRecursion IsReadStep (map (λ (l : Line). l.step) rest)
    → AllByRecursion IsReadStep (map (λ (l : Line). l.step) (if b then line ∷ rest else rest))
read_by true tasks line rest is all = (is.step, all)
read_by false tasks line rest is all = all

pub steps_are_read : (tasks t : ℕ) (lines : List Line) → AllByRecursion (IsReadLine tasks) lines → AllByRecursion IsReadStep (steps_of t lines)
steps_are_read tasks t [] all = all
steps_are_read tasks t (line ∷ lines) all = read_by (line.task == t) tasks line (filter (λ (l : Line). l.task == t) lines) all.0 (steps_are_read tasks t lines all.1)

-- ---- One line more

steps_one : (k : ℕ) (lines : List Line) (line : Line) → steps_of k (lines ++ line ∷ []) ≡ steps_of k lines ++ steps_of k (line ∷ [])
steps_one k lines line = ap (map (λ (l : Line). l.step)) (filter-append (λ (l : Line). l.task == k) lines (line ∷ []))
    ∙ map-append (λ (l : Line). l.step) (filter (λ (l : Line). l.task == k) lines) (filter (λ (l : Line). l.task == k) (line ∷ []))

abbrev one_if : Line → Bool → List Step
one_if line b = map (λ (l : Line). l.step) (if b then line ∷ [] else [])

steps_own : (k : ℕ) (lines : List Line) (line : Line) → line.task ≡ k → steps_of k (lines ++ line ∷ []) ≡ steps_of k lines ++ line.step ∷ []
steps_own k lines line e = steps_one k lines line ∙ ap (λ b. steps_of k lines ++ one_if line b) (eq-eqb line.task k e)

steps_other : (k : ℕ) (lines : List Line) (line : Line) → line.task ≢ k → steps_of k (lines ++ line ∷ []) ≡ steps_of k lines
steps_other k lines line apart = steps_one k lines line ∙ ap (λ b. steps_of k lines ++ one_if line b) (ne_eqb line.task k apart) ∙ append-nil (steps_of k lines)

abbrev value_or : List Step → Option (List Step) → List Step
value_or d None = d
value_or d (Some x) = x

module _ (parts : List (List Step)) (line : Line) (was now : List Step) (within : line.task < length parts) (is : was ≡ get_or parts line.task was)
    (one : now ≡ was ++ line.step ∷ []) (tasks : ℕ) (lines : List Line) (are : AreStepsOf tasks lines parts) where
  was_own : was ≡ steps_of line.task lines
  was_own = is ∙ ap (value_or was) (sym (slice_get-get_or parts line.task was within) ∙ are.own line.task (omega (arith, within, are.count)))

  there : (k : ℕ) → k < tasks → slice_get (slice_set parts line.task now) k ≡ Some (get_or (slice_set parts line.task now) k [])
  there k below = slice_get-get_or (slice_set parts line.task now) k [] (omega (arith, below, are.count, length-set parts line.task now))

  own_now : (k : ℕ) → k < tasks → slice_get (slice_set parts line.task now) k ≡ Some (steps_of k (lines ++ line ∷ []))
  own_now k below = there k below ∙ ⊎_elim
      (λ e. ap Some (ap (λ j. get_or (slice_set parts line.task now) j []) (sym e)
      ∙ get_or-set_same parts line.task now [] within ∙ one ∙ ap (λ l. l ++ line.step ∷ []) was_own
      ∙ sym (steps_own line.task lines line refl) ∙ ap (λ j. steps_of j (lines ++ line ∷ [])) e))
      (λ apart. ap Some (get_or-set_other parts line.task k now [] (λ e. apart (sym e)))
      ∙ sym (slice_get-get_or parts k [] (omega (arith, below, are.count))) ∙ are.own k below ∙ ap Some (sym (steps_other k lines line apart)))
      (cases_eq line.task k)

  pub added : AreStepsOf tasks (lines ++ line ∷ []) (slice_set parts line.task now)
  added = record { count = length-set parts line.task now ∙ are.count; own = own_now }

pub none_are : (tasks : ℕ) → AreStepsOf tasks [] (replicate tasks [])
none_are tasks = record {
  count = length-replicate tasks [];
  own = λ k below. slice_get-get_or (replicate tasks []) k [] (omega (arith, below, length-replicate {A = List Step} tasks [])) ∙ ap Some (get_or-replicate tasks k [] [] below);
}
