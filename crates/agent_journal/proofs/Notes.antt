-- A task's notes are what was completed, passed and closed for it.
use Rattle.std.proofs.Common.{◌≡◌, ℕ, ◌+◌, Bool, true, false, cond, List, [], ◌∷◌, ◌++◌, length, refl, sym, ap, ◌∙◌, arith}
use Rattle.std.specs.Prelude.{◌==◌, count_by}
use Rattle.std.specs.List.{flat_map}
use Rattle.std.proofs.lemmas.Grind.{flat_map-append}
use Rattle.std.proofs.lemmas.List.{length-append}
use Rattle.std.proofs.lemmas.List.Sums.{sum_by-append}
use Rattle.agent_journal.specs.declared.outcome.Outcome.{Outcome}
use Rattle.agent_journal.specs.declared.effect.Effect.{Effect}
use Rattle.agent_journal.specs.declared.effect.Effect.TheVariants as f
use Rattle.agent_journal.specs.Notes.{Told, Completed, Passed, Ended, Note, told_by, noted, notes_by, notes_of, done_by, dones_of, completed_in, is_passed, EntriesAddNotes, NotesAreProjections}
use Rattle.agent_journal.specs.Projections.{is_done, is_pass}

pub entries_add_notes : EntriesAddNotes
entries_add_notes t e past = refl

abbrev dones_in : List Note → List (ℕ × Outcome)
dones_in notes = flat_map (λ note. completed_in note.told) notes

abbrev passes_in : List Note → ℕ
passes_in notes = count_by (λ note. is_passed note.told) notes

one_more : {X : Type 0} (p : X → Bool) (x : X) (xs : List X) → count_by p (x ∷ xs) ≡ cond (p x) 1 0 + count_by p xs
one_more p x xs = sum_by-append (λ y. cond (p y) 1 0) (x ∷ []) xs ∙ omega arith

module _ (t time : ℕ) where
  done_first : (effect : Effect) (others : List Told) → dones_in (noted time (told_by t effect ++ others)) ≡ done_by t effect ++ dones_in (noted time others)
  done_first (f.Send packet) others = refl
  done_first (f.Done task seq outcome) others = go (t == task)
    where
      go : (b : Bool) → dones_in (noted time (cond b (Completed seq outcome ∷ []) [] ++ others)) ≡ cond b ((seq, outcome) ∷ []) [] ++ dones_in (noted time others)
      go true = refl
      go false = refl
  done_first (f.Pass task message) others = go (t == task)
    where
      go : (b : Bool) → dones_in (noted time (cond b (Passed message ∷ []) [] ++ others)) ≡ dones_in (noted time others)
      go true = refl
      go false = refl
  done_first (f.Closed task) others = go (t == task)
    where
      go : (b : Bool) → dones_in (noted time (cond b (Ended ∷ []) [] ++ others)) ≡ dones_in (noted time others)
      go true = refl
      go false = refl

  dones_all : (effects : List Effect) → dones_in (noted time (flat_map (told_by t) effects)) ≡ flat_map (done_by t) effects
  dones_all [] = refl
  dones_all (effect ∷ effects) = done_first effect (flat_map (told_by t) effects) ∙ ap (λ xs. done_by t effect ++ xs) (dones_all effects)

  pass_first : (effect : Effect) (others : List Told) → passes_in (noted time (told_by t effect ++ others)) ≡ cond (is_pass t effect) 1 0 + passes_in (noted time others)
  pass_first (f.Send packet) others = omega arith
  pass_first (f.Done task seq outcome) others = go (t == task)
    where
      go : (b : Bool) → passes_in (noted time (cond b (Completed seq outcome ∷ []) [] ++ others)) ≡ 0 + passes_in (noted time others)
      go true = one_more (λ (note : Note). is_passed note.told) (record { at = time; told = Completed seq outcome }) (noted time others) ∙ omega arith
      go false = omega arith
  pass_first (f.Pass task message) others = go (t == task)
    where
      go : (b : Bool) → passes_in (noted time (cond b (Passed message ∷ []) [] ++ others)) ≡ cond b 1 0 + passes_in (noted time others)
      go true = one_more (λ (note : Note). is_passed note.told) (record { at = time; told = Passed message }) (noted time others) ∙ omega arith
      go false = omega arith
  pass_first (f.Closed task) others = go (t == task)
    where
      go : (b : Bool) → passes_in (noted time (cond b (Ended ∷ []) [] ++ others)) ≡ 0 + passes_in (noted time others)
      go true = one_more (λ (note : Note). is_passed note.told) (record { at = time; told = Ended }) (noted time others) ∙ omega arith
      go false = omega arith

  passes_all : (effects : List Effect) → passes_in (noted time (flat_map (told_by t) effects)) ≡ count_by (is_pass t) effects
  passes_all [] = refl
  passes_all (effect ∷ effects) =
      pass_first effect (flat_map (told_by t) effects) ∙ ap (λ n. cond (is_pass t effect) 1 0 + n) (passes_all effects) ∙ sym (one_more (is_pass t) effect effects)

one_done : (t : ℕ) (effect : Effect) → length (done_by t effect) ≡ cond (is_done t effect) 1 0
one_done t (f.Send packet) = refl
one_done t (f.Done task seq outcome) = go (t == task)
  where
    go : (b : Bool) → length {A = ℕ × Outcome} (cond b ((seq, outcome) ∷ []) []) ≡ cond b 1 0
    go true = refl
    go false = refl
one_done t (f.Pass task message) = refl
one_done t (f.Closed task) = refl

all_done : (t : ℕ) (effects : List Effect) → length (flat_map (done_by t) effects) ≡ count_by (is_done t) effects
all_done t [] = refl
all_done t (effect ∷ effects) =
    let both = length-append (done_by t effect) (flat_map (done_by t) effects) in
    let first = one_done t effect in
    let rest = all_done t effects in
    let sum = one_more (is_done t) effect effects in omega (arith, both, first, rest, sum)

pub notes_are_projections : NotesAreProjections
notes_are_projections t [] = record { dones = refl; completed = refl; messages = refl }
notes_are_projections t (e ∷ past) =
    let before = notes_are_projections t past in
    record {
      dones = flat_map-append (λ (note : Note). completed_in note.told) (notes_of t past) (notes_by t e) ∙ ap (λ xs. xs ++ dones_in (notes_by t e)) before.dones ∙ ap (λ xs. dones_of t past ++ xs) (dones_all t e.at e.effects);
      completed =
          let both = length-append (dones_of t past) (flat_map (done_by t) e.effects) in
          let all = all_done t e.effects in let first = before.completed in omega (arith, both, all, first);
      messages =
          let both = sum_by-append (λ (note : Note). cond (is_passed note.told) 1 0) (notes_of t past) (notes_by t e) in
          let all = passes_all t e.at e.effects in let first = before.messages in omega (arith, both, all, first);
    }
