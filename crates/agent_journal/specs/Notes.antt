-- What a journal tells each task: its notes, in the order of their entries.
use Rattle.std.specs.Prelude.{◌≡◌, ℕ, List, [], ◌∷◌, ◌++◌, ◌==◌, if◌then◌else◌, length, count_by, Bool, true, false}
use Rattle.std.specs.List.{flat_map}
use Rattle.agent_journal.specs.declared.outcome.Outcome.{Outcome}
use Rattle.agent_journal.specs.declared.message.Message.{Message}
use Rattle.agent_journal.specs.declared.entry.Entry.{Entry}
use Rattle.agent_journal.specs.declared.effect.Effect.{Effect}
use Rattle.agent_journal.specs.declared.effect.Effect.TheVariants as f
use Rattle.agent_journal.specs.Projections.{completed_of, messages_of}

-- One thing that a task is told: that a command of its own was completed, a message, or that there will be no more of them.
pub data Told : Type 0 where
  Completed : (seq : ℕ) (outcome : Outcome) → Told
  Passed : (message : Message) → Told
  Ended : Told

-- It has the time of the entry that tells it.
pub record Note : Type 0 where
  pub at : ℕ
  pub told : Told

abbrev pub for : ℕ → ℕ → Told → List Told
for t task told = if t == task then told ∷ [] else []

-- what an effect tells task t
abbrev pub told_by : ℕ → Effect → List Told
told_by t (f.Send packet) = []
told_by t (f.Done task seq outcome) = for t task (Completed seq outcome)
told_by t (f.Pass task message) = for t task (Passed message)
told_by t (f.Closed task) = for t task Ended

abbrev pub noted : ℕ → List Told → List Note
noted time [] = []
noted time (told ∷ others) = record { at = time; told = told } ∷ noted time others

-- the notes that an entry has for task t, in the order of its effects
abbrev pub notes_by : ℕ → Entry → List Note
notes_by t e = noted e.at (flat_map (told_by t) e.effects)

-- all notes of task t
abbrev pub notes_of : ℕ → List Entry → List Note
notes_of t [] = []
notes_of t (e ∷ past) = notes_of t past ++ notes_by t e

-- A command's number with its outcome, where an effect completes a command of task t.
abbrev pub done_by : ℕ → Effect → List (ℕ × Outcome)
done_by t (f.Done task seq outcome) = if t == task then (seq, outcome) ∷ [] else []
done_by t _ = []

-- the completions of task t
abbrev pub dones_of : ℕ → List Entry → List (ℕ × Outcome)
dones_of t [] = []
dones_of t (e ∷ past) = dones_of t past ++ flat_map (done_by t) e.effects

-- ---- Laws

-- One more entry adds its notes behind the others.
abbrev pub EntriesAddNotes : Type 0
EntriesAddNotes = (t : ℕ) (e : Entry) (past : List Entry) → notes_of t (e ∷ past) ≡ notes_of t past ++ notes_by t e

-- the completion that a note tells of
abbrev pub completed_in : Told → List (ℕ × Outcome)
completed_in (Completed seq outcome) = (seq, outcome) ∷ []
completed_in (Passed message) = []
completed_in Ended = []

abbrev pub is_passed : Told → Bool
is_passed (Completed seq outcome) = false
is_passed (Passed message) = true
is_passed Ended = false

-- A task's notes are its completions, its messages and its end: those that complete are its completions in their order, and
-- there are as many messages among them as were passed to it.
pub record AreNotesOf (t : ℕ) (past : List Entry) : Type 0 where
  pub dones : flat_map (λ note. completed_in note.told) (notes_of t past) ≡ dones_of t past
  pub completed : length (dones_of t past) ≡ completed_of t past
  pub messages : count_by (λ note. is_passed note.told) (notes_of t past) ≡ messages_of t past

abbrev pub NotesAreProjections : Type 0
NotesAreProjections = (t : ℕ) (past : List Entry) → AreNotesOf t past
