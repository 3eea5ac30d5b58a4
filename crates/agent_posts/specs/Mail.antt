-- The agent's ends of the mailboxes, as contracts see them.
use Rattle.std.specs.Prelude.{◌≡◌, ℕ, ◌+◌, ◌<◌, ◌≤◌, ◌==◌, List, [], ◌∷◌, ◌++◌, length, Option, Some, None, if◌then◌else◌, slice_get, slice_set}
use Rattle.std.specs.List.{AllByRecursion}
use Rattle.agent_journal.specs.declared.entry.Entry.{Entry}
use Rattle.agent_journal.specs.declared.effect.Effect.{Effect}
use Rattle.agent_journal.specs.Notes.{Note as JournalNote, Completed, Passed, Ended, noted}
use Rattle.agent_table.specs.Closings.{HasFewCodes}
use Rattle.task_queues.specs.declared.note.Note.{Note}
use Rattle.task_queues.specs.declared.note.Note.TheVariants as notes
use Rattle.task_queues.specs.Fronts.{front_in, number_in}
use Rattle.task_queues.specs.MailboxPasses.{Putting}
use Rattle.agent_posts.specs.declared.place.Place.{Place}
use Rattle.agent_posts.specs.Waiting.{Placed, told, told_in, waiting, IsPlaceIn, NoneWaits}

-- Of each task, by number, what was put into its mailbox; the place in the journal up to which notes were made; and the note that
-- was made last, with its task, while it couldn't be put.
pub record Mail : Type 0 where
  pub putters : List Putting
  pub place : Place
  pub next : Option (ℕ × Note)

-- what a note of a mailbox says, as the journal says it
abbrev pub said : Note → JournalNote
said (notes.Done seq outcome at front) = record { at = at; told = Completed seq outcome }
said (notes.Message message at front) = record { at = at; told = Passed message }
said (notes.Closed at front) = record { at = at; told = Ended }

-- It says what the journal says there, and its mark is above the number of that entry.
pub record Tells (from : Placed) (note : Note) : Type 0 where
  pub says : said note ≡ from.note
  pub above : from.entry < number_in (front_in note)

-- What the effect at a place of a journal tells, as a note whose mark is above all of the journal's entries.
pub record IsMadeAt (entries : List Entry) (place : Place) (note : Note) : Type 0 where
  pub entry : Entry
  pub effect : Effect
  pub entry_there : slice_get entries place.entry ≡ Some entry
  pub effect_there : slice_get entry.effects place.effects ≡ Some effect
  pub says : noted entry.at (told effect) ≡ said note ∷ []
  pub above : length entries ≤ number_in (front_in note)

-- no entry grants more than eight filters
abbrev pub AreFew : List Entry → Type 0
AreFew entries = AllByRecursion (λ (e : Entry). AllByRecursion HasFewCodes e.effects) entries

-- one note for each, in their order
abbrev pub AreTold : List Placed → List Note → Type 0
AreTold [] [] = Unit {0}
AreTold [] (note ∷ others) = ⊥
AreTold (from ∷ more) [] = ⊥
AreTold (from ∷ more) (note ∷ others) = Tells from note × AreTold more others

-- the note that was made for task t and couldn't be put
abbrev pub held_for : ℕ → Option (ℕ × Note) → List Note
held_for t None = []
held_for t (Some (task, note)) = if t == task then note ∷ [] else []

-- These notes of task t were made, which are all that the journal tells it, but for what waits from a place on.
pub record IsMadeTo (t : ℕ) (entries : List Entry) (place : Place) (made : List Note) : Type 0 where
  pub before : List Placed
  pub in_order : told_in t 0 entries ≡ before ++ waiting t entries place
  pub told : AreTold before made

-- What was put for each task, then the note that is held for it, then what waits for it in the journal, is all that the journal
-- tells it.
pub record IsPosted (entries : List Entry) (m : Mail) : Type 0 where
  pub place : IsPlaceIn entries m.place
  pub made : (t : ℕ) (p : Putting) → slice_get m.putters t ≡ Some p → IsMadeTo t entries m.place (p.put ++ held_for t m.next)

-- nothing is left to be put
pub record IsAllPut (entries : List Entry) (m : Mail) : Type 0 where
  pub none_held : m.next ≡ None
  pub none_waits : NoneWaits (length m.putters) entries m.place

-- behind a note more for task t
pub record PutsOne (t : ℕ) (note : Note) (old new : List Putting) : Type 0 where
  pub before : Putting
  pub there : slice_get old t ≡ Some before
  pub put : new ≡ slice_set old t (record before { put = before.put ++ note ∷ [] })

-- the mailbox of task t was found full once more
pub record FindsFull (t : ℕ) (before : Putting) (old new : List Putting) : Type 0 where
  pub there : slice_get old t ≡ Some before
  pub counted : new ≡ slice_set old t (record before { fulls = before.fulls + 1 })
