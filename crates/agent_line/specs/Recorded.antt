-- An agent and its journal, as contracts see them.
use Rattle.std.specs.Prelude.{◌≡◌, ◌⊎◌, ℕ, List, [], ◌∷◌, ◌++◌, Bool, true, false, Option, Some, None}
use Rattle.std.specs.List.{list_any}
use Rattle.agent_journal.specs.declared.entry.Cause.{Cause}
use Rattle.agent_journal.specs.declared.entry.Cause.TheVariants as c
use Rattle.agent_journal.specs.declared.entry.Entry.{Entry}
use Rattle.agent_journal.specs.declared.effect.Effect.{Effect}
use Rattle.agent_journal.specs.declared.setup.Setup.{Setup}
use Rattle.agent_journal.specs.declared.setup.Phase.{Phase}
use Rattle.agent_journal.specs.Readings.{Pending}
use Rattle.agent_journal.specs.Wires.{AreReadings}
use Rattle.agent_table.specs.Histories.{phase_of, row, due_by, readings}
use Rattle.agent_table.specs.Rows.{Row}
use Rattle.agent_table.specs.Sizes.{Sizes}
use Rattle.agent_ties.specs.Seen.{entry}

pub record Recorded : Type 0 where
  pub setup : Setup
  pub sizes : Sizes
  -- the journal's entries, newest first
  pub past : List Entry

abbrev pub phase_in : Recorded → Phase
phase_in r = phase_of r.setup r.sizes r.past

abbrev pub row_in : Recorded → ℕ → Cause → Option Row
row_in r at cause = row r.setup r.sizes r.past at cause

abbrev pub due_in : Recorded → ℕ → Option Cause
due_in r at = due_by r.setup r.sizes (readings r.setup r.sizes r.past) at

abbrev pub with_row : Recorded → ℕ → Cause → Row → Recorded
with_row r at cause found = record r { past = entry at cause found ∷ r.past }

-- The table has a row for the cause, and its entry is the newest one.
pub record Makes (old : Recorded) (at : ℕ) (cause : Cause) (new : Recorded) : Type 0 where
  pub found : Row
  pub is : row_in old at cause ≡ Some found
  pub newest : new ≡ with_row old at cause found

-- Nothing has changed, or the table's entry of this cause is the newest one: what a call may leave that found no memory.
abbrev pub MayMake : Recorded → ℕ → Cause → Recorded → Type 0
MayMake old at cause new = (new ≡ old) ⊎ Makes old at cause new

-- the task and the number of an open command
abbrev pub command_of : Pending → ℕ × ℕ
command_of command = (command.task, command.seq)

abbrev pub newest_effects : List Entry → List Effect
newest_effects [] = []
newest_effects (e ∷ past) = e.effects

-- the entry of a cause, where the table has a row
abbrev pub noted_by : Recorded → ℕ → Cause → Option Row → Recorded
noted_by r at cause None = r
noted_by r at cause (Some found) = with_row r at cause found

abbrev pub noted : Recorded → ℕ → Cause → Recorded
noted r at cause = noted_by r at cause (row_in r at cause)

abbrev pub is_take : Cause → Bool
is_take (c.Take task seq request) = true
is_take _ = false

-- none of these entries takes a request, and all have this time
pub record AreOthers (at : ℕ) (more : List Entry) : Type 0 where
  pub none_taken : list_any (λ (e : Entry). is_take e.cause) more ≡ false
  pub times : AreReadings (at ∷ []) more

-- Entries were added, and none of them takes a request.
pub record Grows (at : ℕ) (old new : Recorded) : Type 0 where
  pub setup : new.setup ≡ old.setup
  pub sizes : new.sizes ≡ old.sizes
  pub more : List Entry
  pub past : new.past ≡ more ++ old.past
  pub others : AreOthers at more

-- The entry of this cause was added, and behind it others that take no request.
pub record Enters (at : ℕ) (cause : Cause) (old new : Recorded) : Type 0 where
  pub setup : new.setup ≡ old.setup
  pub sizes : new.sizes ≡ old.sizes
  pub more : List Entry
  pub first : Entry
  pub past : new.past ≡ more ++ first ∷ old.past
  pub is : first.cause ≡ cause
  pub time : first.at ≡ at
  pub others : AreOthers at more
