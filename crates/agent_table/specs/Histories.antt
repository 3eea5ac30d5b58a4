-- Which journals are histories of the sequential agent.
use Rattle.std.specs.Prelude.{◌≡◌, ℕ, ◌<◌, true, List, [], ◌∷◌, reverse, Option, Some, None, is_some, if◌then◌else◌}
use Rattle.std.specs.Option.{option_map}
use Rattle.agent_journal.specs.declared.entry.Cause.{Cause}
use Rattle.agent_journal.specs.declared.entry.Cause.TheVariants as c
use Rattle.agent_journal.specs.declared.entry.Why.TheVariants.{KeepAlive, InFull}
use Rattle.agent_journal.specs.declared.entry.Entry.{Entry}
use Rattle.agent_journal.specs.declared.effect.Effect.{Effect}
use Rattle.agent_journal.specs.declared.setup.Phase.{Phase}
use Rattle.agent_journal.specs.declared.setup.Phase.TheVariants.{Down, Off}
use Rattle.agent_journal.specs.declared.setup.Setup.{Setup}
use Rattle.agent_journal.specs.Readings.{has_left}
use Rattle.agent_table.specs.Readings.{Readings, read_at}
use Rattle.agent_table.specs.Rows.{Row}
use Rattle.agent_table.specs.Sizes.{Sizes}
use Rattle.agent_table.specs.Table.{row_of}

abbrev pub phase_by : Option Row → Phase → Phase
phase_by None phase = phase
phase_by (Some row) phase = row.phase

-- The phase behind a past: that of its newest entry's row. A journal begins in Down.
abbrev pub phase_of : Setup → Sizes → List Entry → Phase
phase_of s l [] = Down
phase_of s l (e ∷ past) = phase_by (row_of s l (read_at s (phase_of s l past) past) e.at e.cause) (phase_of s l past)

-- all readings of a past
abbrev pub readings : Setup → Sizes → List Entry → Readings
readings s l past = read_at s (phase_of s l past) past

-- The row of a cause after a past, where it has one.
abbrev pub row : Setup → Sizes → List Entry → ℕ → Cause → Option Row
row s l past at cause = row_of s l (readings s l past) at cause

abbrev pub effects_of : Option Row → Option (List Effect)
effects_of r = option_map (λ row. row.effects) r

-- What is due, the first of these that has a row.
abbrev pub due_causes : List Cause
due_causes = c.Finish ∷ c.Broke KeepAlive ∷ c.Tick ∷ c.GaveUp ∷ c.Broke InFull ∷ []

abbrev pub first_row : Setup → Sizes → Readings → ℕ → List Cause → Option Cause
first_row s l r at [] = None
first_row s l r at (cause ∷ causes) = if is_some (row_of s l r at cause) then Some cause else first_row s l r at causes

abbrev pub due_by : Setup → Sizes → Readings → ℕ → Option Cause
due_by s l r at = first_row s l r at due_causes

-- Each entry has a row after the entries before it, and that row's effects.
abbrev pub IsLegalPast : Setup → Sizes → List Entry → Type 0
IsLegalPast s l [] = Unit {0}
IsLegalPast s l (e ∷ past) = (effects_of (row s l past e.at e.cause) ≡ Some e.effects) × IsLegalPast s l past

-- A journal is legal: its past is.
abbrev pub IsLegal : Setup → Sizes → List Entry → Type 0
IsLegal s l journal = IsLegalPast s l (reverse journal)

-- The agent has ended, and the Leave of each task was taken.
pub record IsWholePast (s : Setup) (l : Sizes) (past : List Entry) : Type 0 where
  pub ended : phase_of s l past ≡ Off
  pub left : (t : ℕ) → t < s.tasks → has_left t past ≡ true
