-- How a run ended, told from its journal alone: without the setup, the sizes and the phases.
use Rattle.std.specs.Prelude.{◌≡◌, ℕ, Bool, true, false, not, List, [], ◌∷◌, reverse, Option, Some, None, if◌then◌else◌}
use Rattle.std.specs.List.{list_any}
use Rattle.agent_journal.specs.declared.entry.Why.{Why}
use Rattle.agent_journal.specs.declared.entry.Why.TheVariants as why
use Rattle.agent_journal.specs.declared.entry.Cause.{Cause}
use Rattle.agent_journal.specs.declared.entry.Cause.TheVariants as c
use Rattle.agent_journal.specs.declared.entry.Entry.{Entry}
use Rattle.agent_journal.specs.declared.effect.Effect.{Effect}
use Rattle.agent_journal.specs.declared.effect.Effect.TheVariants as f
use Rattle.agent_journal.specs.declared.ending.Ending.{Ending}
use Rattle.agent_journal.specs.declared.setup.Phase.{Phase}
use Rattle.agent_journal.specs.declared.setup.Phase.TheVariants.{Opening, Up}
use Rattle.agent_journal.specs.declared.setup.Setup.{Setup}
use Rattle.agent_journal.specs.Endings.{ending_by, status}
use Rattle.agent_journal.specs.Wires.{is_opened}
use Rattle.agent_table.specs.Histories.{IsLegal}
use Rattle.agent_table.specs.Sizes.{Sizes}
use Rattle.agent_table.specs.Endings.{ending_of}

abbrev pub is_send : Effect → Bool
is_send (f.Send packet) = true
is_send _ = false

abbrev pub is_fault : Why → Bool
is_fault why.Fault = true
is_fault _ = false

-- What may stand behind the end, and never is the end: a request that sends nothing, and the fault of a call of the link.
abbrev pub comes_behind : Cause → List Effect → Bool
comes_behind (c.Take task seq request) effects = not (list_any is_send effects)
comes_behind (c.Broke reason) effects = is_fault reason
comes_behind _ effects = false

-- Directly behind Opened the phase is Opening. Which of the others it is makes no difference to how a run ends.
abbrev pub phase_behind : Cause → Phase
phase_behind cause = if is_opened cause then Opening else Up

abbrev pub phase_told : List Entry → Phase
phase_told [] = Up
phase_told (e ∷ past) = phase_behind e.cause

abbrev pub told_by : Entry → Phase → Option Ending → Option Ending
told_by e phase ending = if comes_behind e.cause e.effects then ending else Some (ending_by phase e.cause)

-- The newest entry that may not stand behind the end is the one that ended the run.
abbrev pub ending_told : List Entry → Option Ending
ending_told [] = None
ending_told (e ∷ past) = told_by e (phase_told past) (ending_told past)

abbrev pub status_told : Option Ending → ℕ
status_told None = 0
status_told (Some ending) = status ending

-- Whatever setup and sizes a journal is legal for: where it has ended, this is its status.
abbrev pub TellsStatus : List Entry → ℕ → Type 0
TellsStatus journal told = (s : Setup) (l : Sizes) (ending : Ending) → IsLegal s l journal → ending_of s l (reverse journal) ≡ Some ending → told ≡ status ending
