-- Rows of the agent's table, and what all of its parts share.
use Rattle.std.specs.Prelude.{Bool, List, ◌++◌, Option, Some, None, if◌then◌else◌}
use Rattle.agent_journal.specs.declared.effect.Effect.{Effect}
use Rattle.agent_journal.specs.declared.setup.Setup.{Setup}
use Rattle.agent_journal.specs.declared.setup.Phase.{Phase}
use Rattle.agent_journal.specs.declared.setup.Phase.TheVariants.{Off}
use Rattle.agent_table.specs.Effects.{cancel_all, close}
use Rattle.agent_table.specs.Readings.{Readings}

-- A row: the effects, in their order, and the phase then.
pub record Row : Type 0 where
  pub effects : List Effect
  pub phase : Phase

abbrev pub to : Phase → List Effect → Option Row
to phase effects = Some (record { effects = effects; phase = phase })

abbrev pub when : Bool → Option Row → Option Row
when condition row = if condition then row else None

-- the end of the agent: all open commands are cancelled and all tasks closed
abbrev pub ends : Setup → Readings → Option Row
ends s r = to Off (cancel_all r ++ close s r)
