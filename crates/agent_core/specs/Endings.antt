-- How open commands end together.
use Rattle.std.specs.Prelude.{Bool, true, false, List, [], ◌∷◌}
use Rattle.agent_core.specs.declared.effects.Ending.{Ending}
use Rattle.agent_core.specs.declared.effects.Ending.TheVariants as ends
use Rattle.agent_journal.specs.declared.effect.Effect.{Effect}
use Rattle.agent_journal.specs.declared.outcome.Outcome.TheVariants as o
use Rattle.agent_journal.specs.Readings.{Pending}
use Rattle.agent_table.specs.Effects.{done, is_publish}

abbrev pub ending_by : Ending → Bool → Pending → List Effect
ending_by ends.Cancelled publish command = done o.Cancelled command ∷ []
ending_by ends.LinkLost true command = []
ending_by ends.LinkLost false command = done o.LinkLost command ∷ []
ending_by ends.SessionLost true command = done o.SessionLost command ∷ []
ending_by ends.SessionLost false command = []

-- the completion of a command that ends so
abbrev pub ending_of : Ending → Pending → List Effect
ending_of ending command = ending_by ending (is_publish command.request) command
