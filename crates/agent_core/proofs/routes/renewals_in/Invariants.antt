use Rattle.std.proofs.Common.{◌≡◌, take}
use Rattle.std.specs.List.{flat_map}
use Rattle.agent_journal.specs.Wires.{sends}
use Rattle.agent_table.specs.Routes.{renewal_in}
use Rattle.agent_core.proofs.routes.renewals_in.Given as goal

abbrev pub invariant-loop-effect : goal.invariant-loop-effect
invariant-loop-effect l = l.renewals.items ≡ flat_map renewal_in (sends (take l.effect-index l.effects))
