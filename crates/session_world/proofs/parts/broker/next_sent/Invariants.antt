-- Effects that send nothing are left behind.
use Rattle.std.proofs.Common.{◌≡◌, length}
use Rattle.agent_journal.specs.Wires.{sends}
use Rattle.session_world.specs.Queued.{items_in}
use Rattle.session_world.proofs.parts.broker.next_sent.Given as goal

abbrev pub invariant-effects : goal.invariant-effects
invariant-effects l = sends (items_in l.up) ≡ sends (items_in l.initial.up)

abbrev pub decreases-effects : goal.decreases-effects
decreases-effects l = length (items_in l.up)
