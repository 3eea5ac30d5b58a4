-- The rest leads to where all events lead.
use Rattle.std.proofs.Common.{◌≡◌, ◌+◌, ◌≤◌, length, reverse}
use Rattle.session_world.specs.Generating.{generated}
use Rattle.session_world.proofs.Following.{Follows}
use Rattle.session_world.proofs.seeded.run.Given as goal

abbrev pub invariant-events : goal.invariant-events
invariant-events l = record {
  leads : Follows l.world.kept (reverse l.left.items) (generated l.seed l.n);
  few : l.world.kept.events + length l.left.items ≤ l.n;
}

abbrev pub decreases-events : goal.decreases-events
decreases-events l = length l.left.items
