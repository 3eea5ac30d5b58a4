-- The count over the effects so far.
use Rattle.std.proofs.Common.{◌≡◌, ◌≤◌, take, count_by}
use Rattle.session_world.specs.Counts.{says_done}
use Rattle.session_world.proofs.notes.dones_in.Given as goal

abbrev pub invariant-loop-effect : goal.invariant-loop-effect
invariant-loop-effect l = record {
  so_far : l.count ≡ count_by says_done (take l.effect-index l.effects);
  small : l.count ≤ l.effect-index;
}
