-- The count over the effects so far.
use Rattle.std.proofs.Common.{◌≡◌, ◌≤◌, take, count_by}
use Rattle.session_world.specs.Counts.{is_pass}
use Rattle.session_world.proofs.notes.told_in.Given as goal

abbrev pub invariant-loop-effect : goal.invariant-loop-effect
invariant-loop-effect l = record {
  so_far : l.count ≡ count_by is_pass (take l.effect-index l.effects);
  small : l.count ≤ l.effect-index;
}
