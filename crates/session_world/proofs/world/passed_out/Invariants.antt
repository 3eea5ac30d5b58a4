-- The count over the messages so far.
use Rattle.std.proofs.Common.{◌≡◌, ◌≤◌, take, count_by}
use Rattle.session_world.specs.Counts.{is_on, out_topic}
use Rattle.session_world.proofs.world.passed_out.Given as goal

abbrev pub invariant-loop-place : goal.invariant-loop-place
invariant-loop-place l = record {
  so_far : l.count ≡ count_by (is_on out_topic) (take l.place l.broker.passed);
  small : l.count ≤ l.place;
}
