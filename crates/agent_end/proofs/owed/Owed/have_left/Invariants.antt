-- The tasks so far have left.
use Rattle.std.proofs.Common.{◌≡◌, ℕ, ◌<◌, true, Some, slice_get}
use Rattle.agent_end.proofs.owed.Owed.have_left.Given as goal

abbrev pub invariant-loop-task : goal.invariant-loop-task
invariant-loop-task l = record {
  left : (t : ℕ) → t < l.task → slice_get l.self.left t ≡ Some true;
}
