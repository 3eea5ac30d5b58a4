-- The tasks so far were closed, or have left.
use Rattle.std.proofs.Common.{ℕ, ◌<◌, slice_get}
use Rattle.agent_end.specs.Owed.{IsOneTrue}
use Rattle.agent_end.proofs.owed.Owed.unclosed.Given as goal

abbrev pub invariant-loop-task : goal.invariant-loop-task
invariant-loop-task l = record {
  told : (t : ℕ) → t < l.task → IsOneTrue (slice_get l.self.closed t) (slice_get l.self.left t);
}
