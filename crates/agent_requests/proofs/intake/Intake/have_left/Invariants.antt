-- The tasks so far have left.
use Rattle.std.proofs.Common.{◌≡◌, ℕ, ◌<◌, true}
use Rattle.agent_journal.specs.Readings.{has_left}
use Rattle.agent_requests.proofs.intake.Intake.have_left.Given as goal

abbrev pub invariant-loop-task : goal.invariant-loop-task
invariant-loop-task g l = record {
  left : (t : ℕ) → t < l.task → has_left t l.recorder.past ≡ true;
}
