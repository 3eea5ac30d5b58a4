use Rattle.std.proofs.Common.{◌≡◌}
use Rattle.share_work.specs.Tickets.{IsSameTask}
use Rattle.share_work.specs.Working.{IsAtWork, side_of}
use Rattle.share_work.proofs.running.work.Given as goal

abbrev pub invariant-loop : goal.invariant-loop
invariant-loop g l = IsAtWork l.fn.steps.items l.worker × IsSameTask l.fn.end.side (side_of l.worker) × (l.worker.passage.task ≡ l.fn.task)
