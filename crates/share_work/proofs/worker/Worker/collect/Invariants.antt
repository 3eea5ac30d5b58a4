use Rattle.share_work.specs.Working.{GoesOn}
use Rattle.share_work.proofs.worker.Worker.collect.Given as goal

abbrev pub invariant-loop : goal.invariant-loop
invariant-loop g l = GoesOn l.fn.self l.self
