use Rattle.std.proofs.Common.{refl}
use Rattle.task_queues.proofs.QueueMoves.{stays}
use Rattle.task_queues.proofs.queue.CommandQueue.count_full.Goals as goal

pub another-requires-clause-rule : goal.another-requires-clause-rule
another-requires-clause-rule g c = stays _ _ _ _ refl refl refl refl refl refl refl
