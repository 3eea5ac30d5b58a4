use Rattle.std.proofs.Common.{refl}
use Rattle.task_queues.proofs.MailboxMoves.{stays}
use Rattle.task_queues.proofs.mailbox.Mailbox.count_full.Goals as goal

pub another-requires-clause-rule : goal.another-requires-clause-rule
another-requires-clause-rule g c = stays _ _ _ _ refl refl refl refl refl
