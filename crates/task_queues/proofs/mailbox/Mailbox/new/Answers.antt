use Rattle.std.proofs.Common.{rules}
use Rattle.task_queues.proofs.MailboxMoves.{opens, parts}
use Rattle.task_queues.proofs.mailbox.Mailbox.new.Goals as goal

pub ruled-requires-clause-rule : goal.ruled-requires-clause-rule
ruled-requires-clause-rule g c = opens _

pub another-putter-requires-clause-rule : goal.another-putter-requires-clause-rule
another-putter-requires-clause-rule g c = parts _ _ _ (search rules) (search rules)
