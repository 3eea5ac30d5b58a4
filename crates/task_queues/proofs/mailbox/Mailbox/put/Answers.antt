use Rattle.std.proofs.Common.{ap}
use Rattle.task_queues.specs.declared.end.End.{End}
use Rattle.task_queues.proofs.Moments.{learns}
use Rattle.task_queues.proofs.MailboxMoves.{puts}
use Rattle.task_queues.proofs.mailbox.Mailbox.put.Goals as goal

pub push_as-requires-clause-rule : goal.push_as-requires-clause-rule
push_as-requires-clause-rule g c = (puts _ _ _ _ _ (ap (λ (v : End). v.puts) c.pass.invariant.1) c.requires.sound, learns _ _ _)
