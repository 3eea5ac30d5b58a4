use Rattle.std.proofs.Common.{rules}
use Rattle.pending_acks.specs.Commands.{is_command}
use Rattle.pending_acks.proofs.acks.PendingAcks.find_command.Goals as goal

pub returns : goal.returns
returns g c = rw (← c.self.view_is) (c.find_by.ensures (is_command c.args.task c.args.seq) (λ command answer k. search rules))
