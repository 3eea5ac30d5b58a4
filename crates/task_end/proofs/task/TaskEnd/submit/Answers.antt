use Rattle.task_end.proofs.Sendings.{out_last}
use Rattle.task_end.proofs.task.TaskEnd.submit.Goals as goal

pub returns-clause-is_out : goal.returns-clause-is_out
returns-clause-is_out g c = out_last c.submit.result c.self.inside.side c.submit.new.self c.submit.ensures.holds c.submit.ensures.out
