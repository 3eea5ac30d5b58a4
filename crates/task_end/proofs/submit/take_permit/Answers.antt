use Rattle.std.proofs.Common.{rules}
use Rattle.task_end.proofs.Sendings.{onward_both}
use Rattle.task_end.proofs.submit.take_permit.Goals as goal

pub returns-in-Ok-clause-onward : goal.returns-in-Ok-clause-onward
returns-in-Ok-clause-onward g c = onward_both _ _ _ c.loop.invariant.2 c.take.ensures.onward

pub returns-in-Err-Empty-clause-onward : goal.returns-in-Err-Empty-clause-onward
returns-in-Err-Empty-clause-onward g c = onward_both _ _ _ c.loop.invariant.2 c.take.ensures.onward

pub loop-preserved : goal.loop-preserved
loop-preserved g c = (search rules, search rules, onward_both _ _ _ c.loop.invariant.2 c.take.ensures.onward, search rules)
