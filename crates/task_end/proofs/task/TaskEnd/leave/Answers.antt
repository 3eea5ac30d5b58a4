use Rattle.std.proofs.Common.{◌≡◌, [], ap, ◌∙◌}
use Rattle.task_end.specs.Sides.{Tasking}
use Rattle.task_end.proofs.Loops.{trying_none, tried_on}
use Rattle.task_end.proofs.task.TaskEnd.leave.Goals as goal

pub loop-init : goal.loop-init
loop-init g c = ([], 0, 0, ap (λ (t : Tasking). t.side) c.self.view_is ∙ trying_none c.args.self.side)

pub loop-preserved-then-is_none : goal.loop-preserved-then-is_none
loop-preserved-then-is_none g c = tried_on c.take_in.result c.loop.invariant.0 c.loop.invariant.1 c.loop.invariant.2 c.args.self.side c.loop.side c.send_leave.new.self c.take_in.new.self
    c.loop.invariant.3 c.if-send_leave.ensures.full c.take_in.ensures.some c.take_in.ensures.none

pub loop-preserved : goal.loop-preserved
loop-preserved g c = tried_on c.take_in.result c.loop.invariant.0 c.loop.invariant.1 c.loop.invariant.2 c.args.self.side c.loop.side c.send_leave.new.self c.take_in.new.self
    c.loop.invariant.3 c.if-send_leave.ensures.full c.take_in.ensures.some c.take_in.ensures.none
