use Rattle.std.proofs.Common.{◌∙◌}
use Rattle.share_work.specs.Working.{side_of}
use Rattle.share_work.proofs.Onward.{task_on}
use Rattle.share_work.proofs.running.work.Goals as goal

pub loop-preserved-in-Worked : goal.loop-preserved-in-Worked
loop-preserved-in-Worked g c = (
  c.go.ensures.goes_on.keeps c.args.steps.items c.loop.invariant.0,
  task_on c.args.end.side (side_of c.loop.worker) (side_of c.go.new.self) c.loop.invariant.1 c.go.ensures.goes_on.task,
  c.go.ensures.goes_on.gate ∙ c.loop.invariant.2,
)

pub loop-preserved : goal.loop-preserved
loop-preserved g c = (
  c.go.ensures.goes_on.keeps c.args.steps.items c.loop.invariant.0,
  task_on c.args.end.side (side_of c.loop.worker) (side_of c.go.new.self) c.loop.invariant.1 c.go.ensures.goes_on.task,
  c.go.ensures.goes_on.gate ∙ c.loop.invariant.2,
)

pub returns-in-Over-clause-worked : goal.returns-in-Over-clause-worked
returns-in-Over-clause-worked g c = c.leave.ensures.worked c.args.steps.items (c.go.ensures.goes_on.keeps c.args.steps.items c.loop.invariant.0)
