use Rattle.std.proofs.Common.{rules, arith}
use Rattle.agent_core.specs.Kept.{readings_in}
use Rattle.agent_core.proofs.Passes.{passed_more, passed_end}
use Rattle.agent_core.proofs.agent.Core.push_passed.Goals as goal

pub loop-task-preserved : goal.loop-task-preserved
loop-task-preserved g c =
    let next = c.in-Some.ensures.next in (
      omega (arith, next.1),
      passed_more (readings_in c.args.self.now) (record { topic = c.args.topic.now; qos = c.args.qos; payload = c.args.payload.now }) c.args.effects.now c.loop-task.effects c.push.new.self c.loop-task.from c.in-Some.task
          next.0 next.2 next.3 c.loop-task.invariant.1 (search rules),
    )

pub returns : goal.returns
returns g c =
    passed_end (readings_in c.args.self.now) (record { topic = c.args.topic.now; qos = c.args.qos; payload = c.args.payload.now }) c.args.effects.now c.loop-task.effects c.loop-task.from c.args.self.now.setup.tasks
    c.loop-task.invariant.0 c.in_default.ensures.next c.loop-task.invariant.1
