use Rattle.agent_core.specs.Kept.{readings_in}
use Rattle.agent_core.proofs.Standing.{step_past}
use Rattle.agent_core.proofs.Timely.{effects_in_time, after_in_time}
use Rattle.agent_core.proofs.agent.Core.step.Goals as goal

pub returns-in-Ok-clause-next : goal.returns-in-Ok-clause-next
returns-in-Ok-clause-next g c =
    after_in_time c.args.self.now.setup c.args.self.now.sizes (readings_in c.args.self.now) c.args.at c.args.cause c.in-Ok.effects c.args.self.now c.enter.new.self c.requires c.in-Ok.ensures.next

pub returns-in-Ok-clause-stands : goal.returns-in-Ok-clause-stands
returns-in-Ok-clause-stands g c =
    step_past c.args.self.now c.enter.new.self c.args.at c.args.cause c.in-Ok.effects c.in-Ok.ensures.sound
    (effects_in_time c.args.self.now.setup c.args.self.now.sizes (readings_in c.args.self.now) c.args.at c.args.cause c.in-Ok.effects c.requires c.in-Ok.ensures.effects)
    (after_in_time c.args.self.now.setup c.args.self.now.sizes (readings_in c.args.self.now) c.args.at c.args.cause c.in-Ok.effects c.args.self.now c.enter.new.self c.requires c.in-Ok.ensures.next)
