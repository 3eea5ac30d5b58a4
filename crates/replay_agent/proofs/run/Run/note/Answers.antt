use Rattle.replay_agent.specs.Runs.{world}
use Rattle.replay_agent.proofs.Entered.{noted_made}
use Rattle.replay_agent.proofs.run.Run.note.Goals as goal

pub returns-clause-noted : goal.returns-clause-noted
returns-clause-noted g c =
    λ lines. noted_made (world c.args.core.now c.args.self.now lines) (world c.make.new.core c.make.new.self lines) (world c.make.new.core c.settle.new.self lines) c.args.now c.args.cause
    c.make.new.self.buffer.items (c.in_ok-make.ensures.made lines) (c.settle.ensures.settled lines)
