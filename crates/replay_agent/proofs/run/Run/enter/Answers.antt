use Rattle.std.proofs.lemmas.Result.{on_ok_weaker}
use Rattle.replay_agent.specs.Runs.{world}
use Rattle.replay_agent.proofs.Entered.{entered_made}
use Rattle.replay_agent.proofs.run.Run.enter.Goals as goal

pub returns-clause-entered : goal.returns-clause-entered
returns-clause-entered g c =
    on_ok_weaker c.send.result
    (λ f lines. entered_made (world c.args.core.now c.args.self.now lines) (world c.make.new.core c.make.new.self lines) (world c.send.new.core c.send.new.self lines) c.args.now c.args.cause
    c.make.new.self.buffer.items (c.in_ok-make.ensures.made lines) (f lines)) c.send.ensures.sent
