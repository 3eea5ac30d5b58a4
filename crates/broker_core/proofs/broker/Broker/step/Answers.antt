use Rattle.std.proofs.lemmas.Result.{IfOk-weaker}
use Rattle.broker_core.proofs.Standing.{came_sound}
use Rattle.broker_core.proofs.broker.Broker.step.Goals as goal

pub returns-clause-sound : goal.returns-clause-sound
returns-clause-sound c =
    IfOk-weaker c.answer.result _ _ (λ r e past stands. came_sound c.args.self.now c.answer.new.self c.args.packet past r.packets r.close c.requires.there c.requires.sound e stands) c.answer.ensures.ok
