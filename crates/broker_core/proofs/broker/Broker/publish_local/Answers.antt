use Rattle.std.proofs.lemmas.Result.{IfOk-weaker}
use Rattle.broker_core.proofs.Standing.{own_sound}
use Rattle.broker_core.proofs.broker.Broker.publish_local.Goals as goal

pub returns-clause-sound : goal.returns-clause-sound
returns-clause-sound c =
    IfOk-weaker c.pass_own.result _ _
    (λ r e past stands. own_sound c.args.self.now c.pass_own.new.self c.args.qos c.args.topic.now c.args.payload.now past r.packets r.close c.requires.name c.as_bytes.ensures.utf8 c.requires.size e stands) c.pass_own.ensures.ok
