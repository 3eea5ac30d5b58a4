use Rattle.mqtt_packet.specs.declared.packet.Packet.TheVariants as p
use Rattle.session_world.specs.Counts as counts
use Rattle.session_world.proofs.Passing.{one_more, none_missing}
use Rattle.session_world.proofs.world.is_out_at.Goals as goal

pub returns-in-Some : goal.returns-in-Some
returns-in-Some c = one_more (counts.is_on counts.out_topic) c.args.broker.now.passed c.args.place c.in-Some.message.now c.is_out.result c.in-Some.ensures.now c.is_out.ensures

pub returns-in-None : goal.returns-in-None
returns-in-None c = absurd (none_missing c.args.broker.now.passed c.args.place p.PingReq c.requires c.in-None.ensures.now)
