use Rattle.mqtt_packet.proofs.Stands.{tells_ok}
use Rattle.mqtt_packet.proofs.splitter.Splitter.next.Goals as goal

pub returns-clause-tells : goal.returns-clause-tells
returns-clause-tells c = tells_ok c.args.self.now c.next_now.new.self c.next_now.result c.next_now.ensures.ok
