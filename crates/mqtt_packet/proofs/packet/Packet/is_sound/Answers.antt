use Rattle.mqtt_packet.proofs.Uniqueness.{spelled_where}
use Rattle.mqtt_packet.proofs.packet.Packet.is_sound.Goals as goal

pub returns-clause-spelled : goal.returns-clause-spelled
returns-clause-spelled c = spelled_where c.args.self.now c.fits.result c.fits.ensures c.numbers_fit.ensures
