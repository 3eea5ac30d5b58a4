use Rattle.mqtt_packet.proofs.Streams.{streams_are_unique}
use Rattle.mqtt_packet.proofs.laws.streams_are_unique.Goals as goal

pub returns : goal.returns
returns c = streams_are_unique
