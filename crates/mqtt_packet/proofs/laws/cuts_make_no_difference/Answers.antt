use Rattle.mqtt_packet.proofs.Cuts.{cuts_make_no_difference}
use Rattle.mqtt_packet.proofs.laws.cuts_make_no_difference.Goals as goal

pub returns : goal.returns
returns c = cuts_make_no_difference
