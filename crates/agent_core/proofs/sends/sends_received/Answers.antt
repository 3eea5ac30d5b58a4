use Rattle.agent_core.proofs.Packets.{sends_received_is}
use Rattle.agent_core.proofs.sends.sends_received.Goals as goal

pub returns : goal.returns
returns c = sends_received_is c.args.id c.args.effects.now c.any_received.result c.any_received.ensures
