use Rattle.std.proofs.Common.{arith}
use Rattle.mqtt_packet.specs.Spelling.{ask_bytes}
use Rattle.mqtt_packet.proofs.Loops.{length_within}
use Rattle.mqtt_packet.proofs.spell.put_asks.Goals as goal

pub put_ask-end-requires-clause-room : goal.put_ask-end-requires-clause-room
put_ask-end-requires-clause-room c =
    let within = length_within ask_bytes c.args.asks.now c.loop-ask.ask-index c.ask-item.result c.loop-ask-test.true c.ask-item.is in
    omega (arith, within, c.loop-ask.invariant.place, c.requires.room, c.loop-ask.auto.out)
