use Rattle.std.proofs.Common.{arith}
use Rattle.mqtt_packet.specs.Spelling.{string}
use Rattle.mqtt_packet.proofs.Loops.{length_within}
use Rattle.mqtt_packet.proofs.spell.put_filters.Goals as goal

pub put_string-end-requires-clause-room : goal.put_string-end-requires-clause-room
put_string-end-requires-clause-room c =
    let within = length_within string c.args.filters.now c.loop-filter.filter-index c.filter-item.result c.loop-filter-test.true c.filter-item.is in
    omega (arith, within, c.loop-filter.invariant.place, c.requires.room, c.loop-filter.auto.out)
