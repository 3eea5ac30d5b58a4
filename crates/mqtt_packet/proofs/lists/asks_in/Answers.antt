use Rattle.std.proofs.Common.{◌<◌, length, arith, length-append, [], ◌∷◌}
use Rattle.mqtt_packet.specs.Reading.{ask_at}
use Rattle.mqtt_packet.proofs.Members.{one_read}
use Rattle.mqtt_packet.proofs.lists.asks_in.Goals as goal

pub loop-rest-preserved : goal.loop-rest-preserved
loop-rest-preserved c =
    let some : 0 < length c.loop-rest.rest.now = grind (arith, c.is_empty.ensures, c.loop-rest-test.true) in
    let inv = c.loop-rest.invariant in
    rw c.in_ok-push.ensures.ok (record {
      room = omega (arith, inv.room, c.in_ok-ask.ensures.shorter, length-append c.loop-rest.asks (c.in_ok-ask.ask ∷ []));
      so_far = one_read ask_at c.loop-rest.asks c.in_ok-ask.ask (length c.args.bytes.now) c.loop-rest.rest.now c.in_ok-ask.behind.now _ c.in_ok-ask.ensures.value some inv.room inv.so_far;
    })
