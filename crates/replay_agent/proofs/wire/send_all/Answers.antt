use Rattle.std.proofs.Common.{◌≡◌, ◌-◌, length, take, drop, ap, ◌∙◌, length-drop}
use Rattle.agent_link.specs.Wires.{onto_last}
use Rattle.broker_tape.specs.Playing.{fitting, room_behind}
use Rattle.replay_agent.proofs.Sends.{sent_more, room_more, fits_more, unsome, slice_rest}
use Rattle.replay_agent.proofs.wire.send_all.Goals as goal

pub pieces-preserved : goal.pieces-preserved
pieces-preserved c =
    let link = c.args.link.now in
    let bytes = c.args.bytes.now in
    let sent = c.pieces.sent in
    let count = c.in-Ok.count in
    let before = c.pieces.invariant in
    let rest : count ≡ fitting (room_behind link.room sent) (length bytes - sent) =
    c.in-Ok.ensures.fits ∙ ap (λ piece. fitting c.pieces.link.room (length piece)) (slice_rest sent bytes) ∙ ap (λ room. fitting room (length (drop sent bytes))) before.room
    ∙ ap (fitting (room_behind link.room sent)) (length-drop sent bytes)
    in
    record {
      fits = fits_more link.room (length bytes) sent count before.fits rest;
      taken = sent_more link.taken c.pieces.link.taken c.send.new.self.taken bytes sent count before.taken (unsome c.in-Ok.ensures.taken ∙ ap (λ piece. onto_last c.pieces.link.taken (take count piece)) (slice_rest sent bytes));
      room = c.in-Ok.ensures.room ∙ ap (λ room. room_behind room count) before.room ∙ room_more link.room sent count;
      given = unsome c.in-Ok.ensures.given ∙ before.given;
      left = c.in-Ok.ensures.left ∙ before.left;
      counted = c.in-Ok.ensures.uncounted ∙ before.counted;
    }
