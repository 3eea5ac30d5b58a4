use Rattle.std.proofs.lemmas.Result.{err_from_is_err_and}
use Rattle.mqtt_packet.specs.Spelling.{ask_bytes}
use Rattle.session_text.proofs.Putting.{puts_out}
use Rattle.session_text.proofs.command.put_asks.Goals as goal

pub returns-in_err-end : goal.returns-in_err-end
returns-in_err-end c =
    let p = err_from_is_err_and c.from_residual.result c.from_residual.ensures.1 in
    rw p.1 (puts_out ask_bytes c.args.asks.now c.loop-ask.ask-index c.ask-item.result c.args.at c.loop-ask.end c.args.out.now c.loop-ask.out c.put_ask.new.out c.in_err-end.field-0.0 p.0 c.loop-ask-test.true c.ask-item.is c.loop-ask.invariant c.in_err-end.ensures)
