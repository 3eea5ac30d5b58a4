use Rattle.std.proofs.lemmas.Result.{err_from_is_err_and}
use Rattle.mqtt_packet.specs.Spelling.{string}
use Rattle.session_text.proofs.Putting.{puts_out}
use Rattle.session_text.proofs.command.put_texts.Goals as goal

pub returns-in_err-end : goal.returns-in_err-end
returns-in_err-end c =
    let p = err_from_is_err_and c.from_residual.result c.from_residual.ensures.1 in
    rw p.1 (puts_out string c.args.texts.now c.loop-text.text-index c.text-item.result c.args.at c.loop-text.end c.args.out.now c.loop-text.out c.put_text.new.out c.in_err-end.field-0.0 p.0 c.loop-text-test.true c.text-item.is c.loop-text.invariant c.in_err-end.ensures)
