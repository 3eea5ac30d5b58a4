use Rattle.std.proofs.Common.{◌≡◌, Err, subst}
use Rattle.agent_script.specs.Scripts.{script_of}
use Rattle.agent_script.specs.ScriptReading.{Tells}
use Rattle.replay_run.proofs.Told.{line_told}
use Rattle.replay_run.proofs.command.replay_text.Goals as goal

pub returns-in-Err-Line-clause-ends : goal.returns-in-Err-Line-clause-ends
returns-in-Err-Line-clause-ends g c =
    let told : script_of c.args.text.now ≡ Err c.in-Err-Line.number =
    subst (λ fault. Tells c.args.text.now (Err fault)) c.in-Err-Line.field-0-is c.in-Err-Line.ensures.script in
    line_told c.args.words.now c.args.text.now c.in-Err-Line.number c.refuse_line.result
    (g.O.Sink.written c.args.out.now) (g.O.Sink.written c.refuse_line.new.out) (g.O.Sink.faults c.args.out.now) (g.O.Sink.faults c.refuse_line.new.out) told
    (rw c.in-Err-Line.field-0-is at c.refuse_line.ensures.ends)
