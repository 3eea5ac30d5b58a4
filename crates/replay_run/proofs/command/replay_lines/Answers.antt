use Rattle.std.proofs.Common.{◌≡◌, drop, Err, subst}
use Rattle.std.specs.Option.{option_copied}
use Rattle.thing_script.specs.Reading.{Tells}
use Rattle.thing_script.specs.Topics.{script_with}
use Rattle.replay_run.proofs.Told.{tasks_told, topic_told}
use Rattle.replay_run.proofs.command.replay_lines.Goals as goal

pub returns-then-script-ne1-clause-ends : goal.returns-then-script-ne1-clause-ends
returns-then-script-ne1-clause-ends g c =
    tasks_told c.args.words.now c.args.text.now c.args.script _ c.first_said.result c.refuse_line.result _ _ _ _ c.if-script-ne1.true c.first_said.ensures c.refuse_line.ensures.ends

pub returns-in-Err-Line-clause-ends : goal.returns-in-Err-Line-clause-ends
returns-in-Err-Line-clause-ends g c =
    let number = c.in-Err-Line.number in
    let told : script_with c.args.words.now.thing c.args.script ≡ Err number =
    subst (λ t. script_with t c.args.script ≡ Err number) c.thing_of.ensures (subst (λ fault. Tells (Err fault) (script_with (option_copied c.thing_of.result) c.args.script)) c.in-Err-Line.field-0-is c.in-Err-Line.ensures.script) in
    topic_told c.args.words.now c.args.text.now c.args.script _ number c.refuse_line-in-Err-Line.result _ _ _ _ c.if-script-ne1.false told (rw c.in-Err-Line.field-0-is at c.refuse_line-in-Err-Line.ensures.ends)
