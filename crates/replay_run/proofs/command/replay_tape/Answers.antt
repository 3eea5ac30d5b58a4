use Rattle.std.proofs.Common.{◌≡◌, ℕ, ◌+◌, ◌-◌, length, drop, Err, subst, ap, ◌∙◌}
use Rattle.plain_text.specs.Lines.{lines_of}
use Rattle.broker_tape.specs.Tape.{tape_in}
use Rattle.broker_tape.specs.TapeReading.{Tells}
use Rattle.command_answers.specs.Answers.{Ends, sink_now}
use Rattle.command_answers.specs.Sources.{bad_line}
use Rattle.replay_run.proofs.Told.{tape_told}
use Rattle.replay_run.proofs.command.replay_tape.Goals as goal

pub returns-in-Err-Line-clause-ends : goal.returns-in-Err-Line-clause-ends
returns-in-Err-Line-clause-ends g c =
    let rest = drop c.args.at c.args.text.now in
    let number = c.in-Err-Line.number in
    let here = sink_now (g.O.Sink.written c.args.out.now) (g.O.Sink.faults c.args.out.now) in
    let there = sink_now (g.O.Sink.written c.refuse_line.new.out) (g.O.Sink.faults c.refuse_line.new.out) in
    let told : tape_in (lines_of rest) ≡ Err number =
    subst (λ t. tape_in (lines_of t) ≡ Err number) c.split_at.ensures.back (subst (λ fault. Tells (Err fault) (tape_in (lines_of c.split_at.result.1.now))) c.in-Err-Line.field-0-is c.in-Err-Line.ensures.tape) in
    let lines : c.saturating_sub-before.result ≡ length (lines_of c.args.text.now) - length (lines_of rest) =
    c.saturating_sub-before.ensures ∙ ap (λ n. n - c.count_lines-in-Err-Line.result) c.count_lines.ensures.count
    ∙ ap (λ n. length (lines_of c.args.text.now) - n) (c.count_lines-in-Err-Line.ensures.count ∙ ap (λ t. length (lines_of t)) c.split_at.ensures.back) in
    tape_told c.args.words.now _ number c.args.script.now _ c.refuse_line.result _ _ _ _ told
    (subst (λ (n : ℕ). Ends c.refuse_line.result here there (bad_line (n + number))) lines (rw c.in-Err-Line.field-0-is at c.refuse_line.ensures.ends))
