use Rattle.std.proofs.Common.{◌≡◌, Err, subst}
use Rattle.command_answers.specs.Answers.{sink_now}
use Rattle.mirror_run.specs.Answers.{steps_answer}
use Rattle.mirror_run.specs.Steps.{Tells, steps_of}
use Rattle.mirror_run.proofs.Sourced.{line_ends, no_memory, steps_end}
use Rattle.mirror_run.proofs.command.mirror_text.Goals as goal

pub returns-in-Ok-clause-ends : goal.returns-in-Ok-clause-ends
returns-in-Ok-clause-ends g c =
    steps_end c.args.words.now c.args.text.now c.in-Ok.steps c.mirror_call.result (sink_now (g.O.Sink.written c.args.out.now) (g.O.Sink.faults c.args.out.now))
    (sink_now (g.O.Sink.written c.mirror_call.new.out) (g.O.Sink.faults c.mirror_call.new.out)) c.in-Ok.ensures c.mirror_call.ensures.ends

pub returns-in-Err-Line-clause-ends : goal.returns-in-Err-Line-clause-ends
returns-in-Err-Line-clause-ends g c =
    let told : steps_of c.args.text.now ≡ Err c.in-Err-Line.number = subst (λ fault. Tells c.args.text.now (Err fault)) c.in-Err-Line.field-0-is c.in-Err-Line.ensures in
    line_ends c.args.words.now c.args.text.now c.in-Err-Line.number c.refuse_line.result (sink_now (g.O.Sink.written c.args.out.now) (g.O.Sink.faults c.args.out.now))
    (sink_now (g.O.Sink.written c.refuse_line.new.out) (g.O.Sink.faults c.refuse_line.new.out)) told (rw c.in-Err-Line.field-0-is at c.refuse_line.ensures.ends)

pub returns-in-Err-NoMemory-clause-ends : goal.returns-in-Err-NoMemory-clause-ends
returns-in-Err-NoMemory-clause-ends g c =
    no_memory c.args.words.now.readers (sink_now (g.O.Sink.written c.args.out.now) (g.O.Sink.faults c.args.out.now)) (λ ahead. steps_answer c.args.words.now ahead (steps_of c.args.text.now))
