use Rattle.command_answers.specs.Answers.{sink_now}
use Rattle.mirror_run.specs.Answers.{mirror_answer}
use Rattle.mirror_run.proofs.Sourced.{no_memory, text_ends}
use Rattle.mirror_run.proofs.call.mirror_call.Goals as goal

pub returns-in-Ok-clause-ends : goal.returns-in-Ok-clause-ends
returns-in-Ok-clause-ends g c =
    text_ends c.args.words.now c.args.steps c.as_slice.result.now c.in-Ok.page c.finish.result (sink_now (g.O.Sink.written c.args.out.now) (g.O.Sink.faults c.args.out.now))
    (sink_now (g.O.Sink.written c.finish.new.out) (g.O.Sink.faults c.finish.new.out)) c.as_slice.ensures c.in-Ok.ensures c.finish.ensures.ends

pub returns-in-Err-clause-ends : goal.returns-in-Err-clause-ends
returns-in-Err-clause-ends g c =
    no_memory c.args.words.now.readers (sink_now (g.O.Sink.written c.args.out.now) (g.O.Sink.faults c.args.out.now)) (mirror_answer c.args.words.now c.args.steps)
