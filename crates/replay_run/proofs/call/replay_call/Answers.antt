use Rattle.std.proofs.Common.{ap, ◌∙◌, subst}
use Rattle.replay_agent.specs.Runs.{sizes_of}
use Rattle.command_answers.specs.Answers.{Ends, answer, sink_now}
use Rattle.replay_run.proofs.Headline.{prints_history}
use Rattle.replay_run.proofs.call.replay_call.Goals as goal

pub returns-in-Ok-clause-history : goal.returns-in-Ok-clause-history
returns-in-Ok-clause-history g c =
    let before = sink_now (g.O.Sink.written c.args.out.now) (g.O.Sink.faults c.args.out.now) in
    let now = sink_now (g.O.Sink.written c.finish.new.out) (g.O.Sink.faults c.finish.new.out) in
    prints_history c.args.words.now (sizes_of g.row.ACKS g.row.IN g.row.ROUTES) c.args.script.now c.args.tape c.finish.result before now
    (subst (λ a. Ends c.finish.result before now a) (ap (answer c.in-Ok.status) c.as_slice.ensures ∙ c.in-Ok.ensures.answer) c.finish.ensures.ends) c.requires.one_task c.requires.lines
