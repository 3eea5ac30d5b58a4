use Rattle.std.proofs.Common.{List, ℕ, subst}
use Rattle.command_answers.specs.Answers.{Ends, sink_now}
use Rattle.replay_run.specs.Commands.{text_answer}
use Rattle.replay_run.proofs.Told.{source_told}
use Rattle.replay_run.proofs.command.replay_source.Goals as goal

pub returns-in-Ok-clause-ends : goal.returns-in-Ok-clause-ends
returns-in-Ok-clause-ends g c =
    let words = c.args.words.now in
    let status = c.replay_text.result in
    let there = sink_now (g.O.Sink.written c.replay_text.new.out) (g.O.Sink.faults c.replay_text.new.out) in
    let of_text = subst (λ (t : List ℕ). Ends status (sink_now (g.O.Sink.written c.source_text.new.out) (g.O.Sink.faults c.source_text.new.out)) there (text_answer words t)) c.as_slice.ensures.value c.replay_text.ensures.ends in
    source_told words c.in-Ok.text.items status _ _ _ _ _ _ _ _ c.in-Ok.ensures.all c.in-Ok.ensures.few c.in-Ok.ensures.faults
    (subst (λ out. Ends status (sink_now (g.O.Sink.written out) (g.O.Sink.faults out)) there (text_answer words c.in-Ok.text.items)) c.in-Ok.ensures.untouched of_text)
