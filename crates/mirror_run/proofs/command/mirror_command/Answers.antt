use Rattle.std.proofs.Common.{ℕ, List, subst}
use Rattle.command_answers.specs.Answers.{sink_now}
use Rattle.mirror_run.specs.Answers.{EndsAhead, steps_answer}
use Rattle.mirror_run.specs.Steps.{steps_of}
use Rattle.mirror_run.proofs.Sourced.{source_ends, source_fails}
use Rattle.mirror_run.proofs.command.mirror_command.Goals as goal

pub returns-in-Ok-clause-ends : goal.returns-in-Ok-clause-ends
returns-in-Ok-clause-ends g c =
    let words = c.args.words.now in
    let status = c.mirror_text.result in
    let there = sink_now (g.O.Sink.written c.mirror_text.new.out) (g.O.Sink.faults c.mirror_text.new.out) in
    let of_text = subst (λ (t : List ℕ). EndsAhead words.readers status (sink_now (g.O.Sink.written c.source_text.new.out) (g.O.Sink.faults c.source_text.new.out)) there (λ ahead. steps_answer words ahead (steps_of t))) c.as_slice.ensures.value c.mirror_text.ensures.ends in
    source_ends words c.in-Ok.text.items status _ _ _ _ _ _ c.in-Ok.ensures.all c.in-Ok.ensures.few c.in-Ok.ensures.faults
    (subst (λ out. EndsAhead words.readers status (sink_now (g.O.Sink.written out) (g.O.Sink.faults out)) there (λ ahead. steps_answer words ahead (steps_of c.in-Ok.text.items))) c.in-Ok.ensures.untouched of_text)

pub returns-in-Err-clause-ends : goal.returns-in-Err-clause-ends
returns-in-Err-clause-ends g c = source_fails c.args.words.now c.in-Err.status _ _ _ _ _ _ c.in-Err.ensures.ends
