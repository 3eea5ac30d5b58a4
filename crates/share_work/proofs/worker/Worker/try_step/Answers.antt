use Rattle.std.proofs.Common.{Option, Some, refl, sym, ap, ◌∙◌, subst}
use Rattle.agent_script.specs.declared.script.Step.{Step}
use Rattle.agent_script.specs.declared.script.Step.TheVariants as steps
use Rattle.share_work.specs.Working.{Working, GoesOn}
use Rattle.share_work.proofs.Onward.{on}
use Rattle.share_work.proofs.Stepping.{refused_at, submits, waits, listens, passes_by}
use Rattle.share_work.proofs.worker.Worker.try_step.Goals as goal

pub returns-in-Ok-clause-goes_on : goal.returns-in-Ok-clause-goes_on
returns-in-Ok-clause-goes_on g c =
    let inside = c.self.inside in
    let old : Working = record { held = inside.held; current = inside.current; others = inside.others.items; spare = inside.spare; closed = inside.closed; ending = inside.ending; passage = inside.passage } in
    let here = c.in-Some-Do in
    let sent = c.in-Ok.ensures in
    subst (λ (w : Working). GoesOn w (record old { held = c.submit.new.self; current = c.take.new.self })) c.self.view_is
    (subst (λ (o : Option Step). GoesOn old (record old { held = c.submit.new.self; current = o })) (sym c.take.ensures.after)
    (submits g.J.Named.board old here.request c.submit.new.self (sym here.ensures.value ∙ ap Some here.field-0-is) c.submit.ensures.same.0 c.submit.ensures.same.1 c.submit.ensures.task
    sent.sent sent.fronts sent.ticket))

pub returns-in-Some-Do-clause-goes_on : goal.returns-in-Some-Do-clause-goes_on
returns-in-Some-Do-clause-goes_on g c =
    let inside = c.self.inside in
    let old : Working = record { held = inside.held; current = inside.current; others = inside.others.items; spare = inside.spare; closed = inside.closed; ending = inside.ending; passage = inside.passage } in
    let here = c.in-Some-Do in
    let back = c.in-Err.ensures in
    subst (λ (w : Working). GoesOn w c.refused.new.self) c.self.view_is
    (on old (record old { held = c.submit.new.self; current = Some (steps.Do c.in-Err.request) }) c.refused.new.self
    (refused_at old c.in-Err.request c.submit.new.self (sym here.ensures.value ∙ ap Some here.field-0-is ∙ ap (λ r. Some (steps.Do r)) (sym back.back)) c.submit.ensures.same.0 c.submit.ensures.same.1 c.submit.ensures.task
    back.refused.0 back.refused.1 back.refused.2) c.refused.ensures.goes_on)

pub returns-then-len-eq0-clause-goes_on : goal.returns-then-len-eq0-clause-goes_on
returns-then-len-eq0-clause-goes_on g c =
    let inside = c.self.inside in
    let old : Working = record { held = inside.held; current = inside.current; others = inside.others.items; spare = inside.spare; closed = inside.closed; ending = inside.ending; passage = inside.passage } in
    let here = c.in-Some-Wait in
    subst (λ (w : Working). GoesOn w (record old { current = c.take.new.self })) c.self.view_is
    (subst (λ (o : Option Step). GoesOn old (record old { current = o })) (sym c.take.ensures.after)
    (waits old (sym here.ensures.value ∙ ap Some here.field-0-is) (sym c.len.ensures ∙ c.if-len-eq0.true)))

pub returns-then-hears-clause-goes_on : goal.returns-then-hears-clause-goes_on
returns-then-hears-clause-goes_on g c =
    let inside = c.self.inside in
    let old : Working = record { held = inside.held; current = inside.current; others = inside.others.items; spare = inside.spare; closed = inside.closed; ending = inside.ending; passage = inside.passage } in
    let here = c.in-Some-Listen in
    subst (λ (w : Working). GoesOn w (record old { current = c.take.new.self; spare = c.hears.new.spare })) c.self.view_is
    (subst (λ (o : Option Step). GoesOn old (record old { current = o; spare = c.hears.new.spare })) (sym c.take.ensures.after)
    (listens old here.count c.hears.new.spare (sym here.ensures.value ∙ ap Some here.field-0-is) c.if-hears.ensures.heard))

pub returns-in-Some-Shadow-clause-goes_on : goal.returns-in-Some-Shadow-clause-goes_on
returns-in-Some-Shadow-clause-goes_on g c =
    let inside = c.self.inside in
    let old : Working = record { held = inside.held; current = inside.current; others = inside.others.items; spare = inside.spare; closed = inside.closed; ending = inside.ending; passage = inside.passage } in
    let here = c.in-Some-Shadow in
    subst (λ (w : Working). GoesOn w (record old { current = c.take.new.self })) c.self.view_is
    (subst (λ (o : Option Step). GoesOn old (record old { current = o })) (sym c.take.ensures.after)
    (passes_by old (steps.Shadow here.field-0-0 here.field-0-1 here.field-0-2) (sym here.ensures.value ∙ ap Some here.field-0-is) refl refl (λ all at. tt)))

pub returns-in-Some-Jobs-clause-goes_on : goal.returns-in-Some-Jobs-clause-goes_on
returns-in-Some-Jobs-clause-goes_on g c =
    let inside = c.self.inside in
    let old : Working = record { held = inside.held; current = inside.current; others = inside.others.items; spare = inside.spare; closed = inside.closed; ending = inside.ending; passage = inside.passage } in
    let here = c.in-Some-Jobs in
    subst (λ (w : Working). GoesOn w (record old { current = c.take.new.self })) c.self.view_is
    (subst (λ (o : Option Step). GoesOn old (record old { current = o })) (sym c.take.ensures.after)
    (passes_by old (steps.Jobs here.field-0-0 here.field-0-1 here.field-0-2) (sym here.ensures.value ∙ ap Some here.field-0-is) refl refl (λ all at. tt)))
