use Rattle.std.proofs.Common.{ap, ◌∙◌, Some, subst}
use Rattle.share_work.specs.Working.{Working, at_step, GoesOn}
use Rattle.share_work.proofs.Stepping.{comes_to}
use Rattle.share_work.proofs.worker.Worker.come_on.Goals as goal

pub returns-clause-goes_on : goal.returns-clause-goes_on
returns-clause-goes_on g c =
    let inside = c.self.inside in
    let old : Working = record { held = inside.held; current = inside.current; others = inside.others.items; spare = inside.spare; closed = inside.closed; ending = inside.ending; passage = inside.passage } in
    let step = c.in-Some.step in
    let rest = c.pop_front.new.self.items in
    subst (λ (w : Working). GoesOn w (record old { current = Some step; others = rest; passage = c.come_to.new.passage })) c.self.view_is
    (comes_to old step rest (ap (λ (w : Working). w.current) c.self.view_is ∙ c.requires.none) c.in-Some.ensures.items c.come_to.new.passage
    (c.come_to.ensures ∙ ap (λ n. at_step step n inside.passage) c.requests.ensures))
