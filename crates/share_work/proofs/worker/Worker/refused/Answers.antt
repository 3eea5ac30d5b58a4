use Rattle.std.proofs.Common.{◌≤◌, length, sym, subst}
use Rattle.share_work.specs.declared.ending.Ending.TheVariants as endings
use Rattle.share_work.specs.Working.{Working, side_of, GoesOn}
use Rattle.share_work.proofs.Stepping.{ends_short, ends_spent}
use Rattle.share_work.proofs.worker.Worker.refused.Goals as goal

pub returns-in-NoMemory-clause-goes_on : goal.returns-in-NoMemory-clause-goes_on
returns-in-NoMemory-clause-goes_on g c =
    let inside = c.self.inside in
    let old : Working = record { held = inside.held; current = inside.current; others = inside.others.items; spare = inside.spare; closed = inside.closed; ending = inside.ending; passage = inside.passage } in
    subst (λ (w : Working). GoesOn w (record old { ending = endings.NoMemory })) c.self.view_is (ends_short old)

pub returns-in-Spent-clause-goes_on : goal.returns-in-Spent-clause-goes_on
returns-in-Spent-clause-goes_on g c =
    let inside = c.self-in-Spent.inside in
    let old : Working = record { held = inside.held; current = inside.current; others = inside.others.items; spare = inside.spare; closed = inside.closed; ending = inside.ending; passage = inside.passage } in
    subst (λ (w : Working). GoesOn w (record old { ending = endings.Spent })) c.self-in-Spent.view_is
    (ends_spent old (subst (λ (w : Working). 4000000000 ≤ length (side_of w).sender.sent) (sym c.self-in-Spent.view_is) (c.requires.spent c.in-Spent.is)))
