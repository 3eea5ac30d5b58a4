use Rattle.std.proofs.Common.{sym, subst}
use Rattle.share_work.specs.Working.{Working, IsAtWork, IsThrough}
use Rattle.share_work.proofs.Leaving.{worked}
use Rattle.share_work.proofs.worker.Worker.leave.Goals as goal

pub returns-clause-worked : goal.returns-clause-worked
returns-clause-worked g c = λ all at.
    let inside = c.self.inside in
    let w : Working = record { held = inside.held; current = inside.current; others = inside.others.items; spare = inside.spare; closed = inside.closed; ending = inside.ending; passage = inside.passage } in
    let left = c.leave.ensures.left in
    worked w (subst IsThrough (sym c.self.view_is) c.requires.through) left.0 left.1 left.2 c.leave.result left.3 c.leave.ensures.none_out all
    (subst (IsAtWork all) (sym c.self.view_is) at)
