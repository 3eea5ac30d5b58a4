use Rattle.std.proofs.Common.{◌≡◌, refl, ◌∙◌}
use Rattle.task_end.proofs.Sendings.{leave_tried, same_queue}
use Rattle.task_end.proofs.side.Side.send_leave.Goals as goal

pub invariant_of-self : goal.invariant_of-self
invariant_of-self g c =
    let same = same_queue c.self.inside.sender c.send.new.pass _ _ c.send.result c.send.ensures.sent c.send.ensures.counted in (
      c.self.invariant.0,
      same.0 ∙ c.self.invariant.1,
      c.self.invariant.2,
      same.1 ∙ c.self.invariant.3,
      leave_tried _ c.send.new.pass _ _ c.send.result _ _ _ _ _ _ _ c.self.invariant.4 refl c.send.ensures.sent c.send.ensures.counted refl,
    )
