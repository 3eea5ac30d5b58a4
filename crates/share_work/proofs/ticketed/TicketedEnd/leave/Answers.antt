use Rattle.std.proofs.Common.{◌≡◌, ℕ, List, ap, ◌∙◌, subst}
use Rattle.task_queues.specs.declared.note.Note.{Note}
use Rattle.task_end.specs.Sides.{TaskSide, sending, trying, leave_of}
use Rattle.share_work.specs.Tickets.{Ticketed, AreOut}
use Rattle.share_work.proofs.Holding.{none_out}
use Rattle.share_work.proofs.ticketed.TicketedEnd.leave.Goals as goal

pub returns-clause-left : goal.returns-clause-left
returns-clause-left g c = subst (λ (t : Ticketed). (more : List Note) × (looks : ℕ) × (fulls : ℕ) × (c.leave.result ≡ sending (trying more looks fulls t.tasking.side) (leave_of t.tasking.side)))
    c.self.view_is c.leave.ensures.left

pub returns-clause-none_out : goal.returns-clause-none_out
returns-clause-none_out g c = ap (λ (s : TaskSide). s.out) c.leave.ensures.left.3
    ∙ none_out c.self.inside.end.side (subst (AreOut c.self.inside.end.side) (ap (λ (t : Ticketed). t.tickets) c.self.view_is ∙ c.requires.none) c.self.invariant)
