use Rattle.std.proofs.Common.{List, [], ◌∷◌, ◌++◌, sym, ap, ◌∙◌, subst}
use Rattle.task_end.specs.declared.ticket.Ticket.{Ticket}
use Rattle.share_work.specs.Tickets.{AreOut}
use Rattle.share_work.proofs.Holding.{out_submitted, out_same}
use Rattle.share_work.proofs.ticketed.TicketedEnd.submit.Goals as goal

pub invariant_of-self-in-Ok : goal.invariant_of-self-in-Ok
invariant_of-self-in-Ok g c =
    subst (AreOut c.submit.new.self.side) (sym (c.push_back_reserved.ensures.items ∙ ap (λ (l : List Ticket). l ++ c.in-Ok.ticket ∷ []) c.reserve.ensures.items))
    (out_submitted c.in-Ok.ticket c.self.inside.tickets.items c.self.inside.end.side c.submit.new.self.side c.self.invariant c.submit.ensures.pool c.in-Ok.ensures.is_out c.in-Ok.ensures.out)

pub invariant_of-self-in-Err : goal.invariant_of-self-in-Err
invariant_of-self-in-Err g c = subst (AreOut c.submit.new.self.side) (sym c.reserve.ensures.items)
    (out_same c.self.inside.tickets.items c.self.inside.end.side c.submit.new.self.side c.self.invariant c.submit.ensures.pool c.in-Err.ensures.unheld.1)
