use Rattle.std.proofs.Common.{[], ◌∷◌, ◌++◌, sym, ap, ◌∙◌, subst, arith}
use Rattle.task_end.specs.declared.ticket.Ticket.{Ticket}
use Rattle.share_work.specs.Steps.{IsOver}
use Rattle.share_work.specs.Tickets.{Ticketed, AreOut}
use Rattle.share_work.proofs.Coming.{over_told}
use Rattle.share_work.proofs.Holding.{next_is_out, out_collected, out_back}
use Rattle.share_work.proofs.ticketed.TicketedEnd.collect.Goals as goal

pub collect-requires : goal.collect-requires
collect-requires g c = (
  omega arith,
  next_is_out c.self.inside.end.side c.in-Some.ticket c.pop_front.new.self.items (subst (AreOut c.self.inside.end.side) c.in-Some.ensures.items c.self.invariant),
)

pub invariant_of-self : goal.invariant_of-self
invariant_of-self g c = out_collected c.in-Some.ticket c.pop_front.new.self.items c.self.inside.end.side c.collect.new.self.side
    (subst (AreOut c.self.inside.end.side) c.in-Some.ensures.items c.self.invariant) c.in-Got.ensures.given

pub invariant_of-self-in-NotYet : goal.invariant_of-self-in-NotYet
invariant_of-self-in-NotYet g c =
    let back = c.in-NotYet.ensures.back in
    subst (AreOut c.collect.new.self.side) (sym (c.push_back_reserved.ensures.items ∙ ap (λ (t : Ticket). c.pop_front.new.self.items ++ t ∷ []) back.0))
    (out_back c.in-Some.ticket c.pop_front.new.self.items c.self.inside.end.side c.collect.new.self.side
    (subst (AreOut c.self.inside.end.side) c.in-Some.ensures.items c.self.invariant) back.1 back.2)

pub invariant_of-self-in-MessagesFirst : goal.invariant_of-self-in-MessagesFirst
invariant_of-self-in-MessagesFirst g c =
    let back = c.in-MessagesFirst.ensures.back in
    subst (AreOut c.collect.new.self.side) (sym (c.push_back_reserved-in-MessagesFirst.ensures.items ∙ ap (λ (t : Ticket). c.pop_front.new.self.items ++ t ∷ []) back.0))
    (out_back c.in-Some.ticket c.pop_front.new.self.items c.self.inside.end.side c.collect.new.self.side
    (subst (AreOut c.self.inside.end.side) c.in-Some.ensures.items c.self.invariant) back.1 back.2)

pub returns-in-Got-clause-tried : goal.returns-in-Got-clause-tried
returns-in-Got-clause-tried g c = (
  c.in-Some.ticket,
  ap (λ (t : Ticketed). t.tickets) (sym c.self.view_is) ∙ c.in-Some.ensures.items,
  sym c.seq-number.ensures,
  subst (IsOver c.collect.new.self.side.getter.got) (sym c.seq-number.ensures)
      (over_told c.collect.new.self.side.getter.got c.in-Some.ticket.seq c.in-Got.outcome c.in-Got.ensures.told),
)
