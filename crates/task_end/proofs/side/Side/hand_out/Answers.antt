use Rattle.std.proofs.Common.{◌≡◌, ℕ, ◌<◌, [], ◌∷◌, refl, ap, sym, subst, ◌∙◌, arith}
use Rattle.command_pool.specs.Hands.{times, without}
use Rattle.command_pool.specs.Passes.{Pass}
use Rattle.task_end.specs.Notes.{outcomes_in, completed_in}
use Rattle.task_end.specs.Outcomes.{outcomes_of}
use Rattle.task_end.specs.Commands.{Has, NoneIsStray, tickets_of}
use Rattle.task_end.specs.Sides.{TaskSide}
use Rattle.task_end.proofs.Sendings.{is_held, was_told, handed_out, none_told}
use Rattle.task_end.proofs.side.Side.hand_out.Goals as goal

pub give-requires : goal.give-requires
give-requires g c = (
  omega arith,
  (
    c.self.invariant.0 ∙ sym c.deref.ensures,
    (
      c.requires.out.0 ∙ sym (ap (λ (s : TaskSide). s.permits.pool) c.self.view_is),
      subst (λ n. 0 < times n c.self.inside.permits.held) c.id.ensures
          (is_held _ _ _ _ _ _ _ _ c.self.invariant.4 c.args.ticket.seq c.id.result c.in-Some.outcome _ c.in-Some.ensures.some refl),
    ),
  ),
)

pub invariant_of-self : goal.invariant_of-self
invariant_of-self g c = (
  ap (λ (p : Pass). p.pool) c.give.ensures.given ∙ c.self.invariant.0,
  c.self.invariant.1,
  c.self.invariant.2,
  c.self.invariant.3,
  handed_out _ _ _ _ _ _ _ _ c.self.invariant.4 c.args.ticket.seq c.id.result c.in-Some.outcome _ c.in-Some.ensures.some refl c.give.new.pass _ _
      (ap (λ (p : Pass). p.held) c.give.ensures.given ∙ ap (λ n. without n c.self.inside.permits.held) (sym c.id.ensures))
      c.in-Some.ensures.next (ap outcomes_of c.in-Some.ensures.log),
)

pub returns-in-Some-clause-told : goal.returns-in-Some-clause-told
returns-in-Some-clause-told g c = subst (λ (s : TaskSide). Has (outcomes_in s.getter.got) (c.args.ticket.seq, c.in-Some.outcome)) c.self.view_is
    (was_told _ _ _ _ _ _ _ _ c.self.invariant.4 c.args.ticket.seq c.id.result c.in-Some.outcome _ c.in-Some.ensures.some refl)

pub returns-in-None-clause-none : goal.returns-in-None-clause-none
returns-in-None-clause-none g c =
    subst (λ (s : TaskSide). NoneIsStray s.sender.sent s.getter.got → times c.args.ticket.seq (completed_in s.getter.got) ≡ 0) c.self.view_is
    (none_told _ _ _ _ _ _ _ _ c.self.invariant.4 c.args.ticket.seq c.id.result
    (subst (λ n. Has (tickets_of c.self.inside.commands.out.items) (c.args.ticket.seq, n)) (sym c.id.ensures)
    (subst (λ (s : TaskSide). Has s.out (c.args.ticket.seq, c.args.ticket.permit.id)) (sym c.self.view_is) c.requires.out.1))
    c.in-None.ensures.none.1)
