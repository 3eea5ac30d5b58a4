use Rattle.std.proofs.Common.{◌≡◌, ℕ, ◌+◌, [], ◌∷◌, ◌++◌, None, refl, ap, sym, subst, ◌∙◌}
use Rattle.front_board.specs.Ends.{Marked}
use Rattle.command_pool.specs.declared.hand.PoolStep.TheVariants as steps
use Rattle.command_pool.specs.Hands.{without}
use Rattle.command_pool.specs.Passes.{Pass}
use Rattle.command_pool.specs.Takes.{IsOnward}
use Rattle.command_pool.proofs.Held.{back_as_before}
use Rattle.task_queues.specs.QueuePasses.{Sending}
use Rattle.task_end.specs.Outcomes.{outcomes_of}
use Rattle.task_end.specs.Commands.{command}
use Rattle.task_end.specs.Sides.{TaskSide}
use Rattle.task_end.proofs.Sendings.{begun, still, seen_again, onward_both}
use Rattle.task_end.proofs.side.Side.submit.Goals as goal

pub invariant_of-self-in-Ok : goal.invariant_of-self-in-Ok
invariant_of-self-in-Ok g c =
    let room = c.make_room.ensures in
    let sent = c.in-Ok.ensures.sent in
    let front = c.mark.ensures.same in
    let id = c.id.result in (
      c.in-Some.ensures.pool ∙ c.self.invariant.0,
      ap (λ (p : Sending). p.queue) sent ∙ c.self.invariant.1,
      c.self.invariant.2,
      ap (λ (p : Sending). p.number) sent ∙ c.self.invariant.3,
      begun _ _ _ _ _ _ _ _ (seen_again _ _ _ _ _ _ _ _ c.self.invariant.4 c.mark.new.self front) c.take_permit.new.pass c.send.new.pass _ id
          (c.in-Some.ensures.taken ∙ ap (λ n. n ∷ c.self.inside.permits.held) (sym c.id.ensures))
          (ap (λ (p : Sending). p.sent) sent) room.next c.requires.not_leave
          (ap (λ (m : Marked). m.number) c.mark.ensures.mark ∙ sym front) refl
          c.begin.new.self.out.items c.push_reserved.new.self.items c.begin.new.self.next (outcomes_of c.begin.new.self.log.items)
          (c.begin.ensures.out ∙ (λ i. room.out i ++ command (room.next i) id None ∷ []))
          (c.push_reserved.ensures.items ∙ (λ i. room.same i ++ (room.next i, (c.number-seen.ensures ∙ sym front) i, c.self.inside.notes) ∷ []))
          (c.begin.ensures.next ∙ ap (λ n. n + 1) room.next)
          (ap outcomes_of (c.begin.ensures.log ∙ room.log)),
    )

pub invariant_of-self-in-Err : goal.invariant_of-self-in-Err
invariant_of-self-in-Err g c =
    let room = c.make_room.ensures in
    let given = c.give.ensures.given in
    let count = c.in-Err.ensures.counted in (
      ap (λ (p : Pass). p.pool) given ∙ (c.in-Some.ensures.pool ∙ c.self.invariant.0),
      ap (λ (p : Sending). p.queue) count ∙ c.self.invariant.1,
      c.self.invariant.2,
      ap (λ (p : Sending). p.number) count ∙ c.self.invariant.3,
      still _ _ _ _ _ _ _ _ (seen_again _ _ _ _ _ _ _ _ c.self.invariant.4 c.mark.new.self c.mark.ensures.same) c.give.new.pass c.send.new.pass
          c.make_room.new.commands.out.items c.make_room.new.fronts.items c.make_room.new.commands.next (outcomes_of c.make_room.new.commands.log.items)
          (ap (λ (p : Pass). p.held) given ∙ (ap (without c.in-Some.permit.id) c.in-Some.ensures.taken ∙ back_as_before c.in-Some.permit.id c.self.inside.permits.held))
          (ap (λ (p : Sending). p.sent) count) refl room.out room.same room.next (ap outcomes_of room.log),
    )

pub returns-in-Err-clause-onward : goal.returns-in-Err-clause-onward
returns-in-Err-clause-onward g c = subst (λ (s : TaskSide). IsOnward s.permits.steps c.give.new.pass.steps) c.self.view_is
    (onward_both _ _ _ c.in-Some.ensures.onward (steps.Given c.in-Some.permit.id ∷ [], ap (λ (p : Pass). p.steps) c.give.ensures.given))
