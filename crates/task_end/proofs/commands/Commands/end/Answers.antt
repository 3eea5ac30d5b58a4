use Rattle.std.proofs.Common.{◌≡◌, ℕ, ◌+◌, ◌∷◌, ◌++◌, [], length, refl, ap, get_or, None, ◌∙◌, inl, inr, length-append, arith, rules}
use Rattle.std.specs.List.{position}
use Rattle.std.proofs.lemmas.List.{map-append}
use Rattle.agent_journal.specs.declared.outcome.Outcome.{Outcome}
use Rattle.task_end.specs.declared.outcome_log.Logged.{Logged}
use Rattle.task_end.specs.Outcomes.{outcome_of, outcomes_of}
use Rattle.task_end.specs.Commands.{is_waiting, command}
use Rattle.task_end.proofs.Lists.{none_passes}
use Rattle.task_end.proofs.Cells.{ended_at, ends_count, none_waits}
use Rattle.task_end.proofs.commands.Commands.end.Goals as goal

pub push_reserved-requires : goal.push_reserved-requires
push_reserved-requires c =
    let none = command 0 0 None in
    let ends = ended_at c.args.seq c.args.outcome c.args.self.now.out.items c.in-Some.k none (get_or c.args.self.now.out.items c.in-Some.k none)
    (c.in-Some.ensures ∙ ap (position (is_waiting c.args.seq)) c.as_slice.ensures.value) refl in
    let count = ends_count c.args.seq c.args.outcome _ _ ends in
    let counted = c.args.self.now.counted in
    let room = c.args.self.now.room in
    omega (arith, count, counted, room)

pub invariant_of-self : goal.invariant_of-self
invariant_of-self c =
    let ends = ended_at c.args.seq c.args.outcome c.args.self.now.out.items c.in-Some.k c.index_mut.result.now c.index_mut.result.now
    (c.in-Some.ensures ∙ ap (position (is_waiting c.args.seq)) c.as_slice.ensures.value) c.index_mut.ensures.value in
    let count = ends_count c.args.seq c.args.outcome _ _ ends in
    let log = ap length c.push_reserved.ensures.items in
    let both = length-append c.args.self.now.log.items ((c.args.seq, c.logged.result) ∷ []) in
    record {
      counted = omega (arith, count, log, both, c.args.self.now.counted);
      few = c.args.self.now.few;
      room = search rules;
    }

pub returns-in-Some-clause-ends : goal.returns-in-Some-clause-ends
returns-in-Some-clause-ends c = inl (
  ended_at c.args.seq c.args.outcome c.args.self.now.out.items c.in-Some.k c.index_mut.result.now c.index_mut.result.now
      (c.in-Some.ensures ∙ ap (position (is_waiting c.args.seq)) c.as_slice.ensures.value) c.index_mut.ensures.value,
  ap outcomes_of c.push_reserved.ensures.items ∙ map-append _ c.args.self.now.log.items ((c.args.seq, c.logged.result) ∷ [])
      ∙ ap (λ o. outcomes_of c.args.self.now.log.items ++ (c.args.seq, o) ∷ []) c.logged.ensures,
)

pub returns-in-None-clause-ends : goal.returns-in-None-clause-ends
returns-in-None-clause-ends c = inr (none_waits c.args.seq c.args.self.now.out.items (none_passes (is_waiting c.args.seq) c.args.self.now.out.items (search rules)), refl, refl)
