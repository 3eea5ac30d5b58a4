use Rattle.std.proofs.Common.{◌≡◌, ℕ, ◌+◌, length, Some, IfSome, ap, subst, sym, ◌∙◌, arith, refl, rules}
use Rattle.std.specs.List.{position}
use Rattle.task_end.specs.Commands.{is_kept, IsTakenFrom, command, waiting}
use Rattle.task_end.proofs.Lists.{none_passes}
use Rattle.task_end.proofs.Cells.{taken_at, never_none, same_waiting}
use Rattle.task_end.proofs.commands.Commands.take.Goals as goal

pub invariant_of-self : goal.invariant_of-self
invariant_of-self c =
    let place = c.in-Some.ensures ∙ ap (position (is_kept c.args.seq c.args.number)) c.as_slice.ensures.value in
    let same = same_waiting c.args.seq c.args.number c.args.self.now.out.items c.in-Some.k c.remove.result place c.remove.ensures.value in
    record {
      counted = omega (arith, c.args.self.now.counted, ap length (ap waiting c.remove.ensures.items ∙ same));
      few = c.args.self.now.few;
      room = c.args.self.now.room;
    }

pub returns-in-Some-clause-some : goal.returns-in-Some-clause-some
returns-in-Some-clause-some c =
    let place = c.in-Some.ensures ∙ ap (position (is_kept c.args.seq c.args.number)) c.as_slice.ensures.value in
    subst (λ rest. IfSome c.remove.result.outcome (λ outcome. IsTakenFrom (command c.args.seq c.args.number (Some outcome)) c.args.self.now.out.items rest))
    (sym c.remove.ensures.items)
    (taken_at c.args.seq c.args.number c.args.self.now.out.items c.in-Some.k c.remove.result place c.remove.ensures.value)

pub returns-in-Some-clause-none : goal.returns-in-Some-clause-none
returns-in-Some-clause-none c = never_none c.args.seq c.args.number c.args.self.now.out.items c.in-Some.k c.remove.result (c.in-Some.ensures ∙ ap (position (is_kept c.args.seq c.args.number)) c.as_slice.ensures.value) c.remove.ensures.value _

pub returns-in-None-clause-none : goal.returns-in-None-clause-none
returns-in-None-clause-none c = (refl, none_passes (is_kept c.args.seq c.args.number) c.args.self.now.out.items (search rules))
