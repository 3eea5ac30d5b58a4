use Rattle.std.proofs.Common.{◌≡◌, ℕ, ◌<◌, [], ◌∷◌, ◌++◌, ◌∙◌, arith}
use Rattle.task_end.specs.Sides.{Tasking}
use Rattle.task_end.proofs.Loops.{keeping_on}
use Rattle.task_end.proofs.task.TaskEnd.collect.Goals as goal

pub take_in-requires : goal.take_in-requires
take_in-requires g c = (omega arith, omega (arith, c.len.ensures.len, c.len.ensures.within, c.self.invariant.0))

pub loop-preserved : goal.loop-preserved
loop-preserved g c =
    let took = c.if-not-take_in.ensures.took in
    let back = c.in-Err.ensures.back in (
      c.loop.invariant.0 ++ took.0 ∷ [],
      keeping_on c.loop.invariant.0 took.0 c.args.self.now (record { side = c.hand_out.new.self; kept = c.self.inside.kept.items }) c.take_in.new.self
          ((λ i. record { side = back.1 i; kept = c.self.inside.kept.items }) ∙ (c.self.view_is ∙ c.loop.invariant.1)) took.1,
      back.0 ∙ c.loop.invariant.2,
    )
