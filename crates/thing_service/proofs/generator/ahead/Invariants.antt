-- The steps that are left lead to the state that is wanted.
use Rattle.std.proofs.Common.{◌≡◌}
use Rattle.thing_service.specs.Generator.{state}
use Rattle.thing_service.proofs.Steps.{run}
use Rattle.thing_service.proofs.generator.ahead.Given as goal

abbrev pub invariant-loop-left : goal.invariant-loop-left
invariant-loop-left l = run l.factor l.summand l.left l.state ≡ state l.seed l.steps

abbrev pub decreases-loop-left : goal.decreases-loop-left
decreases-loop-left l = l.left
