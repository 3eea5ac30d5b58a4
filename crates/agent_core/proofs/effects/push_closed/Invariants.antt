use Rattle.std.proofs.Common.{◌≡◌, ◌++◌, false, slice_index_or}
use Rattle.agent_table.specs.Effects.{closed_below}
use Rattle.agent_core.proofs.effects.push_closed.Given as goal

abbrev pub invariant-loop-task : goal.invariant-loop-task
invariant-loop-task l = l.effects ≡ l.fn.effects ++ closed_below l.task (λ t. slice_index_or l.fn.left t false)
