use Rattle.std.proofs.Common.{◌≡◌}
use Rattle.command_pool.specs.Takes.{IsOnward, empties}
use Rattle.task_end.proofs.submit.take_permit.Given as goal

abbrev pub invariant-loop : goal.invariant-loop
invariant-loop g l =
    (l.pass.pool ≡ l.fn.pass.pool) × (l.pass.held ≡ l.fn.pass.held) × IsOnward l.fn.pass.steps l.pass.steps × (empties l.pass.steps ≡ empties l.fn.pass.steps)
