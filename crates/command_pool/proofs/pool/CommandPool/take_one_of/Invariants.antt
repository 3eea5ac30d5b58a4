use Rattle.std.proofs.Common.{◌≡◌, ℕ, ◌++◌}
use Rattle.command_pool.specs.Takes.{misses}
use Rattle.command_pool.proofs.Tries.{HasFrom}
use Rattle.command_pool.proofs.pool.CommandPool.take_one_of.Given as goal

-- The numbers below some n were tried and missed, and those from n on are left.
abbrev pub invariant-loop-left : goal.invariant-loop-left
invariant-loop-left g l = (l.pass.pool ≡ l.initial.pass.pool) × (l.pass.held ≡ l.initial.pass.held)
    × ((n : ℕ) × HasFrom n l.seen l.left × (l.pass.steps ≡ misses l.seen n ++ l.initial.pass.steps))

abbrev pub decreases-loop-left : goal.decreases-loop-left
decreases-loop-left g l = l.left
