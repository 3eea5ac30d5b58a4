use Rattle.std.proofs.Common.{◌≡◌, ◌≤◌, []}
use Rattle.command_pool.proofs.tests.thousand_pairs.Given as goal

abbrev pub invariant-loop : goal.invariant-loop
invariant-loop l = (l.pass.pool ≡ l.pool) × (l.pass.held ≡ []) × (l.pairs ≤ 1000)
