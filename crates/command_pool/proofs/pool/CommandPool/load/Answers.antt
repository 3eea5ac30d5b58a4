use Rattle.std.proofs.Common.{rules}
use Rattle.command_pool.proofs.Moves.{loads}
use Rattle.command_pool.proofs.pool.CommandPool.load.Goals as goal

pub load-requires : goal.load-requires
load-requires g c = (search rules, search rules, rw c.self.invariant.1 (loads _ _ _ _))
