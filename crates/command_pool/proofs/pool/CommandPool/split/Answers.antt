use Rattle.std.proofs.Common.{rules}
use Rattle.command_pool.proofs.Moves.{splits}
use Rattle.command_pool.proofs.pool.CommandPool.split.Goals as goal

pub split_seat-requires : goal.split_seat-requires
split_seat-requires g c = (search rules, search rules, splits _ _ _)
