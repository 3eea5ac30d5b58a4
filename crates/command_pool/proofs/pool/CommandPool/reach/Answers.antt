use Rattle.std.proofs.Common.{rules}
use Rattle.command_pool.proofs.Moves.{clears_by}
use Rattle.command_pool.proofs.pool.CommandPool.reach.Goals as goal

pub fetch_and-found-requires : goal.fetch_and-found-requires
fetch_and-found-requires g c = (search rules, search rules, clears_by _ _ _ _ _ c.requires.small _ c.all_but.ensures)
