use Rattle.command_pool.proofs.Moves.{opens}
use Rattle.command_pool.proofs.pool.CommandPool.new.Goals as goal

pub of_words-requires : goal.of_words-requires
of_words-requires g c = opens _ c.requires.size.1
