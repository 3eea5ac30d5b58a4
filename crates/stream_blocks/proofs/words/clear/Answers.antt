use Rattle.stream_blocks.proofs.Bits.{cleared_is}
use Rattle.stream_blocks.proofs.words.clear.Goals as goal

pub returns-clause-cleared : goal.returns-clause-cleared
returns-clause-cleared c = cleared_is c.args.words.now c.args.i c.requires
