use Rattle.stream_blocks.proofs.Messages.{blocks_are_read}
use Rattle.stream_blocks.proofs.laws.blocks_are_read.Goals as goal

pub returns : goal.returns
returns c = blocks_are_read
