use Rattle.stream_blocks.proofs.Relation.{heads_are_read}
use Rattle.stream_blocks.proofs.laws.heads_are_read.Goals as goal

pub returns : goal.returns
returns c = heads_are_read
