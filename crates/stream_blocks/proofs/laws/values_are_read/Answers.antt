use Rattle.stream_blocks.proofs.Relation.{values_are_read}
use Rattle.stream_blocks.proofs.laws.values_are_read.Goals as goal

pub returns : goal.returns
returns c = values_are_read
