use Rattle.stream_blocks.proofs.Relation.{strings_are_read}
use Rattle.stream_blocks.proofs.laws.strings_are_read.Goals as goal

pub returns : goal.returns
returns c = strings_are_read
