use Rattle.stream_blocks.proofs.Messages.{requests_are_read}
use Rattle.stream_blocks.proofs.laws.requests_are_read.Goals as goal

pub returns : goal.returns
returns c = requests_are_read
