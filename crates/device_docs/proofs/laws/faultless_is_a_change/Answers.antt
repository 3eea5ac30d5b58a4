use Rattle.device_docs.proofs.Changing.{there_is_a_change}
use Rattle.device_docs.proofs.laws.faultless_is_a_change.Goals as goal

pub returns : goal.returns
returns c = there_is_a_change
