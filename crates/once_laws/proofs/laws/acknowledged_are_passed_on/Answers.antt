use Rattle.once_laws.proofs.Replies.{acknowledged_are_passed_on}
use Rattle.once_laws.proofs.laws.acknowledged_are_passed_on.Goals as goal

pub returns : goal.returns
returns c = acknowledged_are_passed_on
