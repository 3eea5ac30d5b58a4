use Rattle.agent_core.proofs.Standing.{stands_at_first}
use Rattle.agent_core.proofs.laws.stands_at_first.Goals as goal

pub returns : goal.returns
returns c = stands_at_first
