use Rattle.agent_ties.proofs.Whole.{ties_are_whole}
use Rattle.agent_ties.proofs.laws.ties_are_whole.Goals as goal

pub returns : goal.returns
returns c = ties_are_whole
