use Rattle.agent_ties.proofs.Keeping.{plain_whole}
use Rattle.agent_ties.proofs.laws.entries_keep_ties.Goals as goal

pub returns : goal.returns
returns c = plain_whole
