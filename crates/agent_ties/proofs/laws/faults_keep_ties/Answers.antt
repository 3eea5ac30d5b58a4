use Rattle.agent_ties.proofs.Keeping.{plain_part}
use Rattle.agent_ties.proofs.laws.faults_keep_ties.Goals as goal

pub returns : goal.returns
returns c = plain_part
