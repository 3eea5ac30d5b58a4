use Rattle.agent_table.proofs.Pinging.{first_is_unanswered}
use Rattle.agent_table.proofs.laws.first_is_unanswered.Goals as goal

pub returns : goal.returns
returns c = first_is_unanswered
