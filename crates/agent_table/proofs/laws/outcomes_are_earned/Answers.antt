use Rattle.agent_table.proofs.Earned.{outcomes_are_earned}
use Rattle.agent_table.proofs.laws.outcomes_are_earned.Goals as goal

pub returns : goal.returns
returns c = outcomes_are_earned
