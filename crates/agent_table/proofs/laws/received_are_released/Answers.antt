use Rattle.agent_table.proofs.Receiving.{received_are_released}
use Rattle.agent_table.proofs.laws.received_are_released.Goals as goal

pub returns : goal.returns
returns c = received_are_released
