use Rattle.agent_table.proofs.OnlyTasks.{only_tasks_take}
use Rattle.agent_table.proofs.offs.only_tasks_take.Goals as goal

pub returns : goal.returns
returns c = only_tasks_take
