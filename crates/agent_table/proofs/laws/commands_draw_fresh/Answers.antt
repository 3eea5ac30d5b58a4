use Rattle.agent_table.proofs.Drawing.{commands_draw_fresh}
use Rattle.agent_table.proofs.laws.commands_draw_fresh.Goals as goal

pub returns : goal.returns
returns c = commands_draw_fresh
