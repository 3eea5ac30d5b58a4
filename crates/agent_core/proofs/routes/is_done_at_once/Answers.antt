use Rattle.agent_core.proofs.Renewals.{done_at_once}
use Rattle.agent_core.proofs.routes.is_done_at_once.Goals as goal

pub returns : goal.returns
returns c = done_at_once c.args.task c.args.seq c.args.effects.now c.any_done.result c.any_done.ensures
