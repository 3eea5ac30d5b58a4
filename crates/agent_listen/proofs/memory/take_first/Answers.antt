use Rattle.std.proofs.Common.{ap, drop, ◌∙◌}
use Rattle.agent_listen.proofs.memory.take_first.Goals as goal

pub returns-clause-rest : goal.returns-clause-rest
returns-clause-rest c = c.remove.ensures.items ∙ ap (drop 1) (c.in_ok-open_first.ensures.opened c.remove.result)
