use Rattle.std.proofs.Common.{false, arith}
use Rattle.agent_core.proofs.Begins.{sized, tied_begins, bounded_begins}
use Rattle.agent_core.proofs.agent.Core.new.Goals as goal

pub invariant_of-result : goal.invariant_of-result
invariant_of-result g c = (
  sized c.in-Ok.takes.items c.args.setup.tasks 0 c.in-Ok.ensures.0,
  sized c.in-Ok.left.items c.args.setup.tasks false c.in-Ok.ensures.1,
  omega arith,
  omega arith,
  tied_begins c.in-Ok.pending c.in-Ok.qos c.in-Ok.ensures.2 c.in-Ok.ensures.3,
  bounded_begins g.row.ACKS g.row.ROUTES c.in-Ok.subscriptions c.requires.sizes.1 c.requires.sizes.5 c.in-Ok.ensures.4,
)
