use Rattle.subscriptions.proofs.Keeping.{kept_none}
use Rattle.subscriptions.proofs.routing.Subscriptions.lose_all.Goals as goal

pub invariant_of-self : goal.invariant_of-self
invariant_of-self g c = rw c.clear.ensures.items (kept_none g.row.ROUTES c.self.inside.granted c.self.inside.asked.items c.self.invariant)
