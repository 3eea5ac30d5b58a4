use Rattle.std.proofs.Common.{not}
use Rattle.subscriptions.specs.Routing.{Asked, has_id}
use Rattle.subscriptions.proofs.Keeping.{kept_lost}
use Rattle.subscriptions.proofs.routing.Subscriptions.lose.Goals as goal

pub invariant_of-self : goal.invariant_of-self
invariant_of-self g c = rw c.drop_id.ensures (kept_lost (λ (a : Asked). not (has_id c.args.id a)) g.row.ROUTES c.self.inside.granted c.self.inside.asked.items c.self.invariant)
