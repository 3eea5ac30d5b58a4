use Rattle.std.proofs.Common.{not}
use Rattle.subscriptions.specs.Routing.{Granted, is_any_of}
use Rattle.subscriptions.proofs.Keeping.{kept_fewer}
use Rattle.subscriptions.proofs.routing.Subscriptions.drop_filters.Goals as goal

pub invariant_of-self : goal.invariant_of-self
invariant_of-self g c =
    rw c.drop_filters.ensures (kept_fewer (λ (route : Granted). not (is_any_of c.args.task c.as_slice.result.now route)) g.row.ROUTES c.self.inside.granted c.self.inside.asked.items c.self.invariant)
