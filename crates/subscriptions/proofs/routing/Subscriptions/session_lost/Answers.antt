use Rattle.std.proofs.Common.{refl}
use Rattle.subscriptions.specs.Routing.{unsure_now}
use Rattle.subscriptions.proofs.Keeping.{kept_changed}
use Rattle.subscriptions.proofs.routing.Subscriptions.session_lost.Goals as goal

pub invariant_of-self : goal.invariant_of-self
invariant_of-self g c = rw c.unsure_all.ensures (kept_changed unsure_now (λ route. refl) g.row.ROUTES c.self.inside.granted c.self.inside.asked.items c.self.invariant)
