use Rattle.std.proofs.Common.{◌∙◌, ap}
use Rattle.subscriptions.specs.Routing.{Routing}
use Rattle.subscriptions.proofs.Grants.{kept_added}
use Rattle.subscriptions.proofs.routing.Subscriptions.add_granted.Goals as goal

pub invariant_of-self : goal.invariant_of-self
invariant_of-self g c =
    rw c.push.ensures
    (kept_added g.row.ROUTES c.self.inside.granted c.self.inside.asked.items c.args.route c.self.invariant (ap (λ (k : Routing). k.asked) c.self.view_is ∙ c.requires.none_asked) (rw (← c.self.view_is) at c.requires.room) (rw (← c.self.view_is) at c.requires.fresh) c.requires.filter)
