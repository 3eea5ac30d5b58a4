use Rattle.std.proofs.Common.{arith}
use Rattle.subscriptions.specs.Routing.{Routing}
use Rattle.subscriptions.proofs.Grants.{granted_room}
use Rattle.subscriptions.proofs.Orders.{renewable_few}
use Rattle.subscriptions.proofs.routing.Subscriptions.unsure.Goals as goal

pub returns-clause-part : goal.returns-clause-part
returns-clause-part g c = rw (← c.self.view_is) c.renewable.ensures

pub returns-clause-few : goal.returns-clause-few
returns-clause-few g c =
    let k : Routing = record { granted = c.self.inside.granted; asked = c.self.inside.asked.items; renewals = c.self.inside.renewals.items } in
    let few = renewable_few c.args.all k in
    let room = granted_room g.row.ROUTES c.self.inside.granted c.self.inside.asked.items c.self.invariant in
    rw (← c.self.view_is) (omega (arith, few, room))
