use Rattle.std.proofs.Common.{◌≤◌, List, length, subst, arith}
use Rattle.agent_table.specs.Routes.{coded, granted_in}
use Rattle.subscriptions.specs.Routing.{Granted, Asked}
use Rattle.subscriptions.proofs.Grants.{granted_by_stays}
use Rattle.subscriptions.proofs.added.grant_to.Goals as goal

pub add_all-requires : goal.add_all-requires
add_all-requires g c =
    let subscribe : Asked = record { task = c.subscribe.inside.task; id = c.subscribe.inside.id; asks = c.subscribe.inside.asks.items; left = c.subscribe.inside.left } in
    let filters = granted_in (coded c.subscribe.inside.asks.items c.args.codes.now) in
    let room = subst (λ (l : List Granted). length l ≤ g.row.ROUTES) (granted_by_stays subscribe filters c.args.granted.now c.if-not-subscribe.true) (rw (← c.subscribe.view_is) at c.requires) in
    (omega arith, rw (c.renew_all.ensures, c.deref.ensures.value) room)
