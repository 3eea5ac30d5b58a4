use Rattle.std.proofs.Common.{◌+◌, ◌∙◌, ap, sym, nat_le, length, arith, map, []}
use Rattle.agent_table.specs.Routes.{with_routes}
use Rattle.subscriptions.specs.Routing.{Routing, route_of, routes_asked, has_room}
use Rattle.subscriptions.specs.Rooms.{routes_with, asked_routes}
use Rattle.subscriptions.proofs.Bools.{le_of, le_true}
use Rattle.subscriptions.proofs.Sets.{once_with_all}
use Rattle.subscriptions.proofs.Counts.{room_is, room_most}
use Rattle.subscriptions.proofs.routing.Subscriptions.has_room.Goals as goal

pub returns-then-surely_fit : goal.returns-then-surely_fit
returns-then-surely_fit g c =
    let count = length (with_routes (with_routes [] (routes_with c.self.inside.granted c.self.inside.asked.items)) (routes_asked c.args.task c.args.asks.now)) in
    let most = room_most c.self.inside.granted c.self.inside.asked.items c.args.task c.args.asks.now c.self.invariant.once in
    let few = le_of (length c.self.inside.granted + length c.args.asks.now + length (asked_routes c.self.inside.asked.items)) g.row.ROUTES (rw (c.deref.ensures.value, c.as_slice-asks.ensures) at (sym c.surely_fit.ensures ∙ c.if-surely_fit.true)) in
    c.if-surely_fit.true ∙ sym (le_true count g.row.ROUTES (omega (arith, most, few))) ∙ ap (λ (k : Routing). has_room g.row.ROUTES k c.args.task c.args.asks.now) c.self.view_is

pub returns-else-surely_fit : goal.returns-else-surely_fit
returns-else-surely_fit g c =
    let there = routes_with c.self.inside.granted c.self.inside.asked.items in
    let count = rw (c.deref-else-surely_fit.ensures.value, c.as_slice-asks.ensures) at c.count_all.ensures in
    let all = room_is there (routes_asked c.args.task c.args.asks.now) (once_with_all (map route_of c.self.inside.granted) (asked_routes c.self.inside.asked.items) c.self.invariant.once) in
    ap (λ n. nat_le n g.row.ROUTES) (count ∙ sym all) ∙ ap (λ (k : Routing). has_room g.row.ROUTES k c.args.task c.args.asks.now) c.self.view_is
