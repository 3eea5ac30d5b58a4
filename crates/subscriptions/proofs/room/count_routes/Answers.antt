use Rattle.std.proofs.Common.{◌≡◌, ◌+◌, ◌∙◌, ◌∷◌, [], ap, arith, length, take}
use Rattle.subscriptions.specs.Routing.{Asked}
use Rattle.subscriptions.specs.Rooms.{routes_with, asked_routes, new_count}
use Rattle.subscriptions.proofs.Counts.{routes_more, routes_fewer}
use Rattle.subscriptions.proofs.room.count_routes.Goals as goal
use Rattle.subscriptions.proofs.room.count_routes.Goals.{After-count_open-count}
use Rattle.subscriptions.proofs.room.count_routes.Given.{Over}

count_is : (g : Over) (c : After-count_open-count g) → c.loop-at.count + c.count_open-count.result ≡ length (routes_with c.args.granted.now (take (c.loop-at.at + 1) c.args.asked.now))
count_is g c =
    let more = routes_more c.args.granted.now c.args.asked.now c.loop-at.at c.index-asked-at.result c.loop-at-test.true in
    let own = c.count_open-count.ensures ∙ ap (λ (a : Asked). new_count (routes_with c.args.granted.now (take c.loop-at.at c.args.asked.now)) (asked_routes (a ∷ []))) c.index-asked-at.is in
    let old = c.loop-at.invariant in
    omega (arith, more, own, old)

pub overflow_add-count : goal.overflow_add-count
overflow_add-count g c =
    let count = count_is g c in
    let fewer = routes_fewer c.args.granted.now c.args.asked.now (c.loop-at.at + 1) in
    let few = c.requires in
    omega (arith, count, fewer, few)

pub loop-at-preserved : goal.loop-at-preserved
loop-at-preserved g c = count_is g c
