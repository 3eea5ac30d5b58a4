use Rattle.std.proofs.Common.{◌∙◌, sym, ap, arith}
use Rattle.subscriptions.specs.Routing.{Granted}
use Rattle.subscriptions.proofs.Orders.{one_back}
use Rattle.subscriptions.proofs.renewable.filters_of.Goals as goal

pub loop-at-preserved-in_ok-insert : goal.loop-at-preserved-in_ok-insert
loop-at-preserved-in_ok-insert g c =
    one_back c.args.all c.args.granted.now c.loop-at.at c.at-route.result.now c.loop-at.filters.keys c.insert.new.self.keys c.as_str.result (omega arith) (omega arith) c.at-route.ensures
    (sym c.is_wanted.ensures ∙ c.if-is_wanted.true) (c.as_str.ensures ∙ ap (λ (route : Granted). route.topics) c.route.view_is) c.in_ok-insert.ensures.keys c.loop-at.invariant
