use Rattle.std.proofs.Common.{◌∙◌, ap, map}
use Rattle.std.proofs.lemmas.List.{take_all}
use Rattle.subscriptions.specs.Routing.{ask_in}
use Rattle.subscriptions.proofs.Orders.{part_is}
use Rattle.subscriptions.proofs.renewable.renewable.Goals as goal

pub returns : goal.returns
returns g c =
    c.loop-filter.invariant ∙ ap (map (λ f. ask_in c.args.granted.now f.now)) (take_all c.loop-filter.filter-index c.deref-filter-items.result.now c.loop-filter-test.false)
    ∙ part_is c.args.granted.now _ c.in_ok-filters.filters.keys c.deref-filter-items.result.now c.args.from c.in_ok-filters.ensures (c.deref-filter-items.ensures.value ∙ c.in_ok-one_renewal.ensures)
