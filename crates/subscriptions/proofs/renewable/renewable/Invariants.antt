use Rattle.std.proofs.Common.{◌≡◌, map, take}
use Rattle.subscriptions.specs.Routing.{ask_in}
use Rattle.subscriptions.proofs.renewable.renewable.Given as goal

abbrev pub invariant-loop-filter : goal.invariant-loop-filter
invariant-loop-filter g l = l.asks ≡ map (λ f. ask_in l.granted f.now) (take l.filter-index l.filter-items)
