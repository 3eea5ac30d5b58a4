use Rattle.std.proofs.Common.{◌≡◌, false, take}
use Rattle.std.specs.List.{list_any}
use Rattle.topic_filter.specs.Fitting.{fits}
use Rattle.subscriptions.proofs.asked.fit.Given as goal

abbrev pub invariant-loop-ask : goal.invariant-loop-ask
invariant-loop-ask l = list_any (λ ask. fits ask.filter l.name) (take l.ask-index l.asks) ≡ false
