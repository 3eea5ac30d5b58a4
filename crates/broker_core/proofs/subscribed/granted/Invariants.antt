use Rattle.std.proofs.Common.{◌≡◌, drop, map}
use Rattle.std.specs.Prelude.{filter}
use Rattle.topic_filter.specs.Fitting.{fits}
use Rattle.broker_core.specs.Subscribed as spec
use Rattle.broker_core.proofs.subscribed.granted.Given as goal

abbrev pub invariant-loop-ask : goal.invariant-loop-ask
invariant-loop-ask l = spec.greatest l.best (map (λ ask. ask.qos) (filter (λ ask. fits ask.filter l.name) (drop l.ask-index l.held))) ≡ spec.granted l.held l.name
