use Rattle.std.proofs.Common.{◌≡◌, ◌++◌, drop}
use Rattle.std.specs.Prelude.{filter}
use Rattle.broker_core.specs.Subscribed as spec
use Rattle.broker_core.proofs.subscribed.valid_asks.Given as goal

abbrev pub invariant-loop-ask : goal.invariant-loop-ask
invariant-loop-ask l = l.valid.items ++ filter spec.is_valid (drop l.ask-index l.asks) ≡ filter spec.is_valid l.asks
