use Rattle.std.proofs.Common.{◌≡◌, ◌++◌, drop, map}
use Rattle.broker_core.specs.Subscribed as spec
use Rattle.broker_core.proofs.subscribed.return_codes.Given as goal

abbrev pub invariant-loop-ask : goal.invariant-loop-ask
invariant-loop-ask l = l.codes.items ++ map spec.return_code (drop l.ask-index l.asks) ≡ map spec.return_code l.asks
