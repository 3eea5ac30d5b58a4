use Rattle.std.proofs.Common.{◌≡◌, ◌++◌, drop}
use Rattle.broker_core.specs.Session as spec
use Rattle.broker_core.proofs.window.in_use.Given as goal

abbrev pub invariant-loop-delivery : goal.invariant-loop-delivery
invariant-loop-delivery l = l.used.items ++ spec.ids_of (drop l.delivery-index l.sent) ≡ spec.ids_of l.sent
