use Rattle.std.proofs.Common.{◌≡◌, ◌++◌, drop}
use Rattle.std.specs.List.{flat_map}
use Rattle.broker_core.specs.Copies as spec
use Rattle.broker_core.proofs.copies.push_all.Given as goal

abbrev pub invariant-loop-delivery : goal.invariant-loop-delivery
invariant-loop-delivery l =
    l.packets ++ flat_map (spec.publish_of (l.passed ++ l.newest) l.dup) (drop l.delivery-index l.deliveries)
    ≡ l.initial.packets ++ flat_map (spec.publish_of (l.passed ++ l.newest) l.dup) l.deliveries
