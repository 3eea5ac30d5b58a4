use Rattle.std.proofs.Common.{◌≡◌, ◌++◌, ◌-◌, drop, length}
use Rattle.broker_core.specs.Session as spec
use Rattle.broker_core.proofs.window.begin.Given as goal

abbrev pub invariant-loop-begun : goal.invariant-loop-begun
invariant-loop-begun l =
    l.begun.items ++ spec.begun l.last l.used.items (drop (length l.begun.items) l.waiting.items) ≡ spec.begun l.initial.last l.initial.used.items l.waiting.items

abbrev pub decreases-loop-begun : goal.decreases-loop-begun
decreases-loop-begun l = length l.waiting.items - length l.begun.items
