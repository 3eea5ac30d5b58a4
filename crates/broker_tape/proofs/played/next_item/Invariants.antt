-- What was gone past says nothing to a receive.
use Rattle.std.proofs.Common.{◌≡◌, ◌-◌, length, drop}
use Rattle.broker_tape.specs.Playing.{next, advance}
use Rattle.broker_tape.proofs.played.next_item.Given as goal

abbrev pub invariant-loop-next : goal.invariant-loop-next
invariant-loop-next l = next (advance l.played (drop l.at l.items)) ≡ next (advance l.done (drop l.next l.items))

abbrev pub decreases-loop-next : goal.decreases-loop-next
decreases-loop-next l = length l.items - l.next
