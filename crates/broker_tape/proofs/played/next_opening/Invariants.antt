-- What was gone past holds no opening.
use Rattle.std.proofs.Common.{◌≡◌, ◌-◌, length, drop}
use Rattle.broker_tape.specs.Playing.{closed}
use Rattle.broker_tape.proofs.played.next_opening.Given as goal

abbrev pub invariant-loop-next : goal.invariant-loop-next
invariant-loop-next l = closed (drop l.at l.items) ≡ closed (drop l.next l.items)

abbrev pub decreases-loop-next : goal.decreases-loop-next
decreases-loop-next l = length l.items - l.next
