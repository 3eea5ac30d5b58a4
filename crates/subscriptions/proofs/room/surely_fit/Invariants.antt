use Rattle.std.proofs.Common.{◌≡◌, ◌+◌, ◌-◌, ◌^◌, min, length, take}
use Rattle.subscriptions.specs.Rooms.{asked_routes}
use Rattle.subscriptions.proofs.room.surely_fit.Given as goal

abbrev pub invariant-loop-open : goal.invariant-loop-open
invariant-loop-open g l = l.pairs ≡ min (length l.granted + length l.asks + length (asked_routes (take l.open-index l.asked))) (2 ^ 64 - 1)
