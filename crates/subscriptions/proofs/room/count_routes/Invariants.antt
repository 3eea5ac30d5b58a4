use Rattle.std.proofs.Common.{◌≡◌, length, take}
use Rattle.subscriptions.specs.Rooms.{routes_with}
use Rattle.subscriptions.proofs.room.count_routes.Given as goal

abbrev pub invariant-loop-at : goal.invariant-loop-at
invariant-loop-at g l = l.count ≡ length (routes_with l.granted (take l.at l.asked))
