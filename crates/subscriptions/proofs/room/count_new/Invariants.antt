use Rattle.std.proofs.Common.{◌≡◌, ◌≤◌, take}
use Rattle.subscriptions.specs.Routing.{routes_asked}
use Rattle.subscriptions.specs.Rooms.{routes_with, new_count}
use Rattle.subscriptions.proofs.room.count_new.Given as goal

abbrev pub invariant-loop-at : goal.invariant-loop-at
invariant-loop-at g l = record {
  count : l.count ≡ new_count (routes_with l.granted l.asked) (take l.at (routes_asked l.task l.asks));
  most : l.count ≤ l.at;
}
