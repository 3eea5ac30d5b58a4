use Rattle.std.proofs.Common.{◌≡◌, ◌++◌, map, take, drop}
use Rattle.subscriptions.specs.Routing.{leaves}
use Rattle.subscriptions.proofs.asked.leave_all.Given as goal

abbrev pub invariant-loop-open : goal.invariant-loop-open
invariant-loop-open l = l.open-items ≡ map (leaves l.task) (take l.open-index l.fn.asked.items) ++ drop l.open-index l.fn.asked.items
