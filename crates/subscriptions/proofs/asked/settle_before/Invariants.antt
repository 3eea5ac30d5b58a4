use Rattle.std.proofs.Common.{◌≡◌, ◌++◌, map, take, drop}
use Rattle.agent_table.specs.Routes.{coded, granted_in}
use Rattle.subscriptions.specs.Parts.{settled_by}
use Rattle.subscriptions.proofs.asked.settle_before.Given as goal

abbrev pub invariant-loop-at : goal.invariant-loop-at
invariant-loop-at l = l.asked.items ≡ map (settled_by (granted_in (coded l.asks l.codes)) l.asks) (take l.at l.fn.asked.items) ++ drop l.at l.fn.asked.items
