use Rattle.std.proofs.Common.{◌≡◌, ◌++◌, map, take, drop}
use Rattle.agent_table.specs.Routes.{coded, granted_in}
use Rattle.subscriptions.specs.Routing.{settled}
use Rattle.subscriptions.proofs.asked.settle_asks.Given as goal

abbrev pub invariant-loop-ask : goal.invariant-loop-ask
invariant-loop-ask l = l.ask-items ≡ map (settled (granted_in (coded l.asks l.codes)) l.asks) (take l.ask-index l.fn.own.items) ++ drop l.ask-index l.fn.own.items
