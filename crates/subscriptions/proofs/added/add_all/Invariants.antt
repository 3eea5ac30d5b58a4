use Rattle.std.proofs.Common.{◌≡◌, reverse, drop}
use Rattle.agent_table.specs.Routes.{coded, granted_in}
use Rattle.subscriptions.specs.Routing.{with_all_granted}
use Rattle.subscriptions.proofs.Additions.{added}
use Rattle.subscriptions.proofs.added.add_all.Given as goal

abbrev pub invariant-loop-code : goal.invariant-loop-code
invariant-loop-code g l = added l.task (reverse l.asks.items) (drop l.code-index l.codes) l.granted ≡ with_all_granted l.task l.fn.asks.items l.fn.granted (granted_in (coded l.fn.asks.items l.codes))
