use Rattle.std.proofs.Common.{◌≡◌, ◌≤◌, ◌+◌, ◌-◌, ◌++◌, length, drop}
use Rattle.agent_table.specs.Effects.{subscribes}
use Rattle.agent_core.specs.Kept.{used_in}
use Rattle.subscriptions.specs.Routing.{renewable}
use Rattle.agent_core.proofs.agent.Core.push_renewals.Given as goal

abbrev pub invariant-loop-drawn : goal.invariant-loop-drawn
invariant-loop-drawn g l =
    (l.from ≤ length (renewable l.fn.all l.self.routing) + 8)
    × (l.effects ++ subscribes (length (drop l.from (renewable l.fn.all l.self.routing))) l.last (l.drawn.items ++ used_in l.self) (drop l.from (renewable l.fn.all l.self.routing))
    ≡ l.fn.effects ++ subscribes (length (renewable l.fn.all l.self.routing)) l.self.last_drawn (used_in l.self) (renewable l.fn.all l.self.routing))

abbrev pub decreases-loop-drawn : goal.decreases-loop-drawn
decreases-loop-drawn g l = length (renewable l.fn.all l.self.routing) + 8 - l.from
