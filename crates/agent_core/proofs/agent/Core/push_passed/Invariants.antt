use Rattle.std.proofs.Common.{◌≡◌, ◌≤◌, ◌-◌, ◌++◌}
use Rattle.agent_table.specs.Effects.{passed_below}
use Rattle.agent_core.specs.Kept.{readings_in}
use Rattle.agent_core.proofs.agent.Core.push_passed.Given as goal

abbrev pub invariant-loop-task : goal.invariant-loop-task
invariant-loop-task g l = (l.from ≤ l.self.setup.tasks) × (l.effects ≡ l.fn.effects ++ passed_below l.from (readings_in l.self) (record { topic = l.fn.topic; qos = l.fn.qos; payload = l.fn.payload }))

abbrev pub decreases-loop-task : goal.decreases-loop-task
decreases-loop-task g l = l.self.setup.tasks - l.from
