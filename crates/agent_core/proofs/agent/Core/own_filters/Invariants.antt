use Rattle.std.proofs.Common.{◌≡◌, take}
use Rattle.agent_table.specs.Takes.{own_filters}
use Rattle.agent_core.specs.Kept.{readings_in}
use Rattle.agent_core.proofs.agent.Core.own_filters.Given as goal

abbrev pub invariant-loop-k : goal.invariant-loop-k
invariant-loop-k g l = l.own ≡ own_filters (readings_in l.fn.self) l.fn.task (take l.k l.fn.filters)
