use Rattle.std.proofs.Common.{◌≡◌, ◌++◌, take}
use Rattle.agent_core.proofs.filters.push_all.Given as goal

abbrev pub invariant-loop-filter : goal.invariant-loop-filter
invariant-loop-filter l = l.named ≡ l.fn.named ++ take l.filter-index l.filters
