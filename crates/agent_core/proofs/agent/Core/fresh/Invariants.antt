use Rattle.std.proofs.Common.{◌≡◌, ◌++◌, ◌-◌, length}
use Rattle.agent_table.specs.Identifiers.{first_free, fresh}
use Rattle.agent_core.specs.Kept.{used_in}
use Rattle.agent_core.proofs.agent.Core.fresh.Given as goal

abbrev pub invariant-loop-tried : goal.invariant-loop-tried
invariant-loop-tried g l = first_free (length (l.fn.drawn ++ used_in l.self) - l.tried) l.id (l.fn.drawn ++ used_in l.self) ≡ fresh l.fn.last (l.fn.drawn ++ used_in l.self)
