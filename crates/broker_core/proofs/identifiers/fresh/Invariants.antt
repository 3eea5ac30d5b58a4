use Rattle.std.proofs.Common.{◌≡◌, ◌-◌, length}
use Rattle.agent_table.specs.Identifiers.{first_free, fresh}
use Rattle.broker_core.proofs.identifiers.fresh.Given as goal

abbrev pub invariant-loop-tried : goal.invariant-loop-tried
invariant-loop-tried l = first_free (length l.used - l.tried) l.id l.used ≡ fresh l.fn.last l.used
