use Rattle.std.proofs.Common.{◌≡◌, ◌++◌, take}
use Rattle.std.specs.List.{flat_map}
use Rattle.agent_core.specs.Endings.{ending_of}
use Rattle.agent_core.proofs.effects.push_endings.Given as goal

abbrev pub invariant-loop-k : goal.invariant-loop-k
invariant-loop-k g l = l.effects ≡ l.fn.effects ++ flat_map (ending_of l.fn.ending) (take l.k l.fn.pending)
