use Rattle.std.proofs.Common.{◌≡◌, take}
use Rattle.agent_table.specs.Identifiers.{last_or}
use Rattle.agent_table.specs.Sends.{drawn_in}
use Rattle.agent_core.proofs.sends.last_drawn.Given as goal

abbrev pub invariant-loop-effect : goal.invariant-loop-effect
invariant-loop-effect l = l.last ≡ last_or l.fn.last (drawn_in (take l.effect-index l.effects))
