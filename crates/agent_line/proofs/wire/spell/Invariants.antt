-- The packets of so many effects were spelled.
use Rattle.std.proofs.Common.{◌≡◌, take}
use Rattle.agent_journal.specs.Wires.{sent_in}
use Rattle.agent_line.proofs.wire.spell.Given as goal

abbrev pub invariant-loop-effect : goal.invariant-loop-effect
invariant-loop-effect l = l.buffer.items ≡ sent_in (take l.effect-index l.effects)
