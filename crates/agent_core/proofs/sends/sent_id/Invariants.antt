use Rattle.std.proofs.Common.{◌≡◌, take, None}
use Rattle.agent_journal.specs.Readings.{sent_id}
use Rattle.agent_core.proofs.sends.sent_id.Given as goal

abbrev pub invariant-loop-effect : goal.invariant-loop-effect
invariant-loop-effect l = sent_id (take l.effect-index l.effects) ≡ None
