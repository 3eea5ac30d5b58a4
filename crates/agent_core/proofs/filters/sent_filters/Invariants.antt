use Rattle.std.proofs.Common.{◌≡◌, take}
use Rattle.agent_journal.specs.Readings.{sent_filters}
use Rattle.agent_core.proofs.filters.sent_filters.Given as goal

abbrev pub invariant-loop-effect : goal.invariant-loop-effect
invariant-loop-effect l = l.named ≡ sent_filters (take l.effect-index l.effects)
