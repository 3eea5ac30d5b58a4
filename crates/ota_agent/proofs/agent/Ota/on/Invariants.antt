-- The actions so far are taken over.
use Rattle.std.proofs.Common.{◌≡◌, take}
use Rattle.ota_agent.proofs.agent.Ota.on.Given as goal

abbrev pub invariant-loop-action : goal.invariant-loop-action
invariant-loop-action l = l.actions.items ≡ take l.action-index l.listed
