use Rattle.std.proofs.Common.{◌≡◌, drop}
use Rattle.broker_core.proofs.window.drop_front.Given as goal

abbrev pub invariant-loop-taken : goal.invariant-loop-taken
invariant-loop-taken l = l.waiting.items ≡ drop l.taken l.initial.waiting.items
