use Rattle.std.proofs.Common.{◌≡◌, ◌++◌, map, take, drop}
use Rattle.broker_core.specs.Session as spec
use Rattle.broker_core.proofs.passing.offer_all.Given as goal

abbrev pub invariant-loop-at : goal.invariant-loop-at
invariant-loop-at l = l.sessions ≡ map (spec.offered l.qos l.name l.place) (take l.at l.fn.sessions) ++ drop l.at l.fn.sessions
