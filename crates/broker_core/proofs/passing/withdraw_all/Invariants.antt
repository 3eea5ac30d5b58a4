use Rattle.std.proofs.Common.{◌≡◌, ◌++◌, ℕ, List, map, take, drop}
use Rattle.broker_core.specs.Session as spec
use Rattle.broker_core.proofs.passing.withdraw_all.Given as goal

abbrev pub invariant-loop-session : goal.invariant-loop-session
invariant-loop-session l =
    (before : List spec.Session) (place : ℕ) → l.fn.sessions ≡ map (spec.offered l.qos l.name place) before → l.sessions ≡ take l.session-index before ++ drop l.session-index l.fn.sessions
