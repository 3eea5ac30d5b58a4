use Rattle.std.proofs.Common.{◌≡◌, ◌++◌, take}
use Rattle.session_resume.specs.Resent.{again}
use Rattle.session_resume.proofs.session.push_publishes.Given as goal

abbrev pub invariant-loop-k : goal.invariant-loop-k
invariant-loop-k g l = l.effects ≡ l.fn.effects ++ again l.fn.qos.released (take l.k l.fn.pending)
