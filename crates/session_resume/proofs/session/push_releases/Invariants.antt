use Rattle.std.proofs.Common.{◌≡◌, ◌++◌, map, take}
use Rattle.session_resume.specs.Resent.{release}
use Rattle.session_resume.proofs.session.push_releases.Given as goal

abbrev pub invariant-loop-k : goal.invariant-loop-k
invariant-loop-k g l = l.effects ≡ l.fn.effects ++ map release (take l.k l.fn.qos.released)
