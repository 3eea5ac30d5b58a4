use Rattle.std.proofs.Common.{◌-◌, length}
use Rattle.agent_posts.proofs.Waiting.{Alike}
use Rattle.agent_posts.proofs.place.next_in.Given as goal

abbrev pub invariant-loop-effect : goal.invariant-loop-effect
invariant-loop-effect l = Alike l.tasks l.effects l.from l.at

abbrev pub decreases-loop-effect : goal.decreases-loop-effect
decreases-loop-effect l = length l.effects - l.at
