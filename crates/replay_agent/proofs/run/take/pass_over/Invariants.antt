-- What is left of the lines, passed over, is what all of them are.
use Rattle.std.proofs.Common.{◌≤◌, ◌-◌, ◌*◌, ◌^◌, length}
use Rattle.replay_agent.specs.Takes.{told_by}
use Rattle.replay_agent.proofs.Passes.{IsPassing}
use Rattle.replay_agent.proofs.run.take.pass_over.Given as goal

abbrev pub invariant-loop-next : goal.invariant-loop-next
invariant-loop-next l = record {
  passing : IsPassing (told_by l.told) l.lines l.gone l.listened l.next l.asked;
  few : l.asked ≤ l.next * 2 ^ 32;
}

abbrev pub decreases-loop-next : goal.decreases-loop-next
decreases-loop-next l = length l.lines - l.next
