-- What is left of the rounds, behind some of them, leads where all of them lead.
use Rattle.std.proofs.Common.{◌≡◌, ◌≤◌, length}
use Rattle.replay_rounds.specs.Asked.{taken_and_left}
use Rattle.replay_rounds.specs.Bound.{bound, finished}
use Rattle.replay_rounds.proofs.Asked.{IsAsking}
use Rattle.replay_rounds.proofs.Ends.{IsSteady}
use Rattle.replay_agent.specs.Runs.{world, IsSound}
use Rattle.replay_agent.proofs.run.Run.run.Given as goal

abbrev pub invariant-rounds : goal.invariant-rounds
invariant-rounds g l = record {
  sound : IsSound l.core l.self;
  steady : IsSteady (world l.core l.self l.script.lines);
  asking : IsAsking (world l.core l.self l.script.lines);
  few : length (taken_and_left (world l.core l.self l.script.lines)) ≤ 4000000001;
  left : finished (world l.core l.self l.script.lines) ≡ finished (world l.fn.core l.fn.self l.script.lines);
}

abbrev pub decreases-rounds : goal.decreases-rounds
decreases-rounds g l = bound (world l.core l.self l.script.lines)
