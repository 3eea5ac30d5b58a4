-- What is left to hand in, behind so many turns, leads where all of it leads.
use Rattle.std.proofs.Common.{◌≡◌, ◌-◌, List}
use Rattle.agent_script.specs.declared.script.Line.{Line}
use Rattle.replay_rounds.specs.Receiving.{hands, hands_all}
use Rattle.replay_agent.specs.Runs.{world, IsSound}
use Rattle.replay_agent.proofs.run.Run.hand_in.Given as goal

abbrev pub invariant-loop-turn : goal.invariant-loop-turn
invariant-loop-turn g l = record {
  sound : IsSound l.core l.self;
  left : (lines : List Line) → hands (l.most - l.turn) (world l.core l.self lines) l.now ≡ hands_all (world l.fn.core l.fn.self lines) l.now;
}
