use Rattle.std.proofs.Common.{◌≡◌, ◌<◌, ◌≤◌, List, length, false, sym, ap, ◌∙◌, subst, arith}
use Rattle.agent_journal.specs.declared.request.Request.{Request}
use Rattle.replay_rounds.specs.World.{World}
use Rattle.replay_rounds.specs.Asked.{taken_and_left}
use Rattle.replay_rounds.specs.Bound.{bound, finished}
use Rattle.replay_rounds.specs.Rounds.{has_ended}
use Rattle.replay_rounds.proofs.Asked.{IsAsking}
use Rattle.replay_rounds.proofs.AskedAll.{round_goes_on, few_takes}
use Rattle.replay_rounds.proofs.Ends.{IsSteady, round_less, round_steady, finished_round, finished_ended}
use Rattle.replay_agent.specs.Runs.{world}
use Rattle.replay_agent.proofs.run.Run.run.Goals as goal

pub round-requires : goal.round-requires
round-requires g c =
    let w = world c.rounds.core c.rounds.self c.args.script.now.lines in
    let count = few_takes w in
    let taken = c.rounds.invariant.sound.noted.taken_is in
    let few = c.rounds.invariant.few in
    (omega arith, (c.rounds.invariant.sound, omega (arith, count, taken, few)))

pub rounds-smaller : goal.rounds-smaller
rounds-smaller g c =
    let w = world c.rounds.core c.rounds.self c.args.script.now.lines in
    let going : has_ended w ≡ false = sym (c.has_ended.ensures c.args.script.now.lines) ∙ c.rounds-test.true in
    subst (λ (v : World). bound v < bound w) (sym c.in_ok-round.ensures.round) (round_less w c.rounds.invariant.steady going)

pub rounds-preserved : goal.rounds-preserved
rounds-preserved g c =
    let w = world c.rounds.core c.rounds.self c.args.script.now.lines in
    let going : has_ended w ≡ false = sym (c.has_ended.ensures c.args.script.now.lines) ∙ c.rounds-test.true in
    let goes = round_goes_on w c.rounds.invariant.steady c.rounds.invariant.asking going in
    let same = c.in_ok-round.ensures.round in
    record {
      sound = c.in_ok-round.ensures.sound;
      steady = subst IsSteady (sym same) (round_steady w c.rounds.invariant.steady going);
      asking = subst IsAsking (sym same) goes.asking;
      few = subst (λ (xs : List Request). length xs ≤ 4000000001) (sym (ap taken_and_left same ∙ goes.total)) c.rounds.invariant.few;
      left = ap finished same ∙ finished_round w c.rounds.invariant.steady going ∙ c.rounds.invariant.left;
    }

pub returns-clause-finished : goal.returns-clause-finished
returns-clause-finished g c =
    let w = world c.rounds.core c.rounds.self c.args.script.now.lines in
    sym (finished_ended w (sym (c.has_ended.ensures c.args.script.now.lines) ∙ c.rounds-test.false)) ∙ c.rounds.invariant.left

pub returns-clause-ended : goal.returns-clause-ended
returns-clause-ended g c = sym (c.has_ended.ensures c.args.script.now.lines) ∙ c.rounds-test.false
