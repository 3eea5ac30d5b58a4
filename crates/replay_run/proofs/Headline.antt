-- What a replay prints is a history.
use Rattle.std.proofs.Common.{◌≡◌, ◌≢◌, ℕ, List, Option, Some, subst}
use Rattle.std.specs.List.{AllByRecursion}
use Rattle.broker_tape.specs.declared.tape.Item.{Item}
use Rattle.broker_tape.specs.Given.{GivesBytes}
use Rattle.agent_script.specs.declared.script.Script.{Script}
use Rattle.agent_table.specs.Sizes.{Sizes}
use Rattle.command_words.specs.declared.words.RunWords.{RunWords}
use Rattle.command_words.specs.Setups.{setup_of}
use Rattle.replay_rounds.specs.Asked.{IsValidLine}
use Rattle.replay_rounds.specs.Bound.{finished}
use Rattle.replay_rounds.specs.Rounds.{begun}
use Rattle.replay_rounds.proofs.Ends.{replays_end}
use Rattle.replay_rounds.proofs.Fronts.{replays_hear_their_tape}
use Rattle.replay_rounds.proofs.Histories.{replays_are_histories}
use Rattle.command_answers.specs.Answers.{Ends, SinkNow}
use Rattle.replay_run.specs.Answers.{answer_by, replay_answer}
use Rattle.replay_run.specs.Headline.{PrintsHistory}

pub prints_history : (words : RunWords) (sizes : Sizes) (script : Script) (items : List Item) (status : ℕ) (before now : SinkNow) → Ends status before now (replay_answer words sizes script items) → script.tasks ≡ 1
    → AllByRecursion IsValidLine script.lines → status ≢ 7 → status ≢ 8 → GivesBytes items → PrintsHistory (setup_of words script.tasks) sizes words.tick words.thing script items status before.written now.written
unfolding replay_answer
prints_history words sizes script items status before now ends one valid memory sink gives =
    let s = setup_of words script.tasks in
    let w = finished (begun s sizes words.tick script.lines items) in
    let plays = replays_end s sizes words.tick script.lines items one in
    let h = replays_are_histories s sizes words.tick script items w one valid gives plays in
    let told : Ends status before now (answer_by words.thing w.past (Some h.ending)) = subst (λ ending. Ends status before now (answer_by words.thing w.past ending)) h.ended ends in
    record {
      world = w;
      plays = plays;
      history = h;
      heard = replays_hear_their_tape s sizes words.tick script.lines items w plays;
      printed = told.whole memory sink;
      status_is = told.told memory sink;
    }
