-- What a replay promises of what it printed.
use Rattle.std.specs.Prelude.{◌≡◌, ◌≢◌, ℕ, List, Option, IfSome, Ok}
use Rattle.std.specs.Io.KnownBytes.{Appends}
use Rattle.broker_tape.specs.declared.tape.Item.{Item}
use Rattle.broker_tape.specs.Given.{AreFronts, wires}
use Rattle.broker_tape.specs.Tape.{tape_in}
use Rattle.agent_script.specs.declared.script.Script.{Script}
use Rattle.agent_script.specs.Scripts.{script_of}
use Rattle.agent_journal.specs.declared.setup.Setup.{Setup}
use Rattle.agent_journal.specs.Endings.{status}
use Rattle.agent_table.specs.Sizes.{Sizes}
use Rattle.command_words.specs.declared.words.RunWords.{RunWords}
use Rattle.command_words.specs.Setups.{setup_of}
use Rattle.replay_rounds.specs.World.{World}
use Rattle.replay_rounds.specs.Laws.{IsTiedHistory}
use Rattle.replay_rounds.specs.Plays.{LeadsTo}
use Rattle.replay_rounds.specs.Rounds.{begun}
use Rattle.replay_run.specs.Answers.{report}
use Rattle.replay_run.specs.Commands.{sizes_in}
use Rattle.thing_script.specs.Topics.{script_with}

-- What was written is the text of one legal history of the agent, and the status is that of how it ended.
pub record PrintsHistory (s : Setup) (l : Sizes) (tick : ℕ) (thing : Option (List ℕ)) (script : Script) (items : List Item) (result : ℕ) (old new : Option (List ℕ)) : Type 0 where
  -- The rounds of the replay lead to this world, in which it has ended.
  pub world : World
  pub plays : LeadsTo (begun s l tick script.lines items) world
  -- Its journal is a legal history, in which what the script asks stands once and in its order, each command with exactly one
  -- completion. The bytes that were sent on each connection are the spelling of the journal's packets, or a front of it where
  -- that connection broke; those that came are the packets that arrived; the link counted a fault, an end or ten thousand
  -- receives that heard nothing for each break that they caused; each time is a reading of the clock.
  pub history : IsTiedHistory s l script world
  -- What each connection gave is a front of what the tape has for it.
  pub heard : AreFronts world.given (wires items)
  -- The journal's text was written, and the lines behind it.
  pub printed : Appends old new (report thing world.past history.ending)
  pub status_is : result ≡ status history.ending

-- The status is that of an agent that ended.
pub record HasRun (status : ℕ) : Type 0 where
  pub had_words : status ≢ 1
  pub had_lines : status ≢ 2
  pub had_memory : status ≢ 7
  pub had_sink : status ≢ 8
  pub had_source : status ≢ 9

-- The source spells a script of one task and a tape, and what was printed is the history of their replay, with the lines on
-- shadows and jobs as publishes on the topics of the thing.
pub record PrintsReplay (words : RunWords) (told : Option (List ℕ)) (status : ℕ) (old new : Option (List ℕ)) : Type 0 where
  -- the source's text, which is all that it had where it tells that
  pub text : List ℕ
  pub is_all : IfSome told (λ all. all ≡ text)
  pub read : Script
  pub rest : List (List ℕ)
  pub reads : script_of text ≡ Ok (read, rest)
  pub one_task : read.tasks ≡ 1
  pub script : Script
  pub named : script_with words.thing read ≡ Ok script
  pub items : List Item
  pub plays : tape_in rest ≡ Ok items
  pub prints : PrintsHistory (setup_of words script.tasks) (sizes_in words.size) words.tick words.thing script items status old new
