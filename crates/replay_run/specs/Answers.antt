-- What a replay prints, and its exit status.
use Rattle.std.specs.Prelude.{ℕ, List, [], ◌∷◌, ◌++◌, reverse, Option, Some, None, codes, decimal}
use Rattle.broker_tape.specs.declared.tape.Item.{Item}
use Rattle.agent_journal.specs.declared.entry.Entry.{Entry}
use Rattle.agent_journal.specs.declared.ending.Ending.{Ending}
use Rattle.agent_script.specs.declared.script.Script.{Script}
use Rattle.agent_journal.specs.declared.setup.Setup.{Setup}
use Rattle.agent_journal.specs.Endings.{status}
use Rattle.agent_journal.specs.Projections.{commands_of, completed_of, messages_of}
use Rattle.journal_text.specs.Texts.{joined, line_end, last_line, journal_text}
use Rattle.agent_table.specs.Sizes.{Sizes}
use Rattle.command_answers.specs.Answers.{Answer, answer}
use Rattle.command_words.specs.declared.words.RunWords.{RunWords}
use Rattle.command_words.specs.Setups.{setup_of}
use Rattle.replay_rounds.specs.World.{World}
use Rattle.replay_rounds.specs.Bound.{finished}
use Rattle.agent_table.specs.Endings.{ending_of}
use Rattle.replay_rounds.specs.Rounds.{begun}
use Rattle.thing_script.specs.Kinds.{count_passed, is_shadow_of, is_jobs_of}

-- how many commands a task sent, how many completions it got and how many messages
abbrev pub task_line : ℕ → List Entry → List ℕ
task_line t past = joined (codes "task " ∷ decimal t ∷ codes " sent " ∷ decimal (commands_of t past) ∷ codes " got " ∷ decimal (completed_of t past) ∷ codes " messages " ∷ decimal (messages_of t past) ∷ line_end ∷ [])

-- how many of the messages have topics of this thing's shadows, and of its jobs
unfoldable pub kinds_of : ℕ → List ℕ → List Entry → List ℕ
kinds_of t thing journal =
    joined (codes "kinds " ∷ decimal t ∷ codes " shadow " ∷ decimal (count_passed t (is_shadow_of thing) journal) ∷ codes " jobs " ∷ decimal (count_passed t (is_jobs_of thing) journal) ∷ line_end ∷ [])

abbrev pub kinds_line : ℕ → Option (List ℕ) → List Entry → List ℕ
kinds_line t None journal = []
kinds_line t (Some thing) journal = kinds_of t thing journal

abbrev pub report : Option (List ℕ) → List Entry → Ending → List ℕ
report thing past ending = journal_text (reverse past) ++ (task_line 0 past ++ (kinds_line 0 thing (reverse past) ++ last_line ending))

-- Each replay ends. A run that hadn't ended would not be printed.
abbrev pub answer_by : Option (List ℕ) → List Entry → Option Ending → Answer
answer_by thing past None = answer 7 []
answer_by thing past (Some ending) = answer (status ending) (report thing past ending)

-- of a replay that has gone through its rounds
abbrev pub answer_of : Option (List ℕ) → Setup → Sizes → World → Answer
answer_of thing setup sizes w = answer_by thing w.past (ending_of setup sizes w.past)

-- of a script and the items of a tape
unfoldable pub replay_answer : RunWords → Sizes → Script → List Item → Answer
replay_answer words sizes script items =
    answer_of words.thing (setup_of words script.tasks) sizes (finished (begun (setup_of words script.tasks) sizes words.tick script.lines items))
