-- What the command `replay` answers to its words and its source's text.
use Rattle.std.specs.Prelude.{ℕ, ◌+◌, ◌-◌, ◌==◌, List, [], ◌∷◌, length, Result, Ok, Err, if◌then◌else◌}
use Rattle.plain_text.specs.Lines.{lines_of, is_passed}
use Rattle.broker_tape.specs.declared.tape.Item.{Item}
use Rattle.broker_tape.specs.Tape.{tape_in}
use Rattle.agent_script.specs.declared.script.Script.{Script}
use Rattle.agent_script.specs.Scripts.{script_of}
use Rattle.agent_table.specs.Sizes.{Sizes}
use Rattle.command_answers.specs.Answers.{Answer}
use Rattle.command_answers.specs.Sources.{bad_line, within_limit}
use Rattle.command_words.specs.declared.words.RunWords.{RunWords}
use Rattle.command_words.specs.declared.words.Size.{Size}
use Rattle.command_words.specs.declared.words.Size.TheVariants.{Tiny, Usual}
use Rattle.replay_run.specs.Answers.{replay_answer}
use Rattle.thing_script.specs.Topics.{script_with}

-- how many commands, received QoS 2 publishes and routes an agent of this size has room for
abbrev pub sizes_in : Size → Sizes
sizes_in Tiny = record { acks = 2; inbound = 2; routes = 2 }
sizes_in Usual = record { acks = 20; inbound = 20; routes = 32 }

-- the number of the first line that isn't passed over, where the first has number n
abbrev pub first_said : ℕ → List (List ℕ) → ℕ
first_said n [] = n
first_said n (line ∷ lines) = if is_passed line then first_said (n + 1) lines else n

-- Lines of the tape are counted on from those of the script.
abbrev pub tape_answer : RunWords → ℕ → Script → Result (List Item) ℕ → Answer
tape_answer words before script (Ok items) = replay_answer words (sizes_in words.size) script items
tape_answer words before script (Err number) = bad_line (before + number)

-- the script with its requests, or its first line that has no topic
abbrev pub named_answer : RunWords → List ℕ → List (List ℕ) → Result Script ℕ → Answer
named_answer words text rest (Ok script) = tape_answer words (length (lines_of text) - length rest) script (tape_in rest)
named_answer words text rest (Err number) = bad_line number

-- A replay has one task; else the line is refused that says how many there are.
abbrev pub script_answer : RunWords → List ℕ → Result (Script × List (List ℕ)) ℕ → Answer
script_answer words text (Ok read) = if read.0.tasks == 1 then named_answer words text read.1 (script_with words.thing read.0) else bad_line (first_said 1 (lines_of text))
script_answer words text (Err number) = bad_line number

abbrev pub text_answer : RunWords → List ℕ → Answer
text_answer words text = script_answer words text (script_of text)

-- What a replay answers to the text of its source.
abbrev pub source_answer : RunWords → List ℕ → Answer
source_answer words = within_limit (text_answer words)
