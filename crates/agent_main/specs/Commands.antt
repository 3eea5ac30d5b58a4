-- What the program answers, command by command.
use Rattle.std.specs.Prelude.{List, ℕ, Option, codes}
use Rattle.command_answers.specs.Answers.{Answer, Ends, SinkNow, answer}
use Rattle.command_answers.specs.Sources.{EndsBySource, SourceNow}
use Rattle.command_words.specs.declared.words.Words.{Words}
use Rattle.command_words.specs.declared.words.Words.TheVariants.{Mirror, Replay, World}
use Rattle.mirror_run.specs.Answers.{EndsMirror}
use Rattle.replay_run.specs.Commands.{source_answer}
use Rattle.replay_run.specs.Headline.{HasRun, PrintsReplay}
use Rattle.world_run.specs.Answers.{world_answer}

-- The words have no reading.
abbrev pub no_reading : Answer
no_reading = answer 1 (codes "fault words\n")

-- a command that this program doesn't have yet
abbrev pub IsNotBuilt : Words → Type 0
IsNotBuilt (Replay words) = ⊥
IsNotBuilt (World words) = ⊥
IsNotBuilt (Mirror words) = ⊥
IsNotBuilt _ = Unit {0}

abbrev pub not_built : Answer
not_built = answer 13 (codes "fault not built\n")

-- How each command ends, over a source and a sink that were as before and are as now.
abbrev pub EndsAs : Words → ℕ → SourceNow → SourceNow → SinkNow → SinkNow → Type 0
EndsAs (Replay words) status source source_then before now =
    EndsBySource status source source_then before now (source_answer words)
EndsAs (World words) status source source_then before now = Ends status before now (world_answer words)
EndsAs (Mirror words) status source source_then before now = EndsMirror words status source source_then before now
EndsAs _ status source source_then before now = Ends status before now not_built

-- Where the agent of a replay ran, what was written is one legal history of it.
abbrev pub Prints : Words → Option (List ℕ) → ℕ → Option (List ℕ) → Option (List ℕ) → Type 0
Prints (Replay words) told status old new = HasRun status → PrintsReplay words told status old new
Prints _ told status old new = Unit {0}
