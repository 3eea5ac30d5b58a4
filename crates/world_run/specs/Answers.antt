-- What the command `world` prints.
use Rattle.std.specs.Prelude.{ℕ, List, [], ◌∷◌, codes, decimal}
use Rattle.journal_text.specs.Texts.{joined}
use Rattle.command_answers.specs.Answers.{Answer, answer}
use Rattle.command_words.specs.declared.words.WorldWords.{WorldWords}
use Rattle.session_world.specs.declared.totals.Totals.{Totals}
use Rattle.session_world.specs.Counts.{totals}
use Rattle.session_world.specs.Generating.{generated}
use Rattle.session_world.specs.Playing.{all_played}
use Rattle.session_world.specs.Setups.{dev, usual}
use Rattle.session_world.specs.World.{nothing}

-- the seed and the number of events, what was counted, and the end
abbrev pub report : WorldWords → Totals → List ℕ
report words t =
    joined (codes "seed " ∷ decimal words.seed ∷ codes " events " ∷ decimal words.events ∷ codes "\ntaken " ∷ decimal t.taken ∷ codes " done " ∷ decimal t.done ∷ codes " passed " ∷ decimal t.passed ∷ codes " local " ∷ decimal t.own
    ∷ codes " told " ∷ decimal t.told ∷ codes " breaks " ∷ decimal t.breaks ∷ codes "\nok\n" ∷ [])

-- The numbers are those of the world to which the seed's events lead.
abbrev pub world_answer : WorldWords → Answer
world_answer words = answer 0 (report words (totals (all_played dev usual (generated words.seed words.events) nothing)))
