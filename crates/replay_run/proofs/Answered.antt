-- What a finished run prints is the answer of its replay.
use Rattle.std.proofs.Common.{◌≡◌, ◌≢◌, List, reverse, Some, ap, ◌∙◌, arith}
use Rattle.broker_tape.specs.declared.tape.Item.{Item}
use Rattle.agent_journal.specs.declared.entry.Entry.{Entry}
use Rattle.agent_journal.specs.declared.ending.Ending.{Ending}
use Rattle.agent_journal.specs.declared.ending.Ending.TheVariants as endings
use Rattle.agent_script.specs.declared.script.Script.{Script}
use Rattle.agent_journal.specs.declared.setup.Setup.{Setup}
use Rattle.agent_journal.specs.Endings.{status}
use Rattle.agent_table.specs.Sizes.{Sizes}
use Rattle.command_words.specs.declared.words.RunWords.{RunWords}
use Rattle.command_words.specs.Setups.{setup_of}
use Rattle.replay_rounds.specs.Bound.{finished}
use Rattle.agent_table.specs.Endings.{ending_of}
use Rattle.replay_rounds.specs.Rounds.{begun}
use Rattle.command_answers.specs.Answers.{answer, IsPlain}
use Rattle.replay_run.specs.Answers.{answer_by, report, replay_answer}

-- a journal of that replay, and how it ended
pub answered : (words : RunWords) (sizes : Sizes) (script : Script) (items : List Item) (setup : Setup) (journal : List Entry) (ending : Ending) → setup ≡ setup_of words script.tasks
    → reverse journal ≡ (finished (begun setup sizes words.tick script.lines items)).past → Some ending ≡ ending_of setup sizes (reverse journal)
    → answer (status ending) (report words.thing (reverse journal) ending) ≡ replay_answer words sizes script items
unfolding replay_answer
answered words sizes script items setup journal ending s j e =
    ap (answer_by words.thing (reverse journal)) e ∙ ap (λ past. answer_by words.thing past (ending_of setup sizes past)) j
    ∙ ap (λ u. answer_by words.thing (finished (begun u sizes words.tick script.lines items)).past (ending_of u sizes (finished (begun u sizes words.tick script.lines items)).past)) s

pub plain_status : (ending : Ending) → IsPlain (status ending) × (status ending ≢ 1) × (status ending ≢ 9)
plain_status endings.Done = (record { not_memory = λ e. omega (arith, e); not_sink = λ e. omega (arith, e) }, λ e. omega (arith, e), λ e. omega (arith, e))
plain_status endings.GaveUp = (record { not_memory = λ e. omega (arith, e); not_sink = λ e. omega (arith, e) }, λ e. omega (arith, e), λ e. omega (arith, e))
plain_status (endings.Refused code) = (record { not_memory = λ e. omega (arith, e); not_sink = λ e. omega (arith, e) }, λ e. omega (arith, e), λ e. omega (arith, e))
plain_status endings.Bytes = (record { not_memory = λ e. omega (arith, e); not_sink = λ e. omega (arith, e) }, λ e. omega (arith, e), λ e. omega (arith, e))
plain_status endings.Held = (record { not_memory = λ e. omega (arith, e); not_sink = λ e. omega (arith, e) }, λ e. omega (arith, e), λ e. omega (arith, e))
