-- How a mirror ends, from its text, its steps or its source.
use Rattle.std.proofs.Common.{◌≡◌, ℕ, ◌≤◌, List, length, replicate, Option, IfSome, Ok, Err, refl, sym, ap, subst, ◌∙◌, inl, cond}
use Rattle.std.proofs.lemmas.Bool.{le-ltb}
use Rattle.std.proofs.lemmas.List.{length-replicate}
use Rattle.command_answers.specs.Answers.{Answer, Ends, SinkNow, answer}
use Rattle.command_answers.specs.Sources.{EndsBySource, bad_line, source_limit, source_now, too_long, within_limit}
use Rattle.command_answers.proofs.Sourced.{by_text, no_memory as read_nothing, nothing}
use Rattle.shadow_mirror.specs.Documents.{doc}
use Rattle.mirror_run.specs.declared.steps.MirrorStep.{MirrorStep}
use Rattle.command_words.specs.declared.words.MirrorWords.{MirrorWords}
use Rattle.mirror_run.specs.Answers.{EndsAhead, EndsMirror, IsText, mirror_answer, published, source_answer, steps_answer}
use Rattle.mirror_run.specs.Steps.{steps_of}

-- memory ran out, and nothing was written
pub no_memory : (readers : ℕ) (sink : SinkNow) (to : List ℕ → Answer) → EndsAhead readers 7 sink sink to
no_memory readers sink to = (replicate readers 0, length-replicate readers 0, nothing sink (to (replicate readers 0)))

-- memory ran out before the source was read
pub unread : (words : MirrorWords) (a : Option (List ℕ)) (faults : ℕ) (sink : SinkNow) → EndsMirror words 7 (source_now a faults) (source_now a faults) sink sink
unfolding EndsMirror
unread words a faults sink =
    (replicate words.readers 0, length-replicate words.readers 0, read_nothing (source_answer words (replicate words.readers 0)) a a faults faults sink refl)

-- the text was written
pub text_ends : (words : MirrorWords) (steps : List MirrorStep) (shown text : List ℕ) (status : ℕ) (before now : SinkNow) → shown ≡ text → IsText words.readers words.reads (doc (published steps)) text
    → Ends status before now (answer 0 shown) → EndsAhead words.readers status before now (mirror_answer words steps)
text_ends words steps shown text status before now same is h = (is.0, is.1, subst (λ t. Ends status before now (answer 0 t)) (same ∙ is.2) h)

-- these steps were read from a text
pub steps_end : (words : MirrorWords) (text : List ℕ) (steps : List MirrorStep) (status : ℕ) (before now : SinkNow) → steps_of text ≡ Ok steps → EndsAhead words.readers status before now (mirror_answer words steps)
    → EndsAhead words.readers status before now (λ ahead. steps_answer words ahead (steps_of text))
steps_end words text steps status before now is h = (h.0, h.1, subst (λ r. Ends status before now (steps_answer words h.0 r)) (sym is) h.2)

-- a text has a bad line
pub line_ends : (words : MirrorWords) (text : List ℕ) (number status : ℕ) (before now : SinkNow) → steps_of text ≡ Err number → Ends status before now (bad_line number)
    → EndsAhead words.readers status before now (λ ahead. steps_answer words ahead (steps_of text))
line_ends words text number status before now is h =
    (replicate words.readers 0, length-replicate words.readers 0, subst (λ r. Ends status before now (steps_answer words (replicate words.readers 0) r)) (sym is) h)

-- a source that was read to its end is judged by its text
pub source_ends : (words : MirrorWords) (text : List ℕ) (status : ℕ) (a b : Option (List ℕ)) (faults faults_then : ℕ) (before now : SinkNow) → IfSome a (λ all. all ≡ text) → length text ≤ source_limit → faults_then ≡ faults
    → EndsAhead words.readers status before now (λ ahead. steps_answer words ahead (steps_of text))
    → EndsMirror words status (source_now a faults) (source_now b faults_then) before now
unfolding EndsMirror
source_ends words text status a b faults faults_then before now all short same h =
    (h.0, h.1, by_text (λ t. steps_answer words h.0 (steps_of t)) text status a b faults faults_then before now all short same h.2)

-- a source that was not read to its end
pub source_fails : (words : MirrorWords) (status : ℕ) (a b : Option (List ℕ)) (faults faults_then : ℕ) (before now : SinkNow)
    → ((to : List ℕ → Answer) → EndsBySource status (source_now a faults) (source_now b faults_then) before now (within_limit to))
    → EndsMirror words status (source_now a faults) (source_now b faults_then) before now
unfolding EndsMirror
source_fails words status a b faults faults_then before now h =
    (replicate words.readers 0, length-replicate words.readers 0, h (λ text. steps_answer words (replicate words.readers 0) (steps_of text)))
