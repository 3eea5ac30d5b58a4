-- What holds of the lines with all their requests.
use Rattle.std.proofs.Common.{◌≡◌, ℕ, suc, ◌≤◌, true, List, [], ◌∷◌, length, Option, Some, None, Result, Ok, Err, refl, ap, subst, arith}
use Rattle.std.specs.Prelude.{codes}
use Rattle.std.specs.List.{AllByRecursion}
use Rattle.std.specs.Str.{bytes_eq}
use Rattle.std.proofs.lemmas.Bool.{le-leb}
use Rattle.agent_script.specs.declared.script.Line.{Line}
use Rattle.agent_script.specs.declared.script.Step.{Step}
use Rattle.agent_script.specs.declared.script.Step.TheVariants as steps
use Rattle.agent_journal.specs.Requests.{is_topic, is_valid}
use Rattle.replay_rounds.specs.Asked.{IsValidLine, IsValidStep}
use Rattle.thing_topics.specs.declared.faults.NameFault.{NameFault}
use Rattle.thing_topics.specs.declared.shadows.ShadowKind.{ShadowKind}
use Rattle.thing_topics.specs.declared.jobs.JobsKind.{JobsKind}
use Rattle.thing_topics.specs.Shadows as shadows
use Rattle.thing_topics.specs.Jobs as jobs
use Rattle.agent_script.specs.Asked.{IsPlainLine, IsPlainStep}
use Rattle.thing_script.specs.Plain.{HasValidStep, IsShortLine, IsShortStep}
use Rattle.thing_script.specs.Topics.{jobs_kind, jobs_step, jobs_topic, lines_with, onto, or_number, publish, request_line, shadow_kind, shadow_step, shadow_topic, step_with, topic_or_none}
use Rattle.plain_text.proofs.WhatIsRead.{SomeIs, always, bound, either}
use Rattle.thing_script.proofs.Each.{OkIs, each}
use Rattle.thing_script.proofs.Names.{AreTopicBytes, Word, jobs_topic_valid, shadow_topic_valid}

-- ---- Plain lines

shadow_plain : (thing : Option (List ℕ)) (op : List ℕ) (name : Option (List ℕ)) (payload : List ℕ) → SomeIs IsPlainStep (shadow_step thing op name payload)
unfolding shadow_step
shadow_plain thing op name payload = always IsPlainStep thing _ (λ owner. always IsPlainStep (shadow_kind op) _ (λ kind. always IsPlainStep (shadow_topic owner name kind) _ (λ topic. tt)))

jobs_plain : (thing : Option (List ℕ)) (op : List ℕ) (job : Option (List ℕ)) (payload : List ℕ) → SomeIs IsPlainStep (jobs_step thing op job payload)
unfolding jobs_step
jobs_plain thing op job payload = always IsPlainStep thing _ (λ owner. always IsPlainStep (jobs_kind op) _ (λ kind. always IsPlainStep (jobs_topic owner job kind) _ (λ topic. tt)))

step_plain : (thing : Option (List ℕ)) (step : Step) → SomeIs IsPlainStep (step_with thing step)
step_plain thing (steps.Do request) = tt
step_plain thing (steps.Shadow op name payload) = shadow_plain thing op name payload
step_plain thing (steps.Jobs op job payload) = jobs_plain thing op job payload
step_plain thing steps.Wait = tt
step_plain thing (steps.Listen count) = tt

-- a line has what its step has
of_step : (R : Step → Type 0) (line : Line) (step : Option Step) → SomeIs R step → OkIs (λ l. R l.step) (or_number line step)
of_step R line None h = tt
of_step R line (Some step) h = h

-- ---- Valid steps

word_in : (text : List ℕ) → 1 ≤ length text → length text ≤ 19 → AreTopicBytes text → Word text
word_in text some few all = record { some = some; part = record { few = few; all = all } }

shadow_words : (op : List ℕ) → SomeIs (λ kind. Word (shadows.word kind)) (shadow_kind op)
shadow_words op =
    let R : ShadowKind → Type 0 = λ kind. Word (shadows.word kind) in
    either R (bytes_eq op (codes "get")) _ _ (word_in (codes "get") (omega arith) (omega arith) refl)
    (either R (bytes_eq op (codes "update")) _ _ (word_in (codes "update") (omega arith) (omega arith) refl)
    (either R (bytes_eq op (codes "delete")) _ _ (word_in (codes "delete") (omega arith) (omega arith) refl) tt))

jobs_words : (op : List ℕ) → SomeIs (λ kind. Word (jobs.word kind)) (jobs_kind op)
jobs_words op =
    let R : JobsKind → Type 0 = λ kind. Word (jobs.word kind) in
    either R (bytes_eq op (codes "start-next")) _ _ (word_in (codes "start-next") (omega arith) (omega arith) refl)
    (either R (bytes_eq op (codes "get")) _ _ (word_in (codes "get") (omega arith) (omega arith) refl)
    (either R (bytes_eq op (codes "describe")) _ _ (word_in (codes "get") (omega arith) (omega arith) refl)
    (either R (bytes_eq op (codes "update")) _ _ (word_in (codes "update") (omega arith) (omega arith) refl) tt)))

abbrev IsTopicText : List ℕ → Type 0
IsTopicText topic = is_topic topic ≡ true

topic_valid : (fault : Option NameFault) (text : List ℕ) → (fault ≡ None → IsTopicText text) → SomeIs IsTopicText (topic_or_none fault text)
topic_valid None text h = h refl
topic_valid (Some fault) text h = tt

publish_valid : (topic payload : List ℕ) → IsTopicText topic → length payload ≤ 131072 → IsValidStep (publish topic payload)
unfolding is_valid
publish_valid topic payload e few = (rw (e, le-leb (length payload) 131072 few) refl, refl)

shadow_valid : (thing : Option (List ℕ)) (op : List ℕ) (name : Option (List ℕ)) (payload : List ℕ) → length payload ≤ 131072 → SomeIs IsValidStep (shadow_step thing op name payload)
unfolding shadow_step
shadow_valid thing op name payload few =
    always IsValidStep thing _ (λ owner.
    bound (λ kind. Word (shadows.word kind)) IsValidStep (shadow_kind op) _ (shadow_words op) (λ kind word.
    bound IsTopicText IsValidStep (shadow_topic owner name kind) _ (topic_valid (shadows.fault_of owner name) (shadows.topic_text (shadows.parts_of owner name kind)) (shadow_topic_valid owner name kind word)) (λ topic e.
    publish_valid topic payload e few)))

jobs_valid : (thing : Option (List ℕ)) (op : List ℕ) (job : Option (List ℕ)) (payload : List ℕ) → length payload ≤ 131072 → SomeIs IsValidStep (jobs_step thing op job payload)
unfolding jobs_step
jobs_valid thing op job payload few =
    always IsValidStep thing _ (λ owner.
    bound (λ kind. Word (jobs.word kind)) IsValidStep (jobs_kind op) _ (jobs_words op) (λ kind word.
    bound IsTopicText IsValidStep (jobs_topic owner job kind) _ (topic_valid (jobs.fault_of owner job kind) (jobs.topic_text (jobs.parts_of owner job kind)) (jobs_topic_valid owner job kind word)) (λ topic e.
    publish_valid topic payload e few)))

step_valid : (thing : Option (List ℕ)) (step : Step) → IsValidStep step → IsShortStep step → SomeIs IsValidStep (step_with thing step)
step_valid thing (steps.Do request) h few = h
step_valid thing (steps.Shadow op name payload) h few = shadow_valid thing op name payload few
step_valid thing (steps.Jobs op job payload) h few = jobs_valid thing op job payload few
step_valid thing steps.Wait h few = tt
step_valid thing (steps.Listen count) h few = tt

-- a line of the one task stays one
of_one : (line : Line) (step : Option Step) → line.task ≡ 0 → SomeIs IsValidStep step → OkIs IsValidLine (or_number line step)
of_one line None one h = tt
of_one line (Some step) one h = record { task = one; step = h }

-- ---- All lines

abbrev Both : (Line → Type 0) → Line → Type 0
Both P line = P line × IsShortLine line

paired : (P : Line → Type 0) (lines : List Line) → AllByRecursion P lines → AllByRecursion IsShortLine lines → AllByRecursion (Both P) lines
paired P [] h k = tt
paired P (line ∷ lines) h k = ((h.0, k.0), paired P lines h.1 k.1)

unasked : (lines : List Line) → AllByRecursion (λ line. Unit {0}) lines
unasked [] = tt
unasked (line ∷ lines) = (tt, unasked lines)

pub are_plain : (thing : Option (List ℕ)) (lines made : List Line) → lines_with thing lines ≡ Ok made → AllByRecursion IsPlainLine made
are_plain thing lines made e =
    subst (OkIs (AllByRecursion IsPlainLine)) e
    (each thing (λ line. Unit {0}) IsPlainLine (λ line h. of_step IsPlainStep line (step_with thing line.step) (step_plain thing line.step)) lines (unasked lines))

pub have_valid_steps : (thing : Option (List ℕ)) (lines made : List Line) → lines_with thing lines ≡ Ok made → AllByRecursion HasValidStep lines → AllByRecursion IsShortLine lines
    → AllByRecursion HasValidStep made
have_valid_steps thing lines made e h k =
    subst (OkIs (AllByRecursion HasValidStep)) e
    (each thing (Both HasValidStep) HasValidStep (λ line both. of_step IsValidStep line (step_with thing line.step) (step_valid thing line.step both.0 both.1)) lines (paired HasValidStep lines h k))

pub are_valid : (thing : Option (List ℕ)) (lines made : List Line) → lines_with thing lines ≡ Ok made → AllByRecursion IsValidLine lines → AllByRecursion IsShortLine lines
    → AllByRecursion IsValidLine made
are_valid thing lines made e h k =
    subst (OkIs (AllByRecursion IsValidLine)) e
    (each thing (Both IsValidLine) IsValidLine (λ line both. of_one line (step_with thing line.step) both.0.task (step_valid thing line.step both.0.step both.1)) lines (paired IsValidLine lines h k))

abbrev IsAsLong : ℕ → Result (List Line) ℕ → Type 0
IsAsLong n lines = OkIs (λ l. length l ≡ n) lines

one_longer : (n : ℕ) (line : Result Line ℕ) (lines : Result (List Line) ℕ) → IsAsLong n lines → IsAsLong (suc n) (onto line lines)
one_longer n (Ok line) (Ok lines) h = ap suc h
one_longer n (Ok line) (Err number) h = tt
one_longer n (Err number) lines h = tt

as_long : (thing : Option (List ℕ)) (lines : List Line) → IsAsLong (length lines) (lines_with thing lines)
unfolding lines_with
as_long thing [] = refl
as_long thing (line ∷ lines) = one_longer (length lines) (request_line thing line) (lines_with thing lines) (as_long thing lines)

pub are_as_many : (thing : Option (List ℕ)) (lines made : List Line) → lines_with thing lines ≡ Ok made → length made ≡ length lines
are_as_many thing lines made e = subst (OkIs (λ l. length l ≡ length lines)) e (as_long thing lines)
