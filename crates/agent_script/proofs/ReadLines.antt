-- What holds of each line of a script that was read from a text.
use Rattle.std.proofs.Common.{◌≡◌, ℕ, ◌+◌, ◌-◌, ◌<◌, ◌≤◌, Bool, true, false, cond, List, [], ◌∷◌, length, Option, Some, None, Result, Ok, Err, refl, subst, arith}
use Rattle.std.specs.Prelude.{nat_le, nat_lt, ◌&&◌, codes}
use Rattle.std.specs.List.{AllByRecursion}
use Rattle.std.specs.Str.{bytes_eq}
use Rattle.std.proofs.lemmas.Bool.{and_parts, leb-true, ltb-true}
use Rattle.plain_text.specs.Numbers.{number_in}
use Rattle.plain_text.specs.Escapes.{text_of}
use Rattle.plain_text.specs.Lines.{is_passed, lines_of}
use Rattle.plain_text.specs.Payloads.{payload_of}
use Rattle.plain_text.specs.Words.{word_at, last_at}
use Rattle.plain_text.proofs.WhatIsRead.{SomeIs, always, bound, either}
use Rattle.agent_journal.specs.declared.request.Request.{Request}
use Rattle.agent_journal.specs.declared.request.Request.TheVariants as requests
use Rattle.agent_script.specs.declared.script.Line.{Line}
use Rattle.agent_script.specs.declared.script.Script.{Script}
use Rattle.agent_journal.specs.Readings.{is_leave}
use Rattle.agent_journal.specs.Requests.{is_valid}
use Rattle.agent_script.specs.Laws.{IsReadStep, IsReadLine, ReadLinesHold}
use Rattle.agent_script.specs.Requests.{qos_of, asks_in, filters_in, publish_of, subscribe_of, unsubscribe_of, valid}
use Rattle.agent_script.specs.Scripts.{Read, lines_from, line_or_number, is_tape, tasks_of, script_from, script_with, script_behind}
use Rattle.agent_script.specs.Steps.{does, named, short_payload, shadow_op, shadow_name, all_jobs_of, one_job_of, job_step, jobs_of, listen_of, shadow_of, word_of, words_of, by_words, step_of, task_of, line_of}

-- ---- Requests

abbrev IsAsked : Request → Type 0
IsAsked r = (is_valid r ≡ true) × (is_leave r ≡ false)

valid_asked : (r : Request) → is_leave r ≡ false → SomeIs IsAsked (valid r)
valid_asked r other = by (is_valid r) refl
  where
    by : (b : Bool) → is_valid r ≡ b → SomeIs IsAsked (cond b (Some r) None)
    by true e = (e, other)
    by false e = tt

publish_asked : (line : List ℕ) → SomeIs IsAsked (publish_of line)
unfolding publish_of
publish_asked line =
    always IsAsked (word_at line) _ (λ level. always IsAsked (qos_of level.0) _ (λ qos. always IsAsked (word_at level.1) _ (λ name. always IsAsked (text_of name.0) _ (λ topic.
    always IsAsked (last_at name.1) _ (λ word. always IsAsked (payload_of word) _ (λ payload. valid_asked (requests.Publish qos topic payload) refl))))))

subscribe_asked : (line : List ℕ) → SomeIs IsAsked (subscribe_of line)
unfolding subscribe_of
subscribe_asked line = always IsAsked (asks_in 8 line) _ (λ asks. valid_asked (requests.Subscribe asks) refl)

unsubscribe_asked : (line : List ℕ) → SomeIs IsAsked (unsubscribe_of line)
unfolding unsubscribe_of
unsubscribe_asked line = always IsAsked (filters_in 8 line) _ (λ filters. valid_asked (requests.Unsubscribe filters) refl)

-- ---- Steps

does_read : (o : Option Request) → SomeIs IsAsked o → SomeIs IsReadStep (does o)
does_read (Some r) h = h
does_read None h = tt

word_read : (word : List ℕ) → SomeIs IsReadStep (word_of word)
unfolding word_of is_valid
word_read word =
    either IsReadStep (bytes_eq word (codes "ping")) _ _ (refl, refl)
    (either IsReadStep (bytes_eq word (codes "disconnect")) _ _ (refl, refl)
    (either IsReadStep (bytes_eq word (codes "terminate")) _ _ (refl, refl) (either IsReadStep (bytes_eq word (codes "wait")) _ _ tt tt)))

listen_read : (line : List ℕ) → SomeIs IsReadStep (listen_of line)
unfolding listen_of
listen_read line = always IsReadStep (last_at line) _ (λ word. always IsReadStep (number_in 1 1000000 word) _ (λ count. tt))

abbrev IsFew : List ℕ → Type 0
IsFew payload = length payload ≤ 131072

few_by : (payload : List ℕ) (few : Bool) → nat_le (length payload) 131072 ≡ few → SomeIs IsFew (cond few (Some payload) None)
few_by payload true e = leb-true (length payload) 131072 e
few_by payload false e = tt

payload_few : (word : List ℕ) → SomeIs IsFew (short_payload word)
payload_few word = always IsFew (payload_of word) _ (λ payload. few_by payload (nat_le (length payload) 131072) refl)

shadow_read : (line : List ℕ) → SomeIs IsReadStep (shadow_of line)
unfolding shadow_of
shadow_read line =
    always IsReadStep (word_at line) _ (λ op. always IsReadStep (shadow_op op.0) _ (λ kind. always IsReadStep (word_at op.1) _ (λ name. always IsReadStep (shadow_name name.0) _ (λ shadow.
    always IsReadStep (last_at name.1) _ (λ word. bound IsFew IsReadStep (short_payload word) _ (payload_few word) (λ payload few. few))))))

all_jobs_read : (op line : List ℕ) → SomeIs IsReadStep (all_jobs_of op line)
unfolding all_jobs_of
all_jobs_read op line = always IsReadStep (last_at line) _ (λ word. bound IsFew IsReadStep (short_payload word) _ (payload_few word) (λ payload few. few))

one_job_read : (op line : List ℕ) → SomeIs IsReadStep (one_job_of op line)
unfolding one_job_of
one_job_read op line =
    always IsReadStep (word_at line) _ (λ name. always IsReadStep (named name.0) _ (λ job.
    always IsReadStep (last_at name.1) _ (λ word. bound IsFew IsReadStep (short_payload word) _ (payload_few word) (λ payload few. few))))

job_step_read : (op line : List ℕ) → SomeIs IsReadStep (job_step op line)
unfolding job_step
job_step_read op line =
    either IsReadStep (bytes_eq op (codes "start-next")) _ _ (all_jobs_read (codes "start-next") line)
    (either IsReadStep (bytes_eq op (codes "get")) _ _ (all_jobs_read (codes "get") line)
    (either IsReadStep (bytes_eq op (codes "describe")) _ _ (one_job_read (codes "describe") line)
    (either IsReadStep (bytes_eq op (codes "update")) _ _ (one_job_read (codes "update") line) tt)))

jobs_read : (line : List ℕ) → SomeIs IsReadStep (jobs_of line)
unfolding jobs_of
jobs_read line = always IsReadStep (word_at line) _ (λ op. job_step_read op.0 op.1)

words_read : (verb line : List ℕ) → SomeIs IsReadStep (words_of verb line)
unfolding words_of
words_read verb line =
    either IsReadStep (bytes_eq verb (codes "publish")) _ _ (does_read (publish_of line) (publish_asked line))
    (either IsReadStep (bytes_eq verb (codes "subscribe")) _ _ (does_read (subscribe_of line) (subscribe_asked line))
    (either IsReadStep (bytes_eq verb (codes "unsubscribe")) _ _ (does_read (unsubscribe_of line) (unsubscribe_asked line))
    (either IsReadStep (bytes_eq verb (codes "listen")) _ _ (listen_read line)
    (either IsReadStep (bytes_eq verb (codes "shadow")) _ _ (shadow_read line) (either IsReadStep (bytes_eq verb (codes "jobs")) _ _ (jobs_read line) tt)))))

by_read : (word : Option (List ℕ)) (next : Option (List ℕ × List ℕ)) → SomeIs IsReadStep (by_words word next)
by_read (Some word) next = word_read word
by_read None None = tt
by_read None (Some next) = words_read next.0 next.1

step_read : (line : List ℕ) → SomeIs IsReadStep (step_of line)
unfolding step_of
step_read line = by_read (last_at line) (word_at line)

-- ---- Lines

task_read : (tasks : ℕ) (word : List ℕ) → SomeIs (λ task. task < tasks) (task_of tasks word)
task_read tasks [] = tt
task_read tasks (b ∷ []) = by (nat_le 48 b && nat_lt b (48 + tasks)) refl
  where
    by : (digit : Bool) → (nat_le 48 b && nat_lt b (48 + tasks)) ≡ digit → SomeIs (λ task. task < tasks) (cond digit (Some (b - 48)) None)
    by true is =
        let two = and_parts (nat_le 48 b) (nat_lt b (48 + tasks)) is in
        let low = leb-true 48 b two.0 in
        let high = ltb-true b (48 + tasks) two.1 in
        omega (arith, low, high)
    by false is = tt
task_read tasks (b ∷ c ∷ word) = tt

line_read : (tasks number : ℕ) (line : List ℕ) → SomeIs (IsReadLine tasks) (line_of tasks number line)
unfolding line_of
line_read tasks number line =
    always (IsReadLine tasks) (word_at line) _ (λ word. bound (λ task. task < tasks) (IsReadLine tasks) (task_of tasks word.0) _ (task_read tasks word.0) (λ task below.
    bound IsReadStep (IsReadLine tasks) (step_of word.1) _ (step_read word.1) (λ step h. record { task = below; step = h })))

-- ---- Scripts

abbrev AllRead : ℕ → Result Read ℕ → Type 0
AllRead tasks (Ok read) = AllByRecursion (IsReadLine tasks) read.0
AllRead tasks (Err number) = Unit {0}

onto_read : (tasks : ℕ) (line : Option Line) (number : ℕ) (others : Result Read ℕ) → SomeIs (IsReadLine tasks) line → AllRead tasks others → AllRead tasks (line_or_number number line others)
onto_read tasks None number others h k = tt
onto_read tasks (Some line) number (Ok read) h k = (h, k)
onto_read tasks (Some line) number (Err bad) h k = tt

by_tests : (tasks : ℕ) (passed tape : Bool) (number : ℕ) (line : Option Line) (lines : List (List ℕ)) (others : Result Read ℕ) → SomeIs (IsReadLine tasks) line → AllRead tasks others
    → AllRead tasks (cond passed others (cond tape (Ok ([], lines)) (line_or_number number line others)))
by_tests tasks true tape number line lines others h k = k
by_tests tasks false true number line lines others h k = tt
by_tests tasks false false number line lines others h k = onto_read tasks line number others h k

lines_read : (tasks number : ℕ) (lines : List (List ℕ)) → AllRead tasks (lines_from tasks number lines)
unfolding lines_from
lines_read tasks number [] = tt
lines_read tasks number (line ∷ lines) =
    by_tests tasks (is_passed line) (is_tape line) number (line_of tasks number line) lines (lines_from tasks (number + 1) lines) (line_read tasks number line) (lines_read tasks (number + 1) lines)

abbrev AllScript : Result (Script × List (List ℕ)) ℕ → Type 0
AllScript (Ok x) = AllByRecursion (IsReadLine x.0.tasks) x.0.lines
AllScript (Err number) = Unit {0}

with_read : (tasks : ℕ) (read : Result Read ℕ) → AllRead tasks read → AllScript (script_with tasks read)
with_read tasks (Ok read) h = h
with_read tasks (Err number) h = tt

behind_read : (number : ℕ) (tasks : Option ℕ) (lines : List (List ℕ)) → AllScript (script_behind number tasks lines)
behind_read number None lines = tt
behind_read number (Some tasks) lines = with_read tasks (lines_from tasks (number + 1) lines) (lines_read tasks (number + 1) lines)

by_passed : (passed : Bool) (x y : Result (Script × List (List ℕ)) ℕ) → AllScript x → AllScript y → AllScript (cond passed x y)
by_passed true x y h k = h
by_passed false x y h k = k

script_read : (number : ℕ) (lines : List (List ℕ)) → AllScript (script_from number lines)
unfolding script_from
script_read number [] = tt
script_read number (line ∷ lines) =
    by_passed (is_passed line) (script_from (number + 1) lines) (script_behind number (tasks_of line) lines) (script_read (number + 1) lines) (behind_read number (tasks_of line) lines)

pub lines_are_read : ReadLinesHold
lines_are_read text script others e = subst AllScript e (script_read 1 (lines_of text))
