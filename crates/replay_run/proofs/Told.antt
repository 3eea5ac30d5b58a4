-- From what was read to the whole answer.
use Rattle.std.proofs.Common.{◌≡◌, ℕ, ◌+◌, ◌<◌, ◌≤◌, ◌⊎◌, cond, List, length, Option, IfSome, Result, Ok, Err, refl, sym, ap, ◌∙◌, subst}
use Rattle.std.specs.Prelude.{◌==◌}
use Rattle.std.proofs.lemmas.Bool.{le-ltb, ne_eqb}
use Rattle.plain_text.specs.Lines.{lines_of}
use Rattle.broker_tape.specs.declared.tape.Item.{Item}
use Rattle.agent_script.specs.declared.script.Script.{Script}
use Rattle.agent_script.specs.Scripts.{script_of}
use Rattle.command_answers.specs.Answers.{Answer, Ends, sink_now}
use Rattle.command_answers.specs.Sources.{EndsBySource, bad_line, source_limit, source_now}
use Rattle.command_answers.proofs.Sourced.{by_text}
use Rattle.command_words.specs.declared.words.RunWords.{RunWords}
use Rattle.replay_run.specs.Commands.{source_answer, text_answer, script_answer, named_answer, tape_answer, first_said}
use Rattle.thing_script.specs.Topics.{script_with}

-- a source that was read to its end is judged by its text
pub source_told : (words : RunWords) (text : List ℕ) (status : ℕ) (a b : Option (List ℕ)) (faults faults_then : ℕ) (old new : Option (List ℕ)) (f g : ℕ) → IfSome a (λ all. all ≡ text) → length text ≤ source_limit → faults_then ≡ faults
    → Ends status (sink_now old f) (sink_now new g) (text_answer words text) → EndsBySource status (source_now a faults) (source_now b faults_then) (sink_now old f) (sink_now new g) (source_answer words)
source_told words text status a b faults faults_then old new f g all short same h =
    by_text (text_answer words) text status a b faults faults_then (sink_now old f) (sink_now new g) all short same h

-- a bad line of the script
pub line_told : (words : RunWords) (text : List ℕ) (number status : ℕ) (old new : Option (List ℕ)) (f g : ℕ) → script_of text ≡ Err number → Ends status (sink_now old f) (sink_now new g) (bad_line number) → Ends status (sink_now old f) (sink_now new g) (text_answer words text)
line_told words text number status old new f g is h = subst (Ends status (sink_now old f) (sink_now new g)) (ap (script_answer words text) (sym is)) h

-- the script with its requests, or its first line that has no topic
pub named_told : (words : RunWords) (text : List ℕ) (script : Script) (rest : List (List ℕ)) (named : Result Script ℕ) (status : ℕ) (old new : Option (List ℕ)) (f g : ℕ) → script.tasks ≡ 1 → script_with words.thing script ≡ named
    → Ends status (sink_now old f) (sink_now new g) (named_answer words text rest named) → Ends status (sink_now old f) (sink_now new g) (script_answer words text (Ok (script, rest)))
named_told words text script rest named status old new f g one is h =
    subst (Ends status (sink_now old f) (sink_now new g))
    (ap (named_answer words text rest) (sym is) ∙ sym (ap (λ n. cond (n == 1) (named_answer words text rest (script_with words.thing script)) (bad_line (first_said 1 (lines_of text)))) one)) h

-- a line that has no topic
pub topic_told : (words : RunWords) (text : List ℕ) (script : Script) (rest : List (List ℕ)) (number status : ℕ) (old new : Option (List ℕ)) (f g : ℕ) → script.tasks ≡ 1 → script_with words.thing script ≡ Err number
    → Ends status (sink_now old f) (sink_now new g) (bad_line number) → Ends status (sink_now old f) (sink_now new g) (script_answer words text (Ok (script, rest)))
topic_told words text script rest number status old new f g one is h = named_told words text script rest (Err number) status old new f g one is h

-- another number of tasks
pub tasks_told : (words : RunWords) (text : List ℕ) (script : Script) (rest : List (List ℕ)) (number status : ℕ) (old new : Option (List ℕ)) (f g : ℕ) → (script.tasks ≡ 1 → ⊥) → number ≡ first_said 1 (lines_of text)
    → Ends status (sink_now old f) (sink_now new g) (bad_line number) → Ends status (sink_now old f) (sink_now new g) (script_answer words text (Ok (script, rest)))
tasks_told words text script rest number status old new f g other is h =
    subst (Ends status (sink_now old f) (sink_now new g)) (ap bad_line is ∙ sym (ap (λ b. cond b (named_answer words text rest (script_with words.thing script)) (bad_line (first_said 1 (lines_of text)))) (ne_eqb script.tasks 1 other))) h

-- a bad line of the tape
pub tape_told : (words : RunWords) (before_it number : ℕ) (script : Script) (tape : Result (List Item) ℕ) (status : ℕ) (old new : Option (List ℕ)) (f g : ℕ) → tape ≡ Err number
    → Ends status (sink_now old f) (sink_now new g) (bad_line (before_it + number)) → Ends status (sink_now old f) (sink_now new g) (tape_answer words before_it script tape)
tape_told words before_it number script tape status old new f g is h = subst (λ (t : Result (List Item) ℕ). Ends status (sink_now old f) (sink_now new g) (tape_answer words before_it script t)) (sym is) h
