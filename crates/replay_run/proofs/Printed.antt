-- What the command prints of a replay is its history.
use Rattle.std.proofs.Common.{◌≡◌, ◌≢◌, ◌⊎◌, inl, inr, ℕ, ◌-◌, Bool, true, false, cond, List, length, Option, IfSome, Result, Ok, Err, refl, sym, ap, ◌∙◌, subst}
use Rattle.std.specs.Prelude.{nat_lt, ◌==◌}
use Rattle.std.specs.List.{AllByRecursion}
use Rattle.std.proofs.lemmas.Bool.{eqb-true}
use Rattle.plain_text.specs.Lines.{lines_of}
use Rattle.broker_tape.specs.declared.tape.Item.{Item}
use Rattle.broker_tape.specs.Tape.{tape_in}
use Rattle.broker_tape.proofs.ReadTapes.{read_tape_gives}
use Rattle.agent_script.specs.declared.script.Line.{Line}
use Rattle.agent_script.specs.declared.script.Script.{Script}
use Rattle.agent_script.specs.Scripts.{script_of}
use Rattle.command_answers.specs.Answers.{Ends, SinkNow, sink_now}
use Rattle.command_answers.specs.Sources.{EndsBySource, bad_line, source_limit, source_now, too_long, within_limit}
use Rattle.command_words.specs.declared.words.RunWords.{RunWords}
use Rattle.replay_agent.proofs.ReadLines.{read_script_valid}
use Rattle.replay_rounds.specs.Asked.{IsValidLine}
use Rattle.replay_run.proofs.Headline.{prints_history}
use Rattle.replay_run.specs.Commands.{source_answer, script_answer, named_answer, tape_answer, first_said, sizes_in}
use Rattle.replay_run.specs.Headline.{HasRun, PrintsReplay}
use Rattle.thing_script.specs.Plain.{IsShortLine}
use Rattle.thing_script.specs.Topics.{script_with, of_tasks, lines_with}
use Rattle.thing_script.proofs.Lines.{are_valid}
use Rattle.thing_script.proofs.Short.{read_script_short}

-- whoever ran didn't answer 2
not_two : (status : ℕ) (before now : SinkNow) (text : List ℕ) → HasRun status → Ends status before now (record { text = text; status = 2 }) → ⊥
not_two status before now text ran ends = ran.had_lines (ends.told ran.had_memory ran.had_sink)

-- ---- A script with its requests

abbrev as_read : Script → Result Script ℕ
as_read script = Ok script

ok_script : (a b : Script) → as_read a ≡ as_read b → a ≡ b
ok_script a b e = cc

script_parts : (tasks : ℕ) (r : Result (List Line) ℕ) (script : Script) → of_tasks tasks r ≡ Ok script → (script.tasks ≡ tasks) × (r ≡ Ok script.lines)
script_parts tasks (Ok lines) script e = let same = ok_script (record { tasks = tasks; lines = lines }) script e in (ap (λ s. s.tasks) (sym same), ap (λ s. Ok s.lines) same)
script_parts tasks (Err number) script e = absurd (cc e)

-- of one task, it is one of one task, and its lines can be replayed
valid_with : (thing : Option (List ℕ)) (read script : Script) → script_with thing read ≡ Ok script → AllByRecursion IsValidLine read.lines → AllByRecursion IsShortLine read.lines
    → (script.tasks ≡ read.tasks) × AllByRecursion IsValidLine script.lines
unfolding script_with
valid_with thing read script named valid short =
    let parts = script_parts read.tasks (lines_with thing read.lines) script named in (parts.0, are_valid thing read.lines script.lines parts.1 valid short)

pub same_tasks : (thing : Option (List ℕ)) (read script : Script) → script_with thing read ≡ Ok script → read.tasks ≡ 1 → script.tasks ≡ 1
unfolding script_with
same_tasks thing read script named one = (script_parts read.tasks (lines_with thing read.lines) script named).0 ∙ one

module _ (words : RunWords) (text : List ℕ) (told : Option (List ℕ)) (is_all : IfSome told (λ all. all ≡ text)) (status : ℕ) (before now : SinkNow) (ran : HasRun status) where
  abbrev Prints : Type 0
  Prints = PrintsReplay words told status before.written now.written

  by_tape : (read script : Script) (rest : List (List ℕ)) (before_it : ℕ) (tape : Result (List Item) ℕ) → script_of text ≡ Ok (read, rest) → read.tasks ≡ 1 → script_with words.thing read ≡ Ok script → tape_in rest ≡ tape
      → Ends status before now (tape_answer words before_it script tape) → Prints
  by_tape read script rest before_it (Ok found) reads one named plays ends =
      let both = valid_with words.thing read script named (read_script_valid text read rest reads one) (read_script_short text read rest reads) in
      record {
        text = text;
        is_all = is_all;
        read = read;
        rest = rest;
        reads = reads;
        one_task = one;
        script = script;
        named = named;
        items = found;
        plays = plays;
        prints = prints_history words (sizes_in words.size) script found status before now ends (both.0 ∙ one) both.1 ran.had_memory ran.had_sink (read_tape_gives rest found plays);
      }
  by_tape read script rest before_it (Err number) reads one named plays ends = absurd (not_two status before now _ ran ends)

  by_named : (read : Script) (rest : List (List ℕ)) (named : Result Script ℕ) → script_of text ≡ Ok (read, rest) → read.tasks ≡ 1 → script_with words.thing read ≡ named
      → Ends status before now (named_answer words text rest named) → Prints
  by_named read rest (Ok script) reads one named ends = by_tape read script rest (length (lines_of text) - length rest) (tape_in rest) reads one named refl ends
  by_named read rest (Err number) reads one named ends = absurd (not_two status before now _ ran ends)

  by_tasks : (one : Bool) (read : Script) (rest : List (List ℕ)) → (read.tasks == 1) ≡ one → script_of text ≡ Ok (read, rest) → Ends status before now (script_answer words text (Ok (read, rest))) → Prints
  by_tasks true read rest is reads ends =
      by_named read rest (script_with words.thing read) reads (eqb-true read.tasks 1 is) refl
      (subst (Ends status before now) (ap (λ b. cond b (named_answer words text rest (script_with words.thing read)) (bad_line (first_said 1 (lines_of text)))) is) ends)
  by_tasks false read rest is reads ends =
      absurd (not_two status before now _ ran (subst (Ends status before now) (ap (λ b. cond b (named_answer words text rest (script_with words.thing read)) (bad_line (first_said 1 (lines_of text)))) is) ends))

  by_script : (read : Result (Script × List (List ℕ)) ℕ) → script_of text ≡ read → Ends status before now (script_answer words text read) → Prints
  by_script (Ok read) is ends = by_tasks (read.0.tasks == 1) read.0 read.1 refl is ends
  by_script (Err number) is ends = absurd (not_two status before now _ ran ends)

  by_size : (long : Bool) → Ends status before now (cond long too_long (script_answer words text (script_of text))) → Prints
  by_size true ends = absurd (not_two status before now _ ran ends)
  by_size false ends = by_script (script_of text) refl ends

  by_source : Ends status before now (source_answer words text) → Prints
  unfolding within_limit
  by_source ends = by_size (nat_lt source_limit (length text)) ends

-- whatever the source told
pub prints_replay : (words : RunWords) (status : ℕ) (told left : Option (List ℕ)) (faults faults_then : ℕ) (old new : Option (List ℕ)) (before now : ℕ)
    → EndsBySource status (source_now told faults) (source_now left faults_then) (sink_now old before) (sink_now new now) (source_answer words) → HasRun status → PrintsReplay words told status old new
prints_replay words status told left faults faults_then old new before now (inl by) ran = by_source words by.text told by.is_all status (sink_now old before) (sink_now new now) ran by.ends
prints_replay words status told left faults faults_then old new before now (inr by) ran = absurd (ran.had_source (by.ends.told ran.had_memory ran.had_sink))
