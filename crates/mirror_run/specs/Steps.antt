-- The source of a mirror: changes and publishes, line by line.
use Rattle.std.specs.Prelude.{◌≡◌, ℕ, ◌+◌, List, [], ◌∷◌, Option, Some, None, option_map, Result, Ok, Err, if◌then◌else◌, codes}
use Rattle.std.specs.Str.{bytes_eq}
use Rattle.device_docs.specs.Changes.{change_in, fault_in}
use Rattle.device_docs.specs.declared.changes.Change.{Change}
use Rattle.device_docs.specs.declared.faults.ChangeFault.{ChangeFault}
use Rattle.plain_text.specs.Lines.{is_passed, lines_of}
use Rattle.plain_text.specs.Payloads.{payload_of}
use Rattle.plain_text.specs.Reading.{◌>>=◌}
use Rattle.plain_text.specs.Words.{word_at, last_at}
use Rattle.mirror_run.specs.declared.steps.MirrorStep.{MirrorStep}
use Rattle.mirror_run.specs.declared.steps.MirrorStep.TheVariants as s
use Rattle.mirror_run.specs.declared.steps.StepsFault.{StepsFault}
use Rattle.mirror_run.specs.declared.steps.StepsFault.TheVariants as f

abbrev pub sound : Option ChangeFault → Option Change → Option Change
sound None change = change
sound (Some fault) change = None

-- the change that a text says, where it has no fault
abbrev pub sound_change : List ℕ → Option Change
sound_change text = sound (fault_in text) (change_in text)

-- the word of `change HEX`
unfoldable pub hex_of : List ℕ → Option (List ℕ)
hex_of line = do
  verb ← word_at line
  if bytes_eq verb.0 (codes "change") then last_at verb.1 else None

unfoldable pub change_line : List ℕ → Option Change
change_line line = do
  word ← hex_of line
  text ← payload_of word
  sound_change text

-- `publish`, or `change HEX`
abbrev pub step_of : List ℕ → Option MirrorStep
step_of line = if bytes_eq line (codes "publish") then Some s.Publish else option_map s.Change (change_line line)

abbrev pub step_or_number : ℕ → Option MirrorStep → Result (List MirrorStep) ℕ → Result (List MirrorStep) ℕ
step_or_number number None others = Err number
step_or_number number (Some step) (Ok steps) = Ok (step ∷ steps)
step_or_number number (Some step) (Err other) = Err other

-- the steps of these lines, of which the first has this number, or the number of the first bad one
unfoldable pub steps_from : ℕ → List (List ℕ) → Result (List MirrorStep) ℕ
steps_from number [] = Ok []
steps_from number (line ∷ lines) =
    if is_passed line then steps_from (number + 1) lines
    else step_or_number number (step_of line) (steps_from (number + 1) lines)

abbrev pub steps_of : List ℕ → Result (List MirrorStep) ℕ
steps_of text = steps_from 1 (lines_of text)

-- The answer is the steps, and Line exactly where that line is the first bad one. Want of memory says nothing.
abbrev pub Tells : List ℕ → Result (List MirrorStep) StepsFault → Type 0
Tells text (Ok steps) = steps_of text ≡ Ok steps
Tells text (Err (f.Line number)) = steps_of text ≡ Err number
Tells text (Err f.NoMemory) = Unit {0}
