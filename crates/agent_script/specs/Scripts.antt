-- Scripts: what the tasks of a run ask, line by line.
use Rattle.std.specs.Prelude.{ℕ, ◌+◌, ◌-◌, ◌&&◌, nat_le, List, [], ◌∷◌, Option, Some, None, Bool, Result, Ok, Err, if◌then◌else◌, codes}
use Rattle.std.specs.Str.{bytes_eq}
use Rattle.plain_text.specs.Lines.{is_passed, lines_of}
use Rattle.plain_text.specs.Reading.{◌>>=◌}
use Rattle.plain_text.specs.Words.{word_at, last_at}
use Rattle.agent_script.specs.declared.script.Line.{Line}
use Rattle.agent_script.specs.declared.script.Script.{Script}
use Rattle.agent_script.specs.Steps.{line_of}

-- the lines of a script, and what stands behind its line `tape`
abbrev pub Read : Type 0
Read = List Line × List (List ℕ)

abbrev pub onto_lines : Line → Result Read ℕ → Result Read ℕ
onto_lines line (Ok read) = Ok (line ∷ read.0, read.1)
onto_lines line (Err number) = Err number

abbrev pub line_or_number : ℕ → Option Line → Result Read ℕ → Result Read ℕ
line_or_number number None others = Err number
line_or_number number (Some line) others = onto_lines line others

abbrev pub is_tape : List ℕ → Bool
is_tape line = bytes_eq line (codes "tape")

-- what these lines say, of which the first has this number, or the first bad line
unfoldable pub lines_from : ℕ → ℕ → List (List ℕ) → Result Read ℕ
lines_from tasks number [] = Ok ([], [])
lines_from tasks number (line ∷ lines) =
    if is_passed line then lines_from tasks (number + 1) lines
    else if is_tape line then Ok ([], lines)
    else line_or_number number (line_of tasks number line) (lines_from tasks (number + 1) lines)

-- one digit from 1 to 8
abbrev pub count_of : List ℕ → Option ℕ
count_of [] = None
count_of (b ∷ []) = if nat_le 49 b && nat_le b 56 then Some (b - 48) else None
count_of (b ∷ c ∷ word) = None

-- `tasks N`
unfoldable pub tasks_of : List ℕ → Option ℕ
tasks_of line = do
  verb ← word_at line
  word ← if bytes_eq verb.0 (codes "tasks") then last_at verb.1 else None
  count_of word

abbrev pub script_with : ℕ → Result Read ℕ → Result (Script × List (List ℕ)) ℕ
script_with tasks (Ok read) = Ok (record { tasks = tasks; lines = read.0 }, read.1)
script_with tasks (Err number) = Err number

-- the lines behind the one of this number, which says how many tasks there are
abbrev pub script_behind : ℕ → Option ℕ → List (List ℕ) → Result (Script × List (List ℕ)) ℕ
script_behind number None lines = Err number
script_behind number (Some tasks) lines = script_with tasks (lines_from tasks (number + 1) lines)

-- The first line says how many tasks there are. Where there is none, the text is refused at the number behind its last.
unfoldable pub script_from : ℕ → List (List ℕ) → Result (Script × List (List ℕ)) ℕ
script_from number [] = Err number
script_from number (line ∷ lines) = if is_passed line then script_from (number + 1) lines else script_behind number (tasks_of line) lines

-- the script that a text spells and the lines behind it, or the number of its first bad line
abbrev pub script_of : List ℕ → Result (Script × List (List ℕ)) ℕ
script_of text = script_from 1 (lines_of text)
