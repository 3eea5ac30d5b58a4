-- What a reader's answer says of the script that the definition reads.
use Rattle.std.specs.Prelude.{◌≡◌, ℕ, ◌+◌, ◌≤◌, List, ◌++◌, length, drop, Option, Some, None, Result, Ok, Err}
use Rattle.std.specs.Option.{option_map}
use Rattle.plain_text.specs.Lines.{lines_of}
use Rattle.plain_text.specs.declared.refusal.Refusal.{Refusal}
use Rattle.plain_text.specs.declared.refusal.Refusal.TheVariants as refusals
use Rattle.agent_script.specs.declared.script.Line.{Line}
use Rattle.agent_script.specs.declared.script.Script.{Script}
use Rattle.agent_script.specs.declared.script.ScriptFault.{ScriptFault}
use Rattle.agent_script.specs.declared.script.ScriptFault.TheVariants as faults
use Rattle.agent_script.specs.Scripts.{script_of, script_with, lines_from}

-- The answer is the script and the place of the lines behind it, and Line exactly where that line is the first bad one. Want
-- of memory says nothing.
abbrev pub Tells : List ℕ → Result (Script × ℕ) ScriptFault → Type 0
Tells text (Ok x) = (script_of text ≡ Ok (x.0, lines_of (drop x.1 text))) × (x.1 ≤ length text)
Tells text (Err (faults.Line number)) = script_of text ≡ Err number
Tells text (Err faults.NoMemory) = Unit {0}

-- The same of the lines from a place on.
abbrev pub TellsLines : List ℕ → ℕ → ℕ → ℕ → Result (List Line × ℕ) ScriptFault → Type 0
TellsLines text tasks first from (Ok x) = (lines_from tasks first (lines_of (drop from text)) ≡ Ok (x.0, lines_of (drop x.1 text))) × (x.1 ≤ length text)
TellsLines text tasks first from (Err (faults.Line number)) = lines_from tasks first (lines_of (drop from text)) ≡ Err number
TellsLines text tasks first from (Err faults.NoMemory) = Unit {0}

-- How many tasks there are, and the number and the place of the line behind that.
abbrev pub TellsTasks : List ℕ → Result (ℕ × ℕ × ℕ) ScriptFault → Type 0
TellsTasks text (Ok x) = (script_of text ≡ script_with x.0 (lines_from x.0 x.1 (lines_of (drop x.2 text)))) × (x.1 ≤ x.2 + 1) × (x.2 ≤ length text)
TellsTasks text (Err (faults.Line number)) = script_of text ≡ Err number
TellsTasks text (Err faults.NoMemory) = ⊥

-- Some more items behind those that were there, as the reading gives them.
abbrev pub GivesMore : {X : Type 0} → List X → List X → Result (Unit {0}) Refusal → Option (List X) → Type 0
GivesMore old new (Ok _) read = option_map (λ more. old ++ more) read ≡ Some new
GivesMore old new (Err refusals.Bad) read = read ≡ None
GivesMore old new (Err refusals.NoMemory) read = Unit {0}
