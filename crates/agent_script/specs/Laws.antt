-- What each line of a script that was read from a text holds.
use Rattle.std.specs.Prelude.{◌≡◌, ℕ, ◌<◌, ◌≤◌, true, false, List, length, Ok}
use Rattle.std.specs.List.{AllByRecursion}
use Rattle.agent_script.specs.declared.script.Line.{Line}
use Rattle.agent_script.specs.declared.script.Script.{Script}
use Rattle.agent_script.specs.declared.script.Step.{Step}
use Rattle.agent_script.specs.declared.script.Step.TheVariants as steps
use Rattle.agent_journal.specs.Readings.{is_leave}
use Rattle.agent_journal.specs.Requests.{is_valid}
use Rattle.agent_script.specs.Scripts.{script_of}

-- Its request is valid and no Leave, and the payload for a shadow or a job has at most 131,072 bytes.
abbrev pub IsReadStep : Step → Type 0
IsReadStep (steps.Do request) = (is_valid request ≡ true) × (is_leave request ≡ false)
IsReadStep (steps.Shadow op name payload) = length payload ≤ 131072
IsReadStep (steps.Jobs op job payload) = length payload ≤ 131072
IsReadStep _ = Unit {0}

-- It belongs to one of so many tasks.
pub record IsReadLine (tasks : ℕ) (line : Line) : Type 0 where
  pub task : line.task < tasks
  pub step : IsReadStep line.step

abbrev pub ReadLinesHold : Type 0
ReadLinesHold = (text : List ℕ) (script : Script) (others : List (List ℕ)) → script_of text ≡ Ok (script, others) → AllByRecursion (IsReadLine script.tasks) script.lines
