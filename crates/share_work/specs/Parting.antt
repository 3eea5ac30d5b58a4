-- A script's steps, task by task.
use Rattle.std.specs.Prelude.{◌≡◌, ℕ, ◌<◌, List, length, Some, slice_get}
use Rattle.agent_script.specs.declared.script.Line.{Line}
use Rattle.agent_script.specs.declared.script.Step.{Step}
use Rattle.std.specs.List.{AllByRecursion}
use Rattle.agent_script.specs.Laws.{IsReadStep, IsReadLine}
use Rattle.agent_script.specs.Asked.{asked_in}
use Rattle.share_work.specs.Steps.{steps_of, asked_of}

abbrev pub HasTaskBelow : ℕ → Line → Type 0
HasTaskBelow tasks line = line.task < tasks

-- The k-th of them are the steps of task k.
pub record AreStepsOf (tasks : ℕ) (lines : List Line) (parts : List (List Step)) : Type 0 where
  pub count : length parts ≡ tasks
  pub own : (k : ℕ) → k < tasks → slice_get parts k ≡ Some (steps_of k lines)

-- What a task's steps ask is what the script's lines ask of the task.
abbrev pub StepsAskAsLines : Type 0
StepsAskAsLines = (t : ℕ) (lines : List Line) → asked_of (steps_of t lines) ≡ asked_in t lines

-- Where each line of a script is one that was read, so is each step of a task.
abbrev pub StepsAreRead : Type 0
StepsAreRead = (tasks t : ℕ) (lines : List Line) → AllByRecursion (IsReadLine tasks) lines → AllByRecursion IsReadStep (steps_of t lines)
