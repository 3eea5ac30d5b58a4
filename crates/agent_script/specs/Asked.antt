-- What the lines of a script ask, task by task.
use Rattle.std.specs.Prelude.{ℕ, List, [], ◌∷◌, ◌++◌, if◌then◌else◌, ◌==◌}
use Rattle.agent_journal.specs.declared.request.Request.{Request}
use Rattle.agent_journal.specs.declared.request.Request.TheVariants as requests
use Rattle.agent_script.specs.declared.script.Line.{Line}
use Rattle.agent_script.specs.declared.script.Step.{Step}
use Rattle.agent_script.specs.declared.script.Step.TheVariants as steps
use Rattle.agent_script.specs.declared.script.Script.{Script}

-- it speaks of no shadow and of no job
abbrev pub IsPlainStep : Step → Type 0
IsPlainStep (steps.Shadow op name payload) = ⊥
IsPlainStep (steps.Jobs op job payload) = ⊥
IsPlainStep _ = Unit {0}

abbrev pub IsPlainLine : Line → Type 0
IsPlainLine line = IsPlainStep line.step

-- what a line asks of the agent
abbrev pub asked_by : Step → List Request
asked_by (steps.Do request) = request ∷ []
asked_by _ = []

-- what the lines of task t ask
abbrev pub asked_in : ℕ → List Line → List Request
asked_in t [] = []
asked_in t (line ∷ lines) = (if line.task == t then asked_by line.step else []) ++ asked_in t lines

-- what task t asks: its lines' requests in their order, and then Leave
abbrev pub asked : Script → ℕ → List Request
asked script t = asked_in t script.lines ++ requests.Leave ∷ []
