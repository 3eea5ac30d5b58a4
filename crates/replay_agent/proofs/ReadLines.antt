-- The lines of a script that was read from a text can be replayed.
use Rattle.std.proofs.Common.{◌≡◌, ℕ, List, [], ◌∷◌, Ok, arith}
use Rattle.std.specs.List.{AllByRecursion}
use Rattle.agent_script.specs.declared.script.Line.{Line}
use Rattle.agent_script.specs.declared.script.Script.{Script}
use Rattle.agent_script.specs.declared.script.Step.{Step}
use Rattle.agent_script.specs.declared.script.Step.TheVariants as steps
use Rattle.agent_script.specs.Scripts.{script_of}
use Rattle.agent_script.specs.Laws.{IsReadStep, IsReadLine}
use Rattle.agent_script.proofs.ReadLines.{lines_are_read}
use Rattle.replay_rounds.specs.Asked.{IsValidStep, IsValidLine}

step_valid : (step : Step) → IsReadStep step → IsValidStep step
step_valid (steps.Do request) h = h
step_valid (steps.Shadow op name payload) h = tt
step_valid (steps.Jobs op job payload) h = tt
step_valid steps.Wait h = tt
step_valid (steps.Listen count) h = tt

lines_valid : (tasks : ℕ) (lines : List Line) → tasks ≡ 1 → AllByRecursion (IsReadLine tasks) lines → AllByRecursion IsValidLine lines
lines_valid tasks [] one h = tt
lines_valid tasks (line ∷ lines) one h = (record { task = (let below = h.0.task in omega (arith, below, one)); step = step_valid line.step h.0.step }, lines_valid tasks lines one h.1)

pub read_script_valid : (text : List ℕ) (script : Script) (others : List (List ℕ)) → script_of text ≡ Ok (script, others) → script.tasks ≡ 1 → AllByRecursion IsValidLine script.lines
read_script_valid text script others e one = lines_valid script.tasks script.lines one (lines_are_read text script others e)
