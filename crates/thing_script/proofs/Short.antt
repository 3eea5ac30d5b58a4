-- The payloads of a script that was read from a text are short.
use Rattle.std.proofs.Common.{◌≡◌, ℕ, List, [], ◌∷◌, Ok}
use Rattle.std.specs.List.{AllByRecursion}
use Rattle.agent_script.specs.declared.script.Line.{Line}
use Rattle.agent_script.specs.declared.script.Script.{Script}
use Rattle.agent_script.specs.declared.script.Step.{Step}
use Rattle.agent_script.specs.declared.script.Step.TheVariants as steps
use Rattle.agent_script.specs.Scripts.{script_of}
use Rattle.agent_script.specs.Laws.{IsReadStep, IsReadLine}
use Rattle.agent_script.proofs.ReadLines.{lines_are_read}
use Rattle.thing_script.specs.Plain.{IsShortLine, IsShortStep}

step_short : (step : Step) → IsReadStep step → IsShortStep step
step_short (steps.Do request) h = tt
step_short (steps.Shadow op name payload) h = h
step_short (steps.Jobs op job payload) h = h
step_short steps.Wait h = tt
step_short (steps.Listen count) h = tt

lines_short : (tasks : ℕ) (lines : List Line) → AllByRecursion (IsReadLine tasks) lines → AllByRecursion IsShortLine lines
lines_short tasks [] h = tt
lines_short tasks (line ∷ lines) h = (step_short line.step h.0.step, lines_short tasks lines h.1)

pub read_script_short : (text : List ℕ) (script : Script) (others : List (List ℕ)) → script_of text ≡ Ok (script, others) → AllByRecursion IsShortLine script.lines
read_script_short text script others e = lines_short script.tasks script.lines (lines_are_read text script others e)
