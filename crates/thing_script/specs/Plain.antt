-- Payloads that a request may have, and requests that are valid.
use Rattle.std.specs.Prelude.{◌≤◌, length}
use Rattle.agent_script.specs.declared.script.Line.{Line}
use Rattle.agent_script.specs.declared.script.Step.{Step}
use Rattle.agent_script.specs.declared.script.Step.TheVariants as steps
use Rattle.replay_rounds.specs.Asked.{IsValidStep}

-- where it speaks of a shadow or a job, its payload has at most 131,072 bytes
abbrev pub IsShortStep : Step → Type 0
IsShortStep (steps.Shadow op name payload) = length payload ≤ 131072
IsShortStep (steps.Jobs op job payload) = length payload ≤ 131072
IsShortStep _ = Unit {0}

abbrev pub IsShortLine : Line → Type 0
IsShortLine line = IsShortStep line.step

-- its request is valid, whichever task's it is
abbrev pub HasValidStep : Line → Type 0
HasValidStep line = IsValidStep line.step
