-- A script's lines on shadows and jobs, as publishes on the topics of a thing.
use Rattle.std.specs.Prelude.{ℕ, List, [], ◌∷◌, Option, Some, None, Result, Ok, Err, if◌then◌else◌, codes}
use Rattle.std.specs.Str.{bytes_eq}
use Rattle.mqtt_packet.specs.declared.qos.Qos.TheVariants.{AtLeastOnce}
use Rattle.plain_text.specs.Reading.{◌>>=◌}
use Rattle.agent_journal.specs.declared.request.Request.TheVariants as requests
use Rattle.agent_script.specs.declared.script.Line.{Line}
use Rattle.agent_script.specs.declared.script.Script.{Script}
use Rattle.agent_script.specs.declared.script.Step.{Step}
use Rattle.agent_script.specs.declared.script.Step.TheVariants as steps
use Rattle.thing_topics.specs.declared.faults.NameFault.{NameFault}
use Rattle.thing_topics.specs.declared.shadows.ShadowKind.{ShadowKind}
use Rattle.thing_topics.specs.declared.shadows.ShadowKind.TheVariants as shadow_kinds
use Rattle.thing_topics.specs.declared.jobs.JobsKind.{JobsKind}
use Rattle.thing_topics.specs.declared.jobs.JobsKind.TheVariants as jobs_kinds
use Rattle.thing_topics.specs.Shadows as shadows
use Rattle.thing_topics.specs.Jobs as jobs

-- ---- Topics

-- what an operation on a shadow is published on
abbrev pub shadow_kind : List ℕ → Option ShadowKind
shadow_kind op =
    if bytes_eq op (codes "get") then Some shadow_kinds.Get
    else if bytes_eq op (codes "update") then Some shadow_kinds.Update
    else if bytes_eq op (codes "delete") then Some shadow_kinds.Delete
    else None

-- what an operation on jobs is published on
abbrev pub jobs_kind : List ℕ → Option JobsKind
jobs_kind op =
    if bytes_eq op (codes "start-next") then Some jobs_kinds.StartNext
    else if bytes_eq op (codes "get") then Some jobs_kinds.Pending
    else if bytes_eq op (codes "describe") then Some jobs_kinds.Describe
    else if bytes_eq op (codes "update") then Some jobs_kinds.Update
    else None

-- the topic, where no part of it is at fault
abbrev pub topic_or_none : Option NameFault → List ℕ → Option (List ℕ)
topic_or_none None topic = Some topic
topic_or_none (Some fault) topic = None

abbrev pub shadow_topic : List ℕ → Option (List ℕ) → ShadowKind → Option (List ℕ)
shadow_topic thing name kind = topic_or_none (shadows.fault_of thing name) (shadows.topic_text (shadows.parts_of thing name kind))

abbrev pub jobs_topic : List ℕ → Option (List ℕ) → JobsKind → Option (List ℕ)
jobs_topic thing job kind = topic_or_none (jobs.fault_of thing job kind) (jobs.topic_text (jobs.parts_of thing job kind))

-- ---- Lines

-- a publish at QoS 1
abbrev pub publish : List ℕ → List ℕ → Step
publish topic payload = steps.Do (requests.Publish AtLeastOnce topic payload)

unfoldable pub shadow_step : Option (List ℕ) → List ℕ → Option (List ℕ) → List ℕ → Option Step
shadow_step thing op name payload = do
  owner ← thing
  kind ← shadow_kind op
  topic ← shadow_topic owner name kind
  Some (publish topic payload)

unfoldable pub jobs_step : Option (List ℕ) → List ℕ → Option (List ℕ) → List ℕ → Option Step
jobs_step thing op job payload = do
  owner ← thing
  kind ← jobs_kind op
  topic ← jobs_topic owner job kind
  Some (publish topic payload)

-- what a step is where there is this thing, or none where it has no topic
abbrev pub step_with : Option (List ℕ) → Step → Option Step
step_with thing (steps.Do request) = Some (steps.Do request)
step_with thing (steps.Shadow op name payload) = shadow_step thing op name payload
step_with thing (steps.Jobs op job payload) = jobs_step thing op job payload
step_with thing steps.Wait = Some steps.Wait
step_with thing (steps.Listen count) = Some (steps.Listen count)

abbrev pub line_with : Line → Step → Line
line_with line step = record { number = line.number; task = line.task; step = step }

abbrev pub or_number : Line → Option Step → Result Line ℕ
or_number line None = Err line.number
or_number line (Some step) = Ok (line_with line step)

-- the line with its request, or its number where it has no topic
abbrev pub request_line : Option (List ℕ) → Line → Result Line ℕ
request_line thing line = or_number line (step_with thing line.step)

abbrev pub onto_lines : Line → Result (List Line) ℕ → Result (List Line) ℕ
onto_lines line (Ok lines) = Ok (line ∷ lines)
onto_lines line (Err number) = Err number

abbrev pub onto : Result Line ℕ → Result (List Line) ℕ → Result (List Line) ℕ
onto (Err number) others = Err number
onto (Ok line) others = onto_lines line others

-- the lines with all their requests, or the number of the first that has no topic
unfoldable pub lines_with : Option (List ℕ) → List Line → Result (List Line) ℕ
lines_with thing [] = Ok []
lines_with thing (line ∷ lines) = onto (request_line thing line) (lines_with thing lines)

abbrev pub of_tasks : ℕ → Result (List Line) ℕ → Result Script ℕ
of_tasks tasks (Ok lines) = Ok (record { tasks = tasks; lines = lines })
of_tasks tasks (Err number) = Err number

-- the script with all its requests, or the number of its first line that has no topic
unfoldable pub script_with : Option (List ℕ) → Script → Result Script ℕ
script_with thing script = of_tasks script.tasks (lines_with thing script.lines)
