-- What a script's line asks of its task.
use Rattle.std.specs.Prelude.{ℕ, ◌+◌, ◌-◌, Bool, ◌&&◌, nat_le, nat_lt, List, [], ◌∷◌, length, Option, Some, None, if◌then◌else◌, codes}
use Rattle.std.specs.Str.{bytes_eq, is_utf8}
use Rattle.plain_text.specs.Words.{word_at, last_at}
use Rattle.plain_text.specs.Payloads.{payload_of}
use Rattle.plain_text.specs.Reading.{◌>>=◌}
use Rattle.agent_journal.specs.declared.request.Request.{Request}
use Rattle.agent_journal.specs.declared.request.Request.TheVariants as requests
use Rattle.agent_script.specs.declared.script.Line.{Line}
use Rattle.agent_script.specs.declared.script.Step.{Step}
use Rattle.agent_script.specs.declared.script.Step.TheVariants as steps
use Rattle.plain_text.specs.Numbers.{number_in}
use Rattle.agent_script.specs.Requests.{publish_of, subscribe_of, unsubscribe_of}

abbrev pub does : Option Request → Option Step
does request = request >>= λ r. Some (steps.Do r)

-- a payload of at most 131,072 bytes
abbrev pub short_payload : List ℕ → Option (List ℕ)
short_payload word = payload_of word >>= λ payload. if nat_le (length payload) 131072 then Some payload else None

-- A name of a shadow or a job is any word of UTF-8 that isn't empty. Whether it is of its class is judged later.
abbrev pub is_name : List ℕ → Bool
is_name word = nat_lt 0 (length word) && is_utf8 word

abbrev pub named : List ℕ → Option (List ℕ)
named word = if is_name word then Some word else None

-- `-` is the unnamed shadow
abbrev pub shadow_name : List ℕ → Option (Option (List ℕ))
shadow_name word = if bytes_eq word (codes "-") then Some None else named word >>= λ name. Some (Some name)

abbrev pub shadow_op : List ℕ → Option (List ℕ)
shadow_op word =
    if bytes_eq word (codes "get") then Some (codes "get")
    else if bytes_eq word (codes "update") then Some (codes "update")
    else if bytes_eq word (codes "delete") then Some (codes "delete")
    else None

-- `shadow` OP NAME PAYLOAD
unfoldable pub shadow_of : List ℕ → Option Step
shadow_of line = do
  op ← word_at line
  kind ← shadow_op op.0
  name ← word_at op.1
  shadow ← shadow_name name.0
  word ← last_at name.1
  payload ← short_payload word
  Some (steps.Shadow kind shadow payload)

-- an operation on all jobs
unfoldable pub all_jobs_of : List ℕ → List ℕ → Option Step
all_jobs_of op line = do
  word ← last_at line
  payload ← short_payload word
  Some (steps.Jobs op None payload)

-- an operation on one job
unfoldable pub one_job_of : List ℕ → List ℕ → Option Step
one_job_of op line = do
  name ← word_at line
  job ← named name.0
  word ← last_at name.1
  payload ← short_payload word
  Some (steps.Jobs op (Some job) payload)

unfoldable pub job_step : List ℕ → List ℕ → Option Step
job_step op line =
    if bytes_eq op (codes "start-next") then all_jobs_of (codes "start-next") line
    else if bytes_eq op (codes "get") then all_jobs_of (codes "get") line
    else if bytes_eq op (codes "describe") then one_job_of (codes "describe") line
    else if bytes_eq op (codes "update") then one_job_of (codes "update") line
    else None

-- `jobs start-next` PAYLOAD, `jobs get` PAYLOAD, `jobs describe` J PAYLOAD, `jobs update` J PAYLOAD
unfoldable pub jobs_of : List ℕ → Option Step
jobs_of line = do
  op ← word_at line
  job_step op.0 op.1

-- `listen` N, 1 to 1,000,000
unfoldable pub listen_of : List ℕ → Option Step
listen_of line = do
  word ← last_at line
  count ← number_in 1 1000000 word
  Some (steps.Listen count)

-- a line of one word
unfoldable pub word_of : List ℕ → Option Step
word_of word =
    if bytes_eq word (codes "ping") then Some (steps.Do requests.Ping)
    else if bytes_eq word (codes "disconnect") then Some (steps.Do requests.Disconnect)
    else if bytes_eq word (codes "terminate") then Some (steps.Do requests.Terminate)
    else if bytes_eq word (codes "wait") then Some steps.Wait
    else None

-- a line of a first word and others
unfoldable pub words_of : List ℕ → List ℕ → Option Step
words_of verb line =
    if bytes_eq verb (codes "publish") then does (publish_of line)
    else if bytes_eq verb (codes "subscribe") then does (subscribe_of line)
    else if bytes_eq verb (codes "unsubscribe") then does (unsubscribe_of line)
    else if bytes_eq verb (codes "listen") then listen_of line
    else if bytes_eq verb (codes "shadow") then shadow_of line
    else if bytes_eq verb (codes "jobs") then jobs_of line
    else None

abbrev pub by_words : Option (List ℕ) → Option (List ℕ × List ℕ) → Option Step
by_words (Some word) next = word_of word
by_words None None = None
by_words None (Some next) = words_of next.0 next.1

-- what stands behind the task's number
unfoldable pub step_of : List ℕ → Option Step
step_of line = by_words (last_at line) (word_at line)

-- one digit below `tasks`, as it is written
abbrev pub task_of : ℕ → List ℕ → Option ℕ
task_of tasks [] = None
task_of tasks (b ∷ []) = if nat_le 48 b && nat_lt b (48 + tasks) then Some (b - 48) else None
task_of tasks (b ∷ c ∷ word) = None

abbrev pub line_with : ℕ → ℕ → Step → Line
line_with number task step = record { number = number; task = task; step = step }

-- a line of a script of so many tasks: T and a step
unfoldable pub line_of : ℕ → ℕ → List ℕ → Option Line
line_of tasks number line = do
  word ← word_at line
  task ← task_of tasks word.0
  step ← step_of word.1
  Some (line_with number task step)
