-- What the steps of a task ask for, and what has to have come in front of each request.
use Rattle.std.specs.Prelude.{◌≡◌, ℕ, ◌+◌, ◌<◌, ◌≤◌, ◌⊎◌, ◌==◌, true, List, [], ◌∷◌, ◌++◌, map, length}
use Rattle.std.specs.List.{flat_map, filter, sum_by, Contains}
use Rattle.agent_journal.specs.declared.request.Request.{Request}
use Rattle.agent_script.specs.declared.script.Line.{Line}
use Rattle.agent_script.specs.declared.script.Step.{Step}
use Rattle.agent_script.specs.declared.script.Step.TheVariants as steps
use Rattle.agent_script.specs.Asked.{asked_by}
use Rattle.task_queues.specs.declared.note.Note.{Note}
use Rattle.task_end.specs.Notes.{messages_in, completed_in, has_closed, seen_by, counted}

-- the steps of task t
abbrev pub steps_of : ℕ → List Line → List Step
steps_of t lines = map (λ line. line.step) (filter (λ line. line.task == t) lines)

-- what they ask of the agent
abbrev pub asked_of : List Step → List Request
asked_of all = flat_map asked_by all

abbrev pub listened_by : Step → ℕ
listened_by (steps.Listen count) = count
listened_by _ = 0

-- how many messages their `listen` lines ask for together
abbrev pub listened_in : List Step → ℕ
listened_in all = sum_by listened_by all

-- ---- Lines that wait

-- the command of this number was completed
abbrev pub IsOver : List Note → ℕ → Type 0
IsOver got seq = Contains (completed_in got) seq

-- the first commands, this many, were completed
abbrev pub AreOver : List Note → ℕ → Type 0
AreOver got count = (seq : ℕ) → seq < count → IsOver got seq

-- so many messages came, or no more will
abbrev pub HasHeard : List Note → ℕ → Type 0
HasHeard got count = (count ≤ length (messages_in got)) ⊎ (has_closed got ≡ true)

-- What a step waits for has come, where so many requests stand in front of it, and `listen` lines that ask for so many messages. A
-- `wait` asks for the completion of each command in front of it. A `listen` asks for as many messages as all `listen` lines up
-- to and with it ask for together.
abbrev pub HasCome : List Note → ℕ → ℕ → Step → Type 0
HasCome got count listened steps.Wait = AreOver got count
HasCome got count listened (steps.Listen more) = HasHeard got (listened + more)
HasCome got count listened _ = Unit {0}

-- The same of each of these steps.
abbrev pub IsHeardOut : List Note → ℕ → ℕ → List Step → Type 0
IsHeardOut got count listened [] = Unit {0}
IsHeardOut got count listened (step ∷ others) = HasCome got count listened step
    × IsHeardOut got (count + length (asked_by step)) (listened + listened_by step) others

-- ---- Requests

-- What a log's front says of its request, which is of these steps: what the task had taken in when it submitted the request, with all that
-- the steps in front of it wait for.
pub record IsReady (all : List Step) (got : List Note) (front : ℕ × ℕ × ℕ) : Type 0 where
  -- the steps in front of the request and behind it
  pub before : List Step
  pub request : Request
  pub behind : List Step
  pub stands : all ≡ before ++ steps.Do request ∷ behind
  pub number : front.0 ≡ length (asked_of before)
  -- the notes that were taken in before it was submitted, and later
  pub seen : List Note
  pub later : List Note
  pub told : got ≡ seen ++ later
  pub marked : front.1 ≡ seen_by seen
  pub noted : front.2 ≡ counted seen
  pub heard : IsHeardOut seen 0 0 before
