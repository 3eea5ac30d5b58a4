-- A task at work on its steps.
use Rattle.std.specs.Prelude.{◌≡◌, ℕ, ◌+◌, ◌-◌, ◌^◌, ◌<◌, ◌≤◌, ◌⊎◌, Bool, true, false, List, [], ◌++◌, map, min, length, Option, None, Some, All}
use Rattle.std.specs.List.{Contains}
use Rattle.std.specs.Option.{option_to_list}
use Rattle.agent_journal.specs.declared.request.Request.{Request}
use Rattle.agent_script.specs.declared.script.Step.{Step}
use Rattle.agent_script.specs.declared.script.Step.TheVariants as steps
use Rattle.agent_script.specs.Asked.{asked_by}
use Rattle.task_gate.specs.Passages.{Passed, let_in}
use Rattle.task_queues.specs.Submissions.{request_of}
use Rattle.task_queues.specs.declared.note.Note.{Note}
use Rattle.task_end.specs.Notes.{messages_in, has_closed}
use Rattle.task_end.specs.Sides.{TaskSide}
use Rattle.share_work.specs.declared.ending.Ending.{Ending}
use Rattle.share_work.specs.declared.ending.Ending.TheVariants as endings
use Rattle.share_work.specs.declared.ending.Going.{Going}
use Rattle.share_work.specs.declared.ending.Going.TheVariants as going
use Rattle.share_work.specs.Steps.{asked_of, listened_in, IsOver, IsHeardOut, IsReady}
use Rattle.share_work.specs.Tickets.{Ticketed, seqs_of, IsSameTask}

-- Its end with its tickets, the step that it is at and those behind, the messages that it took and that no `listen` line gone past
-- asked for, whether it was told that no more come, how its work ended or is to end, and its calls of the gate.
pub record Working : Type 0 where
  pub held : Ticketed
  pub current : Option Step
  pub others : List Step
  pub spare : ℕ
  pub closed : Bool
  pub ending : Ending
  pub passage : Passed

-- the steps that it hasn't gone past
abbrev pub left_of : Working → List Step
left_of w = option_to_list w.current ++ w.others

abbrev pub side_of : Working → TaskSide
side_of w = w.held.tasking.side

-- the notes that it took in
abbrev pub got_by : Working → List Note
got_by w = w.held.tasking.side.getter.got

-- the requests among steps that it is at: one or none
abbrev pub at_gate : Option Step → List Request
at_gate current = asked_of (option_to_list current)

abbrev pub is_all : Ending → Bool
is_all endings.All = true
is_all endings.NoMemory = false
is_all endings.Spent = false

abbrev pub is_spent : Ending → Bool
is_spent endings.All = false
is_spent endings.NoMemory = false
is_spent endings.Spent = true

abbrev pub is_over : Going → Bool
is_over going.Worked = false
is_over going.Waits = false
is_over going.Over = true

-- a count, which stands still at the end of its type
abbrev pub count_to : ℕ → ℕ
count_to n = min n (2 ^ 64 - 1)

abbrev pub number_to : ℕ → ℕ
number_to n = min n (2 ^ 32 - 1)

-- The request that it is at was let in by its number, which is how many were submitted before.
abbrev pub IsLetIn : Option Step → ℕ → ℕ → Type 0
IsLetIn None count last = Unit {0}
IsLetIn (Some step) count last = asked_by step ≡ [] ⊎ (last ≡ number_to count)

-- a task's calls of its gate behind its coming to a step, with so many requests submitted before
abbrev pub at_step : Step → ℕ → Passed → Passed
at_step (steps.Do request) count p = let_in (number_to count) p
at_step _ count p = p

-- The task has gone past a front of these steps, and submitted what that front asks, each request behind what the steps in front
-- of it wait for. Each of its commands is over, or has a ticket.
pub record IsAtWork (all : List Step) (w : Working) : Type 0 where
  pub done : List Step
  pub cut : all ≡ done ++ left_of w
  pub sent : map request_of (side_of w).sender.sent ≡ asked_of done
  pub heard : IsHeardOut (got_by w) 0 0 done
  pub fronts : All (IsReady all (got_by w)) (side_of w).fronts
  pub numbered : length (side_of w).fronts ≡ length (asked_of done)
  pub over : (seq : ℕ) → seq < length (asked_of done) → IsOver (got_by w) seq ⊎ Contains (seqs_of w.held.tickets) seq
  -- what it may still go past `listen` lines by
  pub spared : (w.closed ≡ true) ⊎ (listened_in done + w.spare + length w.held.tasking.kept ≤ length (messages_in (got_by w)))
  pub is_closed : w.closed ≡ true → has_closed (got_by w) ≡ true
  -- the gate was asked once for each request, before the request was submitted
  pub asked : w.passage.asked ≡ count_to (length (asked_of done) + length (at_gate w.current))
  pub let_in : IsLetIn w.current (length (asked_of done)) w.passage.last_asked
  -- and told of each outcome that was collected
  pub collected : ℕ
  pub answered : w.passage.answered ≡ count_to collected
  pub each : collected + length w.held.tickets ≡ length (asked_of done)
  pub spent : is_spent w.ending ≡ true → 4000000000 ≤ length (asked_of done)

-- It goes on with its work, whatever the steps are.
pub record GoesOn (old new : Working) : Type 0 where
  pub keeps : (all : List Step) → IsAtWork all old → IsAtWork all new
  pub task : IsSameTask (side_of old) (side_of new)
  pub gate : new.passage.task ≡ old.passage.task

-- No step is left, but where the work ended before, and no ticket.
pub record IsThrough (w : Working) : Type 0 where
  pub tickets : w.held.tickets ≡ []
  pub steps : is_all w.ending ≡ true → left_of w ≡ []
