-- What is left of an agent and its tasks behind the end, as contracts see it: one journal, and what of it came to each task.
use Rattle.std.specs.Prelude.{◌≡◌, ℕ, ◌+◌, ◌-◌, ◌^◌, ◌<◌, ◌≤◌, false, List, [], ◌∷◌, ◌++◌, length, map, min, take, reverse, All}
use Rattle.atomic_table.specs.Seated.{TableId}
use Rattle.agent_journal.specs.declared.request.Request.{Request}
use Rattle.agent_journal.specs.declared.entry.Cause.TheVariants as c
use Rattle.agent_journal.specs.declared.entry.Entry.{Entry}
use Rattle.agent_journal.specs.Readings.{is_leave}
use Rattle.agent_journal.specs.Projections.{requests_of, commands_of, completed_of, messages_of}
use Rattle.agent_journal.specs.Notes.{notes_of, dones_of}
use Rattle.task_queues.specs.declared.note.Note.{Note}
use Rattle.task_queues.specs.declared.submission.Submission.{Submission}
use Rattle.task_queues.specs.MailboxPasses.{Putting}
use Rattle.task_end.specs.declared.log.TaskLog.{TaskLog}
use Rattle.task_end.specs.Notes.{outcomes_in, messages_in, counted}
use Rattle.task_end.specs.Commands.{NoneIsStray}
use Rattle.task_end.specs.Sides.{TaskSide, IsFrontOf, front_part, fronts_noted}
use Rattle.task_queues.specs.Submissions.{of_task, request_of}
use Rattle.agent_posts.specs.Waiting.{Placed, told_in}
use Rattle.agent_posts.specs.Mail.{said}
use Rattle.agent_requests.specs.Takes.{AreTakes}

-- What a task got, and its log.
pub record Ended : Type 0 where
  pub got : List Note
  pub log : TaskLog

-- The journal's entries, newest first; what was taken from the queue; and what each task got, by number.
pub record Gathered : Type 0 where
  pub past : List Entry
  pub taken : List Submission
  pub tasks : List Ended

-- ---- What the journal says of a task

-- Its requests are those of task t that were taken from the queue; what it tells the task is what the task got, in order; and
-- the task's log is of these.
pub record IsToldOf (t : ℕ) (past : List Entry) (taken : List Submission) (e : Ended) : Type 0 where
  pub requests : map request_of (of_task t taken) ≡ requests_of t past
  pub notes : map said e.got ≡ notes_of t past
  pub task : e.log.task ≡ t
  pub sent : e.log.sent ≡ commands_of t past
  pub got : e.log.got ≡ completed_of t past
  pub outcomes : e.log.outcomes ≡ dones_of t past
  -- a count, which stands still at the end of its type
  pub messages : e.log.messages ≡ min (messages_of t past) (2 ^ 64 - 1)

-- so of the tasks from t on
abbrev pub AreToldOf : ℕ → List Entry → List Submission → List Ended → Type 0
AreToldOf t past taken [] = Unit {0}
AreToldOf t past taken (e ∷ tasks) = IsToldOf t past taken e × AreToldOf (t + 1) past taken tasks

-- What was taken from the queue are the journal's Takes, in order, and each task was told what the journal says.
pub record IsGathered (g : Gathered) : Type 0 where
  pub takes : AreTakes g.taken g.past
  pub told : AreToldOf 0 g.past g.taken g.tasks

-- ---- What a command's task had seen

-- Command seq of task t was taken as the entry of this number, from 0.
pub record IsTakenAt (t seq place : ℕ) (past : List Entry) : Type 0 where
  pub later : List Entry
  pub entry : Entry
  pub before : List Entry
  pub request : Request
  pub stands : past ≡ later ++ entry ∷ before
  pub numbered : length before ≡ place
  pub takes : entry.cause ≡ c.Take t seq request
  pub commands : is_leave request ≡ false

-- It was taken behind all entries that its task had seen when it submitted it, and the task had seen the entries of all
-- notes that it had been told by then. `front` has the command's number, how many entries were seen, and how many notes
-- told.
pub record IsBehind (t : ℕ) (past : List Entry) (front : ℕ × ℕ × ℕ) : Type 0 where
  pub place : ℕ
  pub taken : IsTakenAt t front.0 place past
  pub behind : front.1 ≤ place
  pub seen : All (λ (p : Placed). p.entry < front.1) (take front.2 (told_in t 0 (reverse past)))

-- so of each command of the tasks from t on
abbrev pub AreBehind : ℕ → List Entry → List Ended → Type 0
AreBehind t past [] = Unit {0}
AreBehind t past (e ∷ tasks) = All (IsBehind t past) e.log.fronts × AreBehind (t + 1) past tasks

-- ---- Ends that were gathered

-- the end of task t, at the queue of this name and the mailbox of this pass
pub record IsEndOf (queue : TableId) (t : ℕ) (p : Putting) (s : TaskSide) : Type 0 where
  pub queue_is : s.sender.queue ≡ queue
  pub task : s.sender.number ≡ t
  pub mailbox : s.getter.mailbox ≡ p.mailbox

-- the ends of all tasks from t on, by number
abbrev pub AreEndsOf : TableId → ℕ → List Putting → List TaskSide → Type 0
AreEndsOf queue t [] [] = Unit {0}
AreEndsOf queue t [] (s ∷ ends) = ⊥
AreEndsOf queue t (p ∷ putters) [] = ⊥
AreEndsOf queue t (p ∷ putters) (s ∷ ends) = IsEndOf queue t p s × AreEndsOf queue (t + 1) putters ends

-- Such an end was drained of what was put for it, and left its log.
pub record IsDrained (p : Putting) (s : TaskSide) (e : Ended) : Type 0 where
  pub all : e.got ≡ p.put
  pub more : List Note
  pub got : e.got ≡ s.getter.got ++ more
  pub task : e.log.task ≡ s.sender.number
  pub sent : e.log.sent ≡ length (fronts_noted s.sender.sent)
  pub completed : e.log.got ≡ length e.log.outcomes
  pub messages : e.log.messages ≡ counted (messages_in e.got)
  pub outcomes : NoneIsStray s.sender.sent e.got → e.log.outcomes ≡ outcomes_in e.got
  pub fronts : e.log.fronts ≡ s.fronts
  pub marked : map front_part s.fronts ≡ fronts_noted s.sender.sent
  pub behind : All (IsFrontOf e.got) s.fronts

abbrev pub AreDrained : List Putting → List TaskSide → List Ended → Type 0
AreDrained [] [] [] = Unit {0}
AreDrained (p ∷ putters) (s ∷ ends) (e ∷ tasks) = IsDrained p s e × AreDrained putters ends tasks
AreDrained _ _ _ = ⊥

-- the senders that were joined, the latest first, behind those of these ends
abbrev pub joined_with : List TaskSide → List (ℕ × List Submission) → List (ℕ × List Submission)
joined_with [] joined = joined
joined_with (s ∷ ends) joined = joined_with ends ((s.sender.number, s.sender.sent) ∷ joined)

-- What became of a task's end: all that it sent was taken, it got what it hadn't got, and its log has what it noted of its
-- commands.
pub record BecameOf (past : List Entry) (s : TaskSide) (e : Ended) : Type 0 where
  pub sent : map request_of s.sender.sent ≡ requests_of s.sender.number past
  pub more : List Note
  pub got : e.got ≡ s.getter.got ++ more
  pub fronts : e.log.fronts ≡ s.fronts

abbrev pub BecameAll : List Entry → List TaskSide → List Ended → Type 0
BecameAll past [] [] = Unit {0}
BecameAll past [] (e ∷ tasks) = ⊥
BecameAll past (s ∷ ends) [] = ⊥
BecameAll past (s ∷ ends) (e ∷ tasks) = BecameOf past s e × BecameAll past ends tasks
