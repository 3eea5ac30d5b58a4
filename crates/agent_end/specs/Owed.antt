-- What an agent owes its tasks: one Done of each command that it took from the queue, and one Closed of each task that hasn't left.
use Rattle.std.specs.Prelude.{◌≡◌, ◌⊎◌, ℕ, ◌+◌, ◌<◌, ◌≤◌, ◌==◌, ◌&&◌, not, Bool, true, false, List, [], ◌∷◌, ◌++◌, length, Option, None, Some, slice_get, slice_set, if◌then◌else◌}
use Rattle.std.specs.List.{count_by, list_any}
use Rattle.agent_journal.specs.Readings.{is_leave}
use Rattle.task_queues.specs.declared.submission.Submission.{Submission}
use Rattle.task_queues.specs.Submissions.{task_of, seq_of, request_of}
use Rattle.task_queues.specs.declared.note.Note.{Note}
use Rattle.task_queues.specs.declared.note.Note.TheVariants as notes
use Rattle.task_queues.specs.MailboxPasses.{Putting}
use Rattle.task_queues.specs.QueuePasses.{Receiving}
use Rattle.agent_posts.specs.declared.kind.Kind.{Kind}
use Rattle.agent_posts.specs.declared.kind.Kind.TheVariants as kinds
use Rattle.agent_posts.specs.Mail.{held_for}
use Rattle.agent_requests.specs.declared.answers.Popped.{Popped}
use Rattle.agent_end.specs.Serving.{Serving}

-- ---- What was taken from the queue

-- whether a submission is command `seq` of task t; a Leave is no command
abbrev pub is_command : ℕ → ℕ → Submission → Bool
is_command t seq one = not (is_leave (request_of one)) && ((task_of one == t) && (seq_of one == seq))

-- How often it was taken. By the law of queues a task's submissions have the numbers 0, 1 and so on: so that is once, or not yet.
abbrev pub commands_in : ℕ → ℕ → List Submission → ℕ
commands_in t seq taken = count_by (is_command t seq) taken

abbrev pub leaves : ℕ → Submission → Bool
leaves t one = is_leave (request_of one) && (task_of one == t)

-- whether the Leave of task t was taken
abbrev pub left_in : ℕ → List Submission → Bool
left_in t taken = list_any (leaves t) taken

-- ---- What was put for a task

-- whether a note is the Done of its command `seq`
abbrev pub completes : ℕ → Note → Bool
completes seq (notes.Done number outcome at front) = number == seq
completes seq (notes.Message message at front) = false
completes seq (notes.Closed at front) = false

abbrev pub dones_in : ℕ → List Note → ℕ
dones_in seq put = count_by (completes seq) put

abbrev pub closes : Note → Bool
closes (notes.Done seq outcome at front) = false
closes (notes.Message message at front) = false
closes (notes.Closed at front) = true

-- whether its Closed was put
abbrev pub closed_in : List Note → Bool
closed_in put = list_any closes put

-- ---- At any moment

-- Of no command more Dones were put than it was taken: so none is told twice, and none that wasn't taken.
abbrev pub NoneIsToldTwice : Serving → Type 0
NoneIsToldTwice a = (t : ℕ) (p : Putting) → slice_get a.mail.putters t ≡ Some p → (seq : ℕ) → dones_in seq p.put ≤ commands_in t seq a.taking.receiver.taken

-- ---- What the agent keeps of it

abbrev pub is_owed : ℕ → ℕ → Popped → Bool
is_owed t seq command = (command.task == t) && (command.seq == seq)

abbrev pub owed_in : ℕ → ℕ → List Popped → ℕ
owed_in t seq commands = count_by (is_owed t seq) commands

-- one of two flags is there and says true
abbrev pub IsOneTrue : Option Bool → Option Bool → Type 0
IsOneTrue one other = (one ≡ Some true) ⊎ (other ≡ Some true)

-- Where memory ran out, the command of the note that is held is owed no other.
abbrev pub held_in : Serving → Option (ℕ × Note)
held_in a = if a.short then a.mail.next else None

-- These commands are the ones that are owed a Done; and by task, whether Closed was put, and whether it has left.
pub record Owes (commands : List Popped) (closed left : List Bool) (receiver : Receiving) (putters : List Putting) (held : Option (ℕ × Note)) : Type 0 where
  pub few : length putters ≤ 8
  pub senders : receiver.senders ≡ length putters
  pub known : (t seq : ℕ) → 0 < owed_in t seq commands → t < length putters
  pub dones : (t : ℕ) (p : Putting) → slice_get putters t ≡ Some p → (seq : ℕ) → owed_in t seq commands + dones_in seq (p.put ++ held_for t held) ≡ commands_in t seq receiver.taken
  pub closings : (t : ℕ) (p : Putting) → slice_get putters t ≡ Some p → slice_get closed t ≡ Some (closed_in p.put)
  pub leavings : (t : ℕ) → t < length putters → slice_get left t ≡ Some (left_in t receiver.taken)

-- ---- How that changes

-- behind a request that was taken, if one was
abbrev pub commands_with : List Popped → Option Popped → List Popped
commands_with commands None = commands
commands_with commands (Some p) = if p.leaves then commands else commands ++ p ∷ []

abbrev pub left_with : List Bool → Option Popped → List Bool
left_with left None = left
left_with left (Some p) = if p.leaves then slice_set left p.task true else left

-- behind a note of this kind that was put for a task
abbrev pub done_by : ℕ → ℕ → ℕ → Kind → ℕ
done_by t seq task (kinds.Done number) = if (task == t) && (number == seq) then 1 else 0
done_by t seq task kinds.Message = 0
done_by t seq task kinds.Closed = 0

abbrev pub closed_with : List Bool → ℕ → Kind → List Bool
closed_with closed task (kinds.Done number) = closed
closed_with closed task kinds.Message = closed
closed_with closed task kinds.Closed = slice_set closed task true
