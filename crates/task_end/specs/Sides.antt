-- What a task holds of the agent, as contracts see it.
use Rattle.std.specs.Prelude.{◌≡◌, ℕ, ◌+◌, ◌≤◌, ◌<◌, Bool, false, List, [], ◌∷◌, ◌++◌, map, take, length, Option, None, Some, if◌then◌else◌, All}
use Rattle.std.specs.List.{flat_map}
use Rattle.atomic_table.specs.Seated.{TableId}
use Rattle.agent_journal.specs.declared.message.Message.{Message}
use Rattle.agent_journal.specs.declared.outcome.Outcome.{Outcome}
use Rattle.agent_journal.specs.declared.request.Request.{Request}
use Rattle.agent_journal.specs.declared.request.Request.TheVariants as requests
use Rattle.agent_journal.specs.Readings.{is_leave}
use Rattle.command_pool.specs.declared.hand.PoolStep.TheVariants as steps
use Rattle.command_pool.specs.Hands.{times, without}
use Rattle.command_pool.specs.Passes.{Pass}
use Rattle.task_queues.specs.declared.note.Note.{Note}
use Rattle.task_queues.specs.declared.submission.Submission.{Submission}
use Rattle.task_queues.specs.QueuePasses.{Sending}
use Rattle.task_queues.specs.MailboxPasses.{Getting, WasEmpty}
use Rattle.task_queues.specs.Submissions.{request_of, seq_of}
use Rattle.task_queues.specs.Fronts.{front_of, number_in}
use Rattle.task_end.specs.declared.command.Command.{Command}
use Rattle.task_end.specs.declared.ticket.Ticket.{Ticket}
use Rattle.task_end.specs.Notes.{outcomes_in, messages_in, has_closed, seen_by, counted}
use Rattle.task_end.specs.Commands.{IsTakenFrom, Has, numbers_in, waiting, IsOnce, WasTold, NoneIsStray}

-- The passes of a task: what it holds of the pool, what it sent and what it got. The tickets that are out, the oldest first, each
-- as its command's number and its permit's. And of each command its number, how much of the journal the task had seen
-- when it submitted it, and how many notes it had taken in.
pub record TaskSide : Type 0 where
  pub permits : Pass
  pub sender : Sending
  pub getter : Getting
  pub out : List (ℕ × ℕ)
  pub fronts : List (ℕ × ℕ × ℕ)

-- The side of a task that hasn't left, and the messages that it took in and that weren't handed out, each with its time, the
-- oldest first.
pub record Tasking : Type 0 where
  pub side : TaskSide
  pub kept : List (Message × ℕ)

-- behind the getting of these notes
abbrev pub took : List Note → TaskSide → TaskSide
took more s = record s { getter = record s.getter { got = s.getter.got ++ more } }

-- behind a look that found the mailbox empty
abbrev pub found_empty : TaskSide → TaskSide
found_empty s = record s { getter = record s.getter { empties = s.getter.empties + 1 } }

-- the same of one that keeps messages
abbrev pub keeping : List Note → Tasking → Tasking
keeping more t = record { side = took more t.side; kept = t.kept ++ messages_in more }

-- the ticket is out
abbrev pub IsOut : Ticket → TaskSide → Type 0
IsOut t s = (t.permit.pool ≡ s.permits.pool) × Has s.out (t.seq, t.permit.id)

-- The command of a ticket is over: the ticket is out no more, and its number was given back.
pub record IsGivenBack (t : Ticket) (old new : TaskSide) : Type 0 where
  pub tickets : IsTakenFrom (t.seq, t.permit.id) old.out new.out
  pub permits : new.permits ≡ record old.permits { held = without t.permit.id old.permits.held; steps = steps.Given t.permit.id ∷ old.permits.steps }

-- What was sent, and what a task noted of it, are the same.
pub record IsSameSent (old new : TaskSide) : Type 0 where
  pub sender : new.sender ≡ old.sender
  pub fronts : new.fronts ≡ old.fronts

-- the submission of a request behind these, with a mark of what its task had seen
abbrev pub submitted : TableId → TaskSide → Request → Submission
submitted board s request = record {
  task = s.sender.number;
  seq = length s.sender.sent;
  request = request;
  front = Some (record { board = board; number = seen_by s.getter.got });
}

-- the Leave behind these, which has no mark
abbrev pub leave_of : TaskSide → Submission
leave_of s = record { task = s.sender.number; seq = length s.sender.sent; request = requests.Leave; front = None }

abbrev pub sending : TaskSide → Submission → TaskSide
sending s submission = record s { sender = record s.sender { sent = s.sender.sent ++ submission ∷ [] } }

abbrev pub found_full : TaskSide → TaskSide
found_full s = record s { sender = record s.sender { fulls = s.sender.fulls + 1 } }

-- behind tries to send, of which so many found the queue full, while these notes were got and so many looks found the mailbox
-- empty
abbrev pub trying : List Note → ℕ → ℕ → TaskSide → TaskSide
trying more looks fulls s = record s {
  sender = record s.sender { fulls = s.sender.fulls + fulls };
  getter = record s.getter { got = s.getter.got ++ more; empties = s.getter.empties + looks };
}

-- These notes were got, and of looks that found the mailbox empty there are this many more.
abbrev pub IsBehind : List Note → ℕ → TaskSide → TaskSide → Type 0
IsBehind more looks old new = new.getter ≡ record old.getter { got = old.getter.got ++ more; empties = old.getter.empties + looks }

-- the mailbox was empty at a moment at which this was known of it, but for the count of such looks
abbrev pub WasFoundEmpty : TableId → ℕ → Getting → Type 0
WasFoundEmpty board empties g = WasEmpty board (record g { empties = empties })

-- what a task notes of a submission: its number and what its mark says. Of a Leave nothing
abbrev pub noted : ℕ → ℕ → Bool → List (ℕ × ℕ)
noted seq number leave = if leave then [] else (seq, number) ∷ []

abbrev pub front_noted : Submission → List (ℕ × ℕ)
front_noted s = noted (seq_of s) (number_in (front_of s)) (is_leave (request_of s))

abbrev pub fronts_noted : List Submission → List (ℕ × ℕ)
fronts_noted sent = flat_map front_noted sent

abbrev pub front_part : ℕ × ℕ × ℕ → ℕ × ℕ
front_part f = (f.0, f.1)

-- A command had seen as much as each of the notes that its task had taken in says, which are a front of those it got.
pub record IsFrontOf (got : List Note) (front : ℕ × ℕ × ℕ) : Type 0 where
  pub within : front.2 ≤ length got
  pub seen : seen_by (take front.2 got) ≤ front.1

-- a command that was sent is one of the first, this many
abbrev pub IsBelow : ℕ → Submission → Type 0
IsBelow next s = is_leave (request_of s) ≡ false → seq_of s < next

-- What a side keeps stands for what its passes did.
pub record IsKept (s : TaskSide) (front notes messages : ℕ) (closed : Bool) (next : ℕ) (commands : List Command) (log : List (ℕ × Outcome)) : Type 0 where
  pub seen : front ≡ seen_by s.getter.got
  pub notes_counted : notes ≡ counted s.getter.got
  pub messages_counted : messages ≡ counted (messages_in s.getter.got)
  pub is_closed : closed ≡ has_closed s.getter.got
  pub numbered : length s.fronts ≡ next
  pub marked : map front_part s.fronts ≡ fronts_noted s.sender.sent
  pub below : All (IsBelow next) s.sender.sent
  pub behind : All (IsFrontOf s.getter.got) s.fronts
  pub held : (x : ℕ) → times x s.permits.held ≡ times x (numbers_in s.out)
  pub told : All (WasTold s.getter.got) commands
  pub once : NoneIsStray s.sender.sent s.getter.got → IsOnce next (waiting commands) s.getter.got
  pub logged : NoneIsStray s.sender.sent s.getter.got → log ≡ outcomes_in s.getter.got
