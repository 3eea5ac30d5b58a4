-- An agent that takes its tasks' requests, as contracts see it.
use Rattle.std.specs.Prelude.{◌≡◌, ◌⊎◌, ℕ, ◌+◌, ◌<◌, List, [], ◌∷◌, ◌++◌, length, Bool, true, false, Option, None, Some}
use Rattle.mqtt_packet.specs.Splitting.{Kept as Stream}
use Rattle.agent_journal.specs.declared.setup.Phase.{Phase}
use Rattle.agent_journal.specs.declared.setup.Phase.TheVariants.{Down, Opening, Up, Spilled, Off}
use Rattle.atomic_table.specs.Seated.{TableId}
use Rattle.task_queues.specs.declared.submission.Submission.{Submission}
use Rattle.task_queues.specs.Submissions.{task_of, seq_of, request_of}
use Rattle.task_queues.specs.QueuePasses.{Receiving, WasEmpty}
use Rattle.agent_journal.specs.declared.entry.Entry.{Entry}
use Rattle.agent_journal.specs.Readings.{is_leave, has_left}
use Rattle.agent_journal.specs.Wires.{AreReadings}
use Rattle.agent_link.specs.Counts.{raised}
use Rattle.agent_line.specs.Recorded.{Recorded, phase_in, due_in, MayMake, Grows}
use Rattle.agent_line.specs.Told.{Told, GaveMore, KeepsTies}
use Rattle.agent_requests.specs.declared.answers.Popped.{Popped}
use Rattle.agent_requests.specs.declared.answers.Short.{Short}
use Rattle.agent_requests.specs.declared.answers.Served.{Served}
use Rattle.agent_requests.specs.declared.answers.Served.TheVariants as s
use Rattle.agent_requests.specs.Takes.{AreTakes, take_of}

-- Its journal; the stream of the present connection, and how often in a row nothing was heard; and what it took from the queue.
pub record Taking : Type 0 where
  pub recorded : Recorded
  pub stream : Stream
  pub idle : ℕ
  pub receiver : Receiving

-- What was tied to the link since any moment still is.
abbrev pub StaysTied : Taking → Told → Taking → Told → Type 0
StaysTied old before new now = KeepsTies old.recorded old.stream old.idle before new.recorded new.stream new.idle now

-- What was taken from the queue are the journal's Takes, and the agent's tasks are the queue's senders.
pub record IsServed (t : Taking) : Type 0 where
  pub takes : AreTakes t.receiver.taken t.recorded.past
  pub tasks : t.receiver.senders ≡ t.recorded.setup.tasks

-- the phases in which requests are taken
abbrev pub takes_now : Phase → Bool
takes_now Down = false
takes_now Opening = false
takes_now Up = true
takes_now Spilled = false
takes_now Off = true

-- ---- What a step does

-- It is the same end of the same queue.
pub record IsSameEnd (old new : Receiving) : Type 0 where
  pub queue : new.queue ≡ old.queue
  pub senders : new.senders ≡ old.senders
  pub joined : new.joined ≡ old.joined

-- of the queue, one submission at most was taken
abbrev pub TakesOneAtMost : Receiving → Receiving → Type 0
TakesOneAtMost old new = (new.taken ≡ old.taken) ⊎ ((one : Submission) × (new.taken ≡ old.taken ++ one ∷ []))

abbrev pub popped_of : Submission → Popped
popped_of one = record { task = task_of one; seq = seq_of one; leaves = is_leave (request_of one) }

-- This request was taken from the queue, of one of its senders; or none was.
abbrev pub Pops : Option Popped → Receiving → Receiving → Type 0
Pops None old new = new.taken ≡ old.taken
Pops (Some p) old new = (one : Submission) × (p ≡ popped_of one) × (task_of one < old.senders) × (new ≡ record old { taken = old.taken ++ one ∷ [] })

-- Entries of this time were added: what a step does, also one that finds no memory.
pub record Works (at : ℕ) (old new : Taking) : Type 0 where
  pub setup : new.recorded.setup ≡ old.recorded.setup
  pub sizes : new.recorded.sizes ≡ old.recorded.sizes
  pub more : List Entry
  pub past : new.recorded.past ≡ more ++ old.recorded.past
  pub times : AreReadings (at ∷ []) more
  pub taken : TakesOneAtMost old.receiver new.receiver
  pub same_end : IsSameEnd old.receiver new.receiver

-- An entry was added, or bytes came.
abbrev pub WasBusy : Taking → Told → Taking → Told → Type 0
WasBusy old before new now = (length old.recorded.past < length new.recorded.past) ⊎ GaveMore before.given now.given

-- the queue was empty at a step
pub record FoundEmpty (board : TableId) (old new : Receiving) : Type 0 where
  pub empty : WasEmpty board old
  pub counted : new ≡ record old { empties = old.empties + 1 }

-- There was nothing to do: nothing is due, nothing was heard or the session has ended, and where requests are taken there was none.
pub record WasIdle (board : TableId) (at : ℕ) (old : Taking) (before : Told) (new : Taking) (now : Told) : Type 0 where
  pub same : new.recorded ≡ old.recorded
  pub none_due : due_in old.recorded at ≡ None
  pub quiet : (phase_in old.recorded ≡ Off) ⊎ (now.counts.nothings ≡ raised before.counts.nothings)
  pub none_taken : takes_now (phase_in old.recorded) ≡ true → FoundEmpty board old.receiver new.receiver

-- The session has ended, and each task has left.
pub record HasLeft (r : Recorded) : Type 0 where
  pub off : phase_in r ≡ Off
  pub left : (t : ℕ) → t < r.setup.tasks → has_left t r.past ≡ true

-- There will be nothing to do any more.
pub record HasEnded (at : ℕ) (old : Taking) (before : Told) (new : Taking) (now : Told) : Type 0 where
  pub none_due : due_in old.recorded at ≡ None
  pub left : HasLeft old.recorded
  pub same : new.recorded ≡ old.recorded
  pub none_taken : new.receiver ≡ old.receiver
  pub unheard : now ≡ before

-- ---- Where memory ran out

-- A submission was taken from the queue, and its entry may be missing.
pub record LosesTake (at : ℕ) (old new : Taking) (p : Popped) : Type 0 where
  pub submission : Submission
  pub is : p ≡ popped_of submission
  pub sender : task_of submission < old.receiver.senders
  pub taken : new.receiver ≡ record old.receiver { taken = old.receiver.taken ++ submission ∷ [] }
  pub made : MayMake old.recorded at (take_of submission) new.recorded

-- Entries were added that take no request; and behind them a request may have been taken from the queue.
abbrev pub AddsBefore : ℕ → Taking → Taking → Option Popped → Type 0
AddsBefore at old new None = Grows at old.recorded new.recorded × (new.receiver ≡ old.receiver)
AddsBefore at old new (Some p) = (mid : Taking) × Grows at old.recorded mid.recorded × (mid.receiver ≡ old.receiver) × LosesTake at mid new p

abbrev pub FallsShort : ℕ → Taking → Taking → Short → Type 0
FallsShort at old new e = AddsBefore at old new e.popped

-- ---- What a step that found memory did, by its answer

-- the request that it took
abbrev pub popped_by : Served → Option Popped
popped_by (s.Worked popped) = popped
popped_by s.Idle = None
popped_by s.Ended = None

abbrev pub Answers : TableId → ℕ → Taking → Told → Taking → Told → Served → Type 0
Answers board at old before new now (s.Worked popped) = WasBusy old before new now
Answers board at old before new now s.Idle = WasIdle board at old before new now
Answers board at old before new now s.Ended = HasEnded at old before new now
