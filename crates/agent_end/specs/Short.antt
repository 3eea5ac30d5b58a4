-- Turns of an agent whose memory ran out. It works by the mailboxes alone: what its journal tells and wasn't put is given up, and each
-- command that is owed a Done fails.
use Rattle.std.specs.Prelude.{◌≡◌, ◌⊎◌, ℕ, ◌<◌, ◌||◌, true, false, Option, None, Some, Result, Ok, Err, length, slice_get, if◌then◌else◌}
use Rattle.atomic_table.specs.Seated.{TableId}
use Rattle.agent_journal.specs.Readings.{last_time_of}
use Rattle.task_queues.specs.declared.note.Note.{Note}
use Rattle.task_queues.specs.MailboxPasses.{Putting, WasFull}
use Rattle.agent_posts.specs.Kinds as kinds
use Rattle.agent_posts.specs.Mail.{PutsOne, FindsFull}
use Rattle.agent_requests.specs.declared.answers.Popped.{Popped}
use Rattle.agent_requests.specs.Intake.{Pops, FoundEmpty}
use Rattle.agent_end.specs.Serving.{Serving}
use Rattle.agent_end.specs.Owed.{commands_in, left_in, dones_in, closed_in}
use Rattle.agent_end.specs.declared.turn.Turn.{Turn}
use Rattle.agent_end.specs.declared.turn.Turn.TheVariants as turns

-- the time of the journal's last entry, which notes have that no entry tells
abbrev pub time_of : Serving → ℕ
time_of a = last_time_of a.taking.recorded.past

-- ---- What is put next

-- that a command failed which was taken, and of which no Done was put
pub record Fails (a : Serving) (t : ℕ) (note : Note) : Type 0 where
  pub seq : ℕ
  pub is : note ≡ kinds.failed seq (time_of a)
  pub putter : Putting
  pub there : slice_get a.mail.putters t ≡ Some putter
  pub undone : dones_in seq putter.put < commands_in t seq a.taking.receiver.taken

-- that a task is closed which hasn't left, and whose Closed wasn't put
pub record Closes (a : Serving) (t : ℕ) (note : Note) : Type 0 where
  pub is : note ≡ kinds.closed (time_of a)
  pub putter : Putting
  pub there : slice_get a.mail.putters t ≡ Some putter
  pub unclosed : closed_in putter.put ≡ false
  pub stays : left_in t a.taking.receiver.taken ≡ false

-- The note that is held is put next; where there is none, one of these.
abbrev pub IsNext : Serving → ℕ → Note → Type 0
IsNext a t note = (a.mail.next ≡ Some (t, note)) ⊎ ((a.mail.next ≡ None) × (Fails a t note ⊎ Closes a t note))

-- All is put: each command that was taken has its Done, and each task that hasn't left its Closed.
pub record AreAllTold (a : Serving) : Type 0 where
  pub none_held : a.mail.next ≡ None
  pub done : (t : ℕ) (p : Putting) → slice_get a.mail.putters t ≡ Some p → (seq : ℕ) → dones_in seq p.put ≡ commands_in t seq a.taking.receiver.taken
  pub closed : (t : ℕ) (p : Putting) → slice_get a.mail.putters t ≡ Some p → (closed_in p.put || left_in t a.taking.receiver.taken) ≡ true

-- The next note is held: the one that was, or one that was owed where none was.
abbrev pub IsHeld : Serving → Serving → Type 0
IsHeld old new = (t : ℕ) (note : Note) → new.mail.next ≡ Some (t, note) → IsNext old t note

-- ---- What a turn does

-- The next note was put.
pub record Tells (old new : Serving) : Type 0 where
  pub task : ℕ
  pub note : Note
  pub next : IsNext old task note
  pub puts : PutsOne task note old.mail.putters new.mail.putters
  pub none_held : new.mail.next ≡ None
  pub taking : new.taking ≡ old.taking

-- The mailbox of this task was full at a step, and the next note, which is for it, is held.
pub record IsHeldUp (board : TableId) (inbox task : ℕ) (old new : Serving) : Type 0 where
  pub note : Note
  pub next : IsNext old task note
  pub held : new.mail.next ≡ Some (task, note)
  pub pass : Putting
  pub full : WasFull board inbox pass
  pub counted : FindsFull task pass old.mail.putters new.mail.putters
  pub taking : new.taking ≡ old.taking

-- a command that was taken without memory fails next; a Leave is owed nothing
abbrev pub failing : ℕ → Popped → Option (ℕ × Note)
failing at p = if p.leaves then None else Some (p.task, kinds.failed p.seq at)

-- a task that hasn't left
pub record IsAwaited (a : Serving) : Type 0 where
  pub task : ℕ
  pub known : task < length a.mail.putters
  pub stays : left_in task a.taking.receiver.taken ≡ false

-- All was put, a task hasn't left, and a submission was taken from the queue.
pub record TakesOne (old new : Serving) : Type 0 where
  pub told : AreAllTold old
  pub awaited : IsAwaited old
  pub popped : Popped
  pub pops : Pops (Some popped) old.taking.receiver new.taking.receiver
  pub taking : new.taking ≡ record old.taking { receiver = new.taking.receiver }
  pub mail : new.mail ≡ record old.mail { next = failing (time_of old) popped }

-- All was put, a task hasn't left, and the queue was empty at a step.
pub record FindsNone (board : TableId) (old new : Serving) : Type 0 where
  pub told : AreAllTold old
  pub awaited : IsAwaited old
  pub empty : FoundEmpty board old.taking.receiver new.taking.receiver
  pub taking : new.taking ≡ record old.taking { receiver = new.taking.receiver }
  pub mail : new.mail ≡ old.mail

-- All is put, and each task has left: nothing will change any more.
pub record IsOver (old new : Serving) : Type 0 where
  pub told : AreAllTold old
  pub left : (t : ℕ) → t < length old.mail.putters → left_in t old.taking.receiver.taken ≡ true
  pub same : new ≡ old

-- what a turn did, by its answer
abbrev pub WorksWithout : {E : Type 0} → TableId → ℕ → Serving → Serving → Result Turn E → Type 0
WorksWithout board inbox old new (Err e) = Tells old new ⊎ (TakesOne old new ⊎ FindsNone board old new)
WorksWithout board inbox old new (Ok (turns.Stalled task)) = IsHeldUp board inbox task old new
WorksWithout board inbox old new (Ok turns.Ended) = IsOver old new
WorksWithout board inbox old new (Ok turns.Worked) = ⊥
WorksWithout board inbox old new (Ok turns.Idle) = ⊥
