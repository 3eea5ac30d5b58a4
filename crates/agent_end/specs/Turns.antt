-- What a turn of the agent does.
use Rattle.std.specs.Prelude.{◌≡◌, ◌⊎◌, ℕ, ◌<◌, List, ◌++◌, map, length, Option}
use Rattle.atomic_table.specs.Seated.{TableId}
use Rattle.task_queues.specs.declared.note.Note.{Note}
use Rattle.task_queues.specs.MailboxPasses.{Putting, WasFull}
use Rattle.agent_journal.specs.declared.entry.Entry.{Entry}
use Rattle.agent_line.specs.Told.{Told, GaveMore}
use Rattle.agent_line.specs.Times.{Timed}
use Rattle.agent_posts.specs.Mail.{Mail, IsAllPut, PutsOne, FindsFull}
use Rattle.agent_requests.specs.Intake.{TakesOneAtMost, WasIdle, HasLeft}
use Rattle.agent_end.specs.Serving.{Serving, journal_in}
use Rattle.agent_end.specs.declared.turn.Turn.{Turn}
use Rattle.agent_end.specs.declared.turn.Turn.TheVariants as t

-- Entries were added, and of the queue one submission at most was taken.
pub record Appends (old new : Serving) : Type 0 where
  pub setup : new.taking.recorded.setup ≡ old.taking.recorded.setup
  pub sizes : new.taking.recorded.sizes ≡ old.taking.recorded.sizes
  pub more : List Entry
  pub past : new.taking.recorded.past ≡ more ++ old.taking.recorded.past
  pub taken : TakesOneAtMost old.taking.receiver new.taking.receiver

-- the passes of the same mailboxes
abbrev pub AreSameEnds : List Putting → List Putting → Type 0
AreSameEnds old new = map (λ p. p.mailbox) new ≡ map (λ p. p.mailbox) old

-- The times of the entries are readings of the clock still.
abbrev pub StaysTimed : Serving → Option (List ℕ) → Serving → Option (List ℕ) → Type 0
StaysTimed old before new now = (first : Option (List ℕ)) → Timed first old.taking.recorded.past before → Timed first new.taking.recorded.past now

-- a note was put
abbrev pub HasPut : Mail → Mail → Type 0
HasPut old new = (task : ℕ) × (note : Note) × PutsOne task note old.putters new.putters

-- An entry was made, bytes came, or a note was put.
abbrev pub HasWorked : Serving → Told → Serving → Told → Type 0
HasWorked old before new now = (length old.taking.recorded.past < length new.taking.recorded.past) ⊎ (GaveMore before.given now.given ⊎ HasPut old.mail new.mail)

-- The mailbox of this task was full at a step.
pub record HasStalled (board : TableId) (inbox task : ℕ) (old new : Serving) : Type 0 where
  pub pass : Putting
  pub full : WasFull board inbox pass
  pub counted : FindsFull task pass old.mail.putters new.mail.putters

-- There was nothing to do, and all notes are put.
pub record HasIdled (board : TableId) (at : ℕ) (old : Serving) (before : Told) (new : Serving) (now : Told) : Type 0 where
  pub idle : WasIdle board at old.taking before new.taking now
  pub put : IsAllPut (journal_in new) new.mail

-- The session has ended, each task has left, and all notes are put.
pub record HasEnded (a : Serving) : Type 0 where
  pub left : HasLeft a.taking.recorded
  pub put : IsAllPut (journal_in a) a.mail

-- what a turn that found memory did, by its answer; `at` is the time that it read
abbrev pub Answers : TableId → ℕ → Serving → Told → Serving → Told → Turn → Type 0
Answers board inbox old before new now t.Worked = HasWorked old before new now
Answers board inbox old before new now t.Idle = (at : ℕ) × HasIdled board at old before new now
Answers board inbox old before new now (t.Stalled task) = HasStalled board inbox task old new
Answers board inbox old before new now t.Ended = HasEnded new
