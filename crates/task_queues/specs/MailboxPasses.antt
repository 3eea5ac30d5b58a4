-- The passes of a mailbox as contracts see them, each with the name of its mailbox.
use Rattle.std.specs.Prelude.{◌≡◌, ℕ, List, [], ◌++◌, Option, None, length}
use Rattle.atomic_table.specs.Seated.{TableId}
use Rattle.crossbeam_queue.specs.Fifo.{Held}
use Rattle.task_queues.specs.declared.note.Note.{Note}
use Rattle.task_queues.specs.Moments.{Moment}
use Rattle.task_queues.specs.Ends.{putter, getter}
use Rattle.task_queues.specs.MailboxRule.{IsHandedOver}

-- The one who puts: what it put, and how often it found the mailbox full.
pub record Putting : Type 0 where
  pub mailbox : TableId
  pub put : List Note
  pub fulls : ℕ

-- The one who gets: what it got, all that was put once the other was joined, and how often it found the mailbox empty.
pub record Getting : Type 0 where
  pub mailbox : TableId
  pub got : List Note
  pub joined : Option (List Note)
  pub empties : ℕ

abbrev pub fresh_putter : TableId → Putting
fresh_putter mailbox = record { mailbox = mailbox; put = []; fulls = 0 }

abbrev pub fresh_getter : TableId → Getting
fresh_getter mailbox = record { mailbox = mailbox; got = []; joined = None; empties = 0 }

-- What a look tells that found this many notes: at a moment the rule held of these and of all views, this pass's among
-- them.
abbrev pub WasFull : TableId → ℕ → Putting → Type 0
WasFull board size p = Held size (Moment (IsHandedOver board) (putter p.put p.fulls))

abbrev pub WasEmpty : TableId → Getting → Type 0
WasEmpty board p = Held 0 (Moment (IsHandedOver board) (getter p.got p.joined p.empties))

-- At a moment this many notes were held, which are what is yet to be got of what was put.
pub record Holds (p : Putting) (g : Getting) (count : ℕ) : Type 0 where
  pub items : List Note
  pub counted : length items ≡ count
  pub in_order : p.put ≡ g.got ++ items
