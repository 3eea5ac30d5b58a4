-- The passes of a queue as contracts see them, each with the name of its queue.
use Rattle.std.specs.Prelude.{◌≡◌, ℕ, List, [], ◌++◌, map, length}
use Rattle.std.specs.List.{range_with_len}
use Rattle.atomic_table.specs.Seated.{TableId}
use Rattle.crossbeam_queue.specs.Fifo.{Held}
use Rattle.task_queues.specs.declared.submission.Submission.{Submission}
use Rattle.task_queues.specs.Submissions.{of_task}
use Rattle.task_queues.specs.Moments.{Moment}
use Rattle.task_queues.specs.Roles.{sender, receiver}
use Rattle.task_queues.specs.QueueRule.{IsInOrder}

-- A sender: its number, what it sent, and how often it found the queue full.
pub record Sending : Type 0 where
  pub queue : TableId
  pub number : ℕ
  pub sent : List Submission
  pub fulls : ℕ

-- The receiver: how many senders there are, what it took of all of them, the senders that were joined, each with all
-- that it sent, the latest first, and how often the receiver found the queue empty.
pub record Receiving : Type 0 where
  pub queue : TableId
  pub senders : ℕ
  pub taken : List Submission
  pub joined : List (ℕ × List Submission)
  pub empties : ℕ

abbrev pub fresh_sender : TableId → ℕ → Sending
fresh_sender queue number = record { queue = queue; number = number; sent = []; fulls = 0 }

-- senders 0, 1 and so on, this many
abbrev pub fresh_senders : TableId → ℕ → List Sending
fresh_senders queue count = map (fresh_sender queue) (range_with_len 0 count)

abbrev pub fresh_receiver : TableId → ℕ → Receiving
fresh_receiver queue senders = record { queue = queue; senders = senders; taken = []; joined = []; empties = 0 }

-- What a look tells that found this many submissions: at a moment the rule held of these and of all views, this pass's
-- among them.
abbrev pub WasFull : TableId → ℕ → Sending → Type 0
WasFull board size p = Held size (Moment (IsInOrder board) (sender p.number p.sent p.fulls))

abbrev pub WasEmpty : TableId → Receiving → Type 0
WasEmpty board p = Held 0 (Moment (IsInOrder board) (receiver p.taken p.senders p.joined p.empties))

-- At a moment this many submissions were held, and those of this sender among them are what the receiver has yet to take
-- of what it sent.
pub record HoldsOf (s : Sending) (r : Receiving) (count : ℕ) : Type 0 where
  pub items : List Submission
  pub counted : length items ≡ count
  pub in_order : s.sent ≡ of_task s.number r.taken ++ of_task s.number items
