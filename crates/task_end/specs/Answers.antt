-- What a task is answered.
use Rattle.std.specs.Prelude.{◌≡◌, ℕ, ◌+◌, Bool, true, false, List, [], ◌∷◌, Option, None, Some, Result, Ok, Err}
use Rattle.agent_journal.specs.declared.message.Message.{Message}
use Rattle.agent_journal.specs.declared.outcome.Outcome.{Outcome}
use Rattle.agent_journal.specs.declared.request.Request.{Request}
use Rattle.task_queues.specs.declared.note.Note.{Note}
use Rattle.task_queues.specs.declared.note.Note.TheVariants as notes
use Rattle.task_end.specs.declared.ticket.Ticket.{Ticket}
use Rattle.task_end.specs.declared.answers.Told.{Told}
use Rattle.task_end.specs.declared.answers.Told.TheVariants as told
use Rattle.task_end.specs.declared.answers.Collected.{Collected}
use Rattle.task_end.specs.declared.answers.Collected.TheVariants as collected
use Rattle.task_end.specs.declared.answers.NextMessage.{NextMessage}
use Rattle.task_end.specs.declared.answers.NextMessage.TheVariants as next
use Rattle.task_end.specs.declared.answers.SubmitFault.{SubmitFault}
use Rattle.task_end.specs.declared.answers.SubmitFault.TheVariants as faults

-- what a note tells
abbrev pub told_in : Note → Told
told_in (notes.Done seq outcome at front) = told.Completion seq
told_in (notes.Message message at front) = told.Message message at
told_in (notes.Closed at front) = told.Closed

-- The next that a task is told: the oldest message that it keeps, or else what one more note tells, if there is one. Then it
-- keeps what is left.
abbrev pub IsNext : List (Message × ℕ) → Option Told → List Note → List (Message × ℕ) → Type 0
IsNext (message ∷ kept) answer more left = (answer ≡ Some (told.Message message.0 message.1)) × (more ≡ []) × (left ≡ kept)
IsNext [] answer [] left = (answer ≡ None) × (left ≡ [])
IsNext [] answer (note ∷ []) left = (answer ≡ Some (told_in note)) × (left ≡ [])
IsNext [] answer (note ∷ other ∷ more) left = ⊥

abbrev pub looks_for : Option Told → ℕ
looks_for None = 1
looks_for (Some told) = 0

-- ---- collect

abbrev pub IfGot : Collected → (Outcome → Type 0) → Type 0
IfGot (collected.Got outcome) P = P outcome
IfGot (collected.NotYet ticket) P = Unit {0}
IfGot (collected.MessagesFirst ticket) P = Unit {0}

-- the ticket comes back
abbrev pub IfBack : Collected → (Ticket → Type 0) → Type 0
IfBack (collected.Got outcome) P = Unit {0}
IfBack (collected.NotYet ticket) P = P ticket
IfBack (collected.MessagesFirst ticket) P = P ticket

abbrev pub is_got : Collected → Bool
is_got (collected.Got outcome) = true
is_got (collected.NotYet ticket) = false
is_got (collected.MessagesFirst ticket) = false

abbrev pub is_not_yet : Collected → Bool
is_not_yet (collected.Got outcome) = false
is_not_yet (collected.NotYet ticket) = true
is_not_yet (collected.MessagesFirst ticket) = false

abbrev pub is_messages_first : Collected → Bool
is_messages_first (collected.Got outcome) = false
is_messages_first (collected.NotYet ticket) = false
is_messages_first (collected.MessagesFirst ticket) = true

-- how many looks found the mailbox empty: the last one, where that is why
abbrev pub looks_of : Collected → ℕ
looks_of (collected.Got outcome) = 0
looks_of (collected.NotYet ticket) = 1
looks_of (collected.MessagesFirst ticket) = 0

-- ---- next_message

abbrev pub handed : NextMessage → List (Message × ℕ)
handed (next.Message message at) = (message, at) ∷ []
handed next.NoneYet = []
handed next.Closed = []

abbrev pub is_closed : NextMessage → Bool
is_closed (next.Message message at) = false
is_closed next.NoneYet = false
is_closed next.Closed = true

abbrev pub is_none_yet : NextMessage → Bool
is_none_yet (next.Message message at) = false
is_none_yet next.NoneYet = true
is_none_yet next.Closed = false

abbrev pub looks_in : NextMessage → ℕ
looks_in (next.Message message at) = 0
looks_in next.NoneYet = 1
looks_in next.Closed = 0

-- ---- submit

abbrev pub is_spent : Result Ticket (Request × SubmitFault) → Bool
is_spent (Ok ticket) = false
is_spent (Err (request, faults.Spent)) = true
is_spent (Err (request, faults.PoolEmpty)) = false
is_spent (Err (request, faults.QueueFull)) = false
is_spent (Err (request, faults.NoMemory)) = false

-- how many looks found no number free
abbrev pub none_free_in : Result Ticket (Request × SubmitFault) → ℕ
none_free_in (Ok ticket) = 0
none_free_in (Err (request, faults.Spent)) = 0
none_free_in (Err (request, faults.PoolEmpty)) = 1
none_free_in (Err (request, faults.QueueFull)) = 0
none_free_in (Err (request, faults.NoMemory)) = 0

-- how many looks found the queue full
abbrev pub fulls_in : Result Ticket (Request × SubmitFault) → ℕ
fulls_in (Ok ticket) = 0
fulls_in (Err (request, faults.Spent)) = 0
fulls_in (Err (request, faults.PoolEmpty)) = 0
fulls_in (Err (request, faults.QueueFull)) = 1
fulls_in (Err (request, faults.NoMemory)) = 0
