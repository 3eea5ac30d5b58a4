-- What the rules say of any moment: laws, the contracts of functions that do nothing.
use Rattle.std.specs.List.{AllByRecursion}
use Rattle.std.specs.Prelude.{◌≡◌, ℕ, ◌≤◌, true, List, [], ◌++◌, IfSome}
use Rattle.task_queues.specs.declared.submission.Submission.{Submission}
use Rattle.task_queues.specs.declared.role.Role.{Role}
use Rattle.task_queues.specs.declared.note.Note.{Note}
use Rattle.task_queues.specs.declared.end.End.{End}
use Rattle.task_queues.specs.Submissions.{of_task, IsInTurn, IsAllTaken}
use Rattle.task_queues.specs.Fronts.{HasFront, IsSoundNote}
use Rattle.task_queues.specs.Moments.{IsView}
use Rattle.atomic_table.specs.Seated.{TableId}
use Rattle.task_queues.specs.QueueRule.{IsInOrder}
use Rattle.task_queues.specs.MailboxRule.{IsHandedOver}

-- Pass p is a sender's, with the view v, or the receiver's; it puts into a mailbox, or gets from it.
abbrev pub Sends : List Role → ℕ → Role → Type 0
Sends views p v = IsView views p v × (v.sends ≡ true)

abbrev pub Receives : List Role → ℕ → Role → Type 0
Receives views p v = IsView views p v × (v.takes ≡ true)

abbrev pub Puts : List End → ℕ → End → Type 0
Puts views p v = IsView views p v × (v.puts ≡ true)

abbrev pub Gets : List End → ℕ → End → Type 0
Gets views p v = IsView views p v × (v.gets ≡ true)

-- At most one pass receives, and at most one sends for each task. What was taken, followed by what is held, is of
-- each sender what it sent, of each joined one what it sent in all, and of no other task. It is in its turn.
pub record IsLawfulQueue (board : TableId) (items : List Submission) (views : List Role) : Type 0 where
  pub one_receiver : (p q : ℕ) (v w : Role) → Receives views p v → Receives views q w → p ≡ q
  pub one_sender : (p q : ℕ) (v w : Role) → Sends views p v → Sends views q w → v.from ≡ w.from → p ≡ q
  pub in_order : (p q : ℕ) (v w : Role) → Receives views p v → Sends views q w → of_task w.from (v.taken ++ items) ≡ w.sent
  pub all_of_joined : (p : ℕ) (v : Role) → Receives views p v → IsAllTaken (v.taken ++ items) v.joined
  pub of_senders : (p : ℕ) (v : Role) → Receives views p v → (k : ℕ) → v.senders ≤ k → of_task k (v.taken ++ items) ≡ []
  pub in_turn : (p : ℕ) (v : Role) → Receives views p v → (k : ℕ) → IsInTurn (of_task k (v.taken ++ items))
  pub fronts : AllByRecursion (HasFront board) items

-- At most one pass puts, and at most one gets. What was got, followed by what is held, is what was put, also where
-- the pass that put was joined.
pub record IsLawfulMailbox (board : TableId) (items : List Note) (views : List End) : Type 0 where
  pub one_putter : (p q : ℕ) (v w : End) → Puts views p v → Puts views q w → p ≡ q
  pub one_getter : (p q : ℕ) (v w : End) → Gets views p v → Gets views q w → p ≡ q
  pub in_order : (p q : ℕ) (v w : End) → Gets views p v → Puts views q w → v.got ++ items ≡ w.put
  pub all_of_joined : (p : ℕ) (v : End) → Gets views p v → IfSome v.joined (λ all. v.got ++ items ≡ all)
  pub sound : AllByRecursion (IsSoundNote board) items

abbrev pub EachQueueIsLawful : Type 0
EachQueueIsLawful = (board : TableId) (items : List Submission) (views : List Role) → IsInOrder board items views → IsLawfulQueue board items views

abbrev pub EachMailboxIsLawful : Type 0
EachMailboxIsLawful = (board : TableId) (items : List Note) (views : List End) → IsHandedOver board items views → IsLawfulMailbox board items views
