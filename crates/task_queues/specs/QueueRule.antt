-- The rule of a queue, over what it holds, oldest first, and the views of its passes, by their numbers. It holds
-- between any two steps of any number of passes.
use Rattle.std.specs.Prelude.{◌≡◌, ℕ, ◌<◌, ◌≤◌, true, List, [], ◌++◌}
use Rattle.std.specs.List.{All, AllByRecursion}
use mathlib.Core.Option.{Option, some, none}
use Rattle.task_queues.specs.declared.submission.Submission.{Submission}
use Rattle.task_queues.specs.declared.role.Role.{Role}
use Rattle.task_queues.specs.Submissions.{task_of, of_task, MayFollow, IsInTurn}
use Rattle.task_queues.specs.Roles.{taking}
use Rattle.task_queues.specs.Moments.{IsView}
use Rattle.atomic_table.specs.Seated.{TableId}
use Rattle.task_queues.specs.Fronts.{HasFront}

-- Pass p is the one pass of a sender, and the view v has what this sender sent.
pub record IsSender (seat : ℕ → Option ℕ) (all : List Submission) (p : ℕ) (v : Role) : Type 0 where
  pub one_pass : seat v.from ≡ some p
  pub knows_sent : v.sent ≡ of_task v.from all

-- the sender j.0 was joined: it has no pass any more, and sent j.1 in all
abbrev pub IsJoined : (ℕ → Option ℕ) → List Submission → ℕ × List Submission → Type 0
IsJoined seat all j = (seat j.0 ≡ none) × (of_task j.0 all ≡ j.1)

-- Pass p is the receiver's, and the view v has what was taken, and what each joined sender sent in all. There
-- are no other senders than those that it made.
pub record IsReceiver (reader : ℕ) (seat : ℕ → Option ℕ) (all taken : List Submission) (p : ℕ) (v : Role) : Type 0 where
  pub one_pass : p ≡ reader
  pub knows_taken : v.taken ≡ taken
  pub no_others : (k : ℕ) → v.senders ≤ k → (seat k ≡ none) × (of_task k all ≡ [])
  pub knows_joined : All (IsJoined seat all) v.joined

-- What was sent is what was taken, followed by what is held, and of each task it is in its turn. What is held has its
-- marks. The senders and the receiver know of it what is theirs.
pub record IsInOrder (board : TableId) (items : List Submission) (views : List Role) : Type 0 where
  pub reader : ℕ
  pub seat : ℕ → Option ℕ
  pub all : List Submission
  pub taken : List Submission
  pub in_all : all ≡ taken ++ items
  pub fronts : AllByRecursion (HasFront board) items
  pub in_turn : (k : ℕ) → IsInTurn (of_task k all)
  pub senders : (p : ℕ) (v : Role) → IsView views p v → v.sends ≡ true → IsSender seat all p v
  pub receivers : (p : ℕ) (v : Role) → IsView views p v → v.takes ≡ true → IsReceiver reader seat all taken p v

-- What a pop tells the receiver v of what it takes: it is of one of the senders, may follow what was taken of it, and has
-- its mark.
abbrev pub Takes : TableId → Role → Submission → Role → Type 0
Takes board v s w = (w ≡ taking v s) × (task_of s < v.senders) × MayFollow (of_task (task_of s) v.taken) s × HasFront board s
