-- Marks that go through a queue or a mailbox. A mark says how much of the journal its maker had seen.
use Rattle.std.specs.Prelude.{◌≡◌, ℕ, ◌≤◌, List, [], Option, Some, None, IfSome, is_none, length}
use Rattle.atomic_table.specs.Seated.{TableId}
use Rattle.agent_journal.specs.declared.outcome.Outcome.{Outcome}
use Rattle.agent_journal.specs.declared.outcome.Outcome.TheVariants as outcomes
use Rattle.agent_journal.specs.Readings.{is_leave}
use Rattle.front_board.specs.Ends.{Marked}
use Rattle.task_queues.specs.Submissions.{request_of}
use Rattle.task_queues.specs.declared.submission.Submission.{Submission}
use Rattle.task_queues.specs.declared.note.Note.{Note}
use Rattle.task_queues.specs.declared.note.Note.TheVariants as notes

abbrev pub front_of : Submission → Option Marked
front_of s = s.front

abbrev pub front_in : Note → Option Marked
front_in (notes.Done seq outcome at front) = front
front_in (notes.Message message at front) = front
front_in (notes.Closed at front) = front

-- the length of the journal that a mark tells, 0 where there is none
abbrev pub number_in : Option Marked → ℕ
number_in None = 0
number_in (Some mark) = mark.number

-- the codes of a SUBACK that a note tells, if any
abbrev pub granted_in : Outcome → List ℕ
granted_in (outcomes.Granted codes) = codes
granted_in _ = []

abbrev pub codes_in : Note → List ℕ
codes_in (notes.Done seq outcome at front) = granted_in outcome
codes_in (notes.Message message at front) = []
codes_in (notes.Closed at front) = []

-- it is a mark of this board, or none
abbrev pub IsOn : TableId → Option Marked → Type 0
IsOn board front = IfSome front (λ m. m.board ≡ board)

-- A submission has a mark of this board, but a Leave, which has none.
pub record HasFront (board : TableId) (s : Submission) : Type 0 where
  pub none_in_leave : is_none (front_of s) ≡ is_leave (request_of s)
  pub on_board : IsOn board (front_of s)

-- A note's mark, if it has one, is of this board; and it tells of eight filters at most.
pub record IsSoundNote (board : TableId) (n : Note) : Type 0 where
  pub on_board : IsOn board (front_in n)
  pub few_codes : length (codes_in n) ≤ 8
