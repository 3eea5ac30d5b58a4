-- Laws of the definitions.
use Rattle.std.specs.Prelude.{◌≡◌, ℕ, List, map}
use Rattle.agent_journal.specs.declared.entry.Entry.{Entry}
use Rattle.agent_journal.specs.Projections.{requests_of}
use Rattle.task_queues.specs.declared.submission.Submission.{Submission}
use Rattle.task_queues.specs.Submissions.{of_task, request_of}
use Rattle.agent_requests.specs.Takes.{AreTakes}

-- The requests that a journal takes of a task are those that were taken of it from the queue, in their order.
abbrev pub TakesAreRequests : Type 0
TakesAreRequests = (taken : List Submission) (past : List Entry) (t : ℕ) → AreTakes taken past → map request_of (of_task t taken) ≡ requests_of t past
