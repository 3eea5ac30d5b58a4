-- The requests that a journal takes, and the submissions that they were.
use Rattle.std.specs.Prelude.{◌≡◌, ℕ, ◌≤◌, List, [], ◌∷◌, ◌++◌, length}
use Rattle.agent_journal.specs.declared.entry.Cause.{Cause}
use Rattle.agent_journal.specs.declared.entry.Cause.TheVariants as c
use Rattle.agent_journal.specs.declared.entry.Entry.{Entry}
use Rattle.task_queues.specs.declared.submission.Submission.{Submission}
use Rattle.task_queues.specs.Submissions.{task_of, seq_of, request_of}
use Rattle.task_queues.specs.Fronts.{front_of, number_in}

-- the Take that a submission becomes
abbrev pub take_of : Submission → Cause
take_of s = c.Take (task_of s) (seq_of s) (request_of s)

-- a Take of a journal, with the number of its entry, from 0
abbrev pub take_in : ℕ → Cause → List (ℕ × Cause)
take_in entry (c.Take task seq request) = (entry, c.Take task seq request) ∷ []
take_in entry _ = []

-- all of them, oldest first
abbrev pub takes_in : List Entry → List (ℕ × Cause)
takes_in [] = []
takes_in (e ∷ past) = takes_in past ++ take_in (length past) e.cause

-- The submission became this Take, and its task had not seen more entries than stood before it.
pub record Becomes (s : Submission) (take : ℕ × Cause) : Type 0 where
  pub same : take.1 ≡ take_of s
  pub seen : number_in (front_of s) ≤ take.0

-- one Take for each, in their order
abbrev pub BecomeAll : List Submission → List (ℕ × Cause) → Type 0
BecomeAll [] [] = Unit {0}
BecomeAll [] (take ∷ takes) = ⊥
BecomeAll (s ∷ taken) [] = ⊥
BecomeAll (s ∷ taken) (take ∷ takes) = Becomes s take × BecomeAll taken takes

-- What was taken from the queue are the journal's Takes.
abbrev pub AreTakes : List Submission → List Entry → Type 0
AreTakes taken past = BecomeAll taken (takes_in past)
