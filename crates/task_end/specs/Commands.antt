-- The commands of a task: which of them are waited for, and what no agent tells of them.
use Rattle.std.specs.Prelude.{◌≡◌, ℕ, ◌+◌, ◌≤◌, ◌<◌, ◌⊎◌, Bool, false, ◌&&◌, ◌==◌, List, [], ◌∷◌, ◌++◌, map, Option, None, Some, is_none, is_some, IfSome, All}
use Rattle.std.specs.List.{flat_map}
use Rattle.agent_journal.specs.declared.outcome.Outcome.{Outcome}
use Rattle.agent_journal.specs.Readings.{is_leave}
use Rattle.command_pool.specs.Hands.{times}
use Rattle.command_pool.specs.Rule.{once_below}
use Rattle.task_queues.specs.declared.note.Note.{Note}
use Rattle.task_queues.specs.declared.submission.Submission.{Submission}
use Rattle.task_queues.specs.Submissions.{request_of, seq_of}
use Rattle.task_queues.specs.Fronts.{front_of, front_in, number_in}
use Rattle.task_end.specs.declared.command.Command.{Command}
use Rattle.task_end.specs.Notes.{outcomes_in, completed_in}

-- x stands in the one list, which without it is the other.
pub record IsTakenFrom {A : Type 0} (x : A) (all rest : List A) : Type 0 where
  pub before : List A
  pub after : List A
  pub stood : all ≡ before ++ x ∷ after
  pub others : rest ≡ before ++ after

abbrev pub Has : {A : Type 0} → List A → A → Type 0
Has {A} all x = (rest : List A) × IsTakenFrom x all rest

-- ---- Commands whose tickets are out

-- a ticket: its command's number, and the number of its permit
abbrev pub ticket_of : Command → ℕ × ℕ
ticket_of c = (c.seq, c.number)

abbrev pub tickets_of : List Command → List (ℕ × ℕ)
tickets_of all = map ticket_of all

abbrev pub numbers_in : List (ℕ × ℕ) → List ℕ
numbers_in tickets = map (λ t. t.1) tickets

-- the command's number, while no completion came
abbrev pub unless_ended : ℕ → Option Outcome → List ℕ
unless_ended seq None = seq ∷ []
unless_ended seq (Some outcome) = []

abbrev pub waits : Command → List ℕ
waits c = unless_ended c.seq c.outcome

-- the numbers of those that are waited for
abbrev pub waiting : List Command → List ℕ
waiting all = flat_map waits all

-- Each of the first commands, this many, is waited for or was completed, once, and no other.
abbrev pub IsOnce : ℕ → List ℕ → List Note → Type 0
IsOnce count waiting got = (seq : ℕ) → times seq waiting + times seq (completed_in got) ≡ once_below count seq

-- a command's outcome, where it came, was told by one of these notes
abbrev pub WasTold : List Note → Command → Type 0
WasTold got c = IfSome c.outcome (λ outcome. Has (outcomes_in got) (c.seq, outcome))

-- ---- How commands end

abbrev pub is_waiting : ℕ → Command → Bool
is_waiting seq c = c.seq == seq && is_none c.outcome

-- it has this ticket, and its outcome came
abbrev pub is_kept : ℕ → ℕ → Command → Bool
is_kept seq number c = (c.seq == seq && c.number == number) && is_some c.outcome

abbrev pub command : ℕ → ℕ → Option Outcome → Command
command seq number outcome = record { seq = seq; number = number; outcome = outcome }

-- One that was waited for has its outcome. The others are the same, and so is the order.
pub record EndsOne (seq : ℕ) (outcome : Outcome) (old new : List Command) : Type 0 where
  pub number : ℕ
  pub before : List Command
  pub after : List Command
  pub waited : old ≡ before ++ command seq number None ∷ after
  pub ended : new ≡ before ++ command seq number (Some outcome) ∷ after

-- Where one of this number is waited for, it has its outcome and is logged. Else nothing changes.
abbrev pub Ends : ℕ → Outcome → List Command → List Command → List (ℕ × Outcome) → List (ℕ × Outcome) → Type 0
Ends seq outcome old new old_log new_log = (EndsOne seq outcome old new × (new_log ≡ old_log ++ (seq, outcome) ∷ []))
    ⊎ ((times seq (waiting old) ≡ 0) × (new ≡ old) × (new_log ≡ old_log))

-- ---- Stray notes

-- a submission that isn't of this command, or that had seen as much as this
abbrev pub IsOtherOrBehind : ℕ → ℕ → Submission → Type 0
IsOtherOrBehind seq seen s = seq_of s ≡ seq → is_leave (request_of s) ≡ false → seen ≤ number_in (front_of s)

-- A note that no agent puts: it tells the completion of a command that was completed before, or that the task submitted, if at
-- all, only when it had seen as much of the journal as the note tells.
pub record IsStray (sent : List Submission) (got : List Note) : Type 0 where
  pub before : List Note
  pub note : Note
  pub after : List Note
  pub seq : ℕ
  pub outcome : Outcome
  pub stands : got ≡ before ++ note ∷ after
  pub completes : outcomes_in (note ∷ []) ≡ (seq, outcome) ∷ []
  pub again_or_early : (0 < times seq (completed_in before)) ⊎ All (IsOtherOrBehind seq (number_in (front_in note))) sent

abbrev pub NoneIsStray : List Submission → List Note → Type 0
NoneIsStray sent got = IsStray sent got → ⊥
