-- What a journal says of one task, in the order of its entries.
use Rattle.std.specs.Prelude.{◌≡◌, ℕ, ◌+◌, ◌<◌, ◌≤◌, Bool, false, ◌&&◌, not, ◌==◌, List, [], ◌∷◌, ◌++◌, if◌then◌else◌, count_by}
use Rattle.agent_journal.specs.declared.request.Request.{Request}
use Rattle.agent_journal.specs.declared.entry.Cause.{Cause}
use Rattle.agent_journal.specs.declared.entry.Cause.TheVariants as c
use Rattle.agent_journal.specs.declared.entry.Entry.{Entry}
use Rattle.agent_journal.specs.declared.effect.Effect.{Effect}
use Rattle.agent_journal.specs.declared.effect.Effect.TheVariants as f
use Rattle.agent_journal.specs.Readings.{is_leave, completes}

abbrev pub request_in : ℕ → Cause → List Request
request_in t (c.Take task seq request) = if t == task then request ∷ [] else []
request_in t _ = []

-- the requests of task t that were taken, Leave included
abbrev pub requests_of : ℕ → List Entry → List Request
requests_of t [] = []
requests_of t (e ∷ past) = requests_of t past ++ request_in t e.cause

-- how many of them are commands: all but Leave
abbrev pub commands_by : ℕ → Cause → ℕ
commands_by t (c.Take task seq request) = if t == task && not (is_leave request) then 1 else 0
commands_by t _ = 0

abbrev pub commands_of : ℕ → List Entry → ℕ
commands_of t [] = 0
commands_of t (e ∷ past) = commands_of t past + commands_by t e.cause

abbrev pub is_done : ℕ → Effect → Bool
is_done t (f.Done task seq outcome) = t == task
is_done t _ = false

-- how many commands of task t were completed
abbrev pub completed_of : ℕ → List Entry → ℕ
completed_of t [] = 0
completed_of t (e ∷ past) = completed_of t past + count_by (is_done t) e.effects

abbrev pub is_pass : ℕ → Effect → Bool
is_pass t (f.Pass task message) = t == task
is_pass t _ = false

-- how many messages were passed to task t
abbrev pub messages_of : ℕ → List Entry → ℕ
messages_of t [] = 0
messages_of t (e ∷ past) = messages_of t past + count_by (is_pass t) e.effects

-- how many completions command seq of task t has
abbrev pub completions_of : ℕ → ℕ → List Entry → ℕ
completions_of t seq [] = 0
completions_of t seq (e ∷ past) = completions_of t seq past + count_by (completes t seq) e.effects

-- At no moment is a command completed that wasn't taken by then.
abbrev pub NoneEarly : List Entry → Type 0
NoneEarly [] = Unit {0}
NoneEarly (e ∷ past) = ((t seq : ℕ) → commands_of t (e ∷ past) ≤ seq → completions_of t seq (e ∷ past) ≡ 0) × NoneEarly past

-- Each command that was taken has exactly one completion, and none comes before its Take.
pub record CompletesOnce (past : List Entry) : Type 0 where
  pub one : (t seq : ℕ) → seq < commands_of t past → completions_of t seq past ≡ 1
  pub none_early : NoneEarly past
