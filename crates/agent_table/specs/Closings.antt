-- Who was told that there will be no more messages, and laws of what an agent that has ended told.
use Rattle.std.specs.Prelude.{◌≡◌, ℕ, ◌<◌, ◌≤◌, Bool, true, false, ◌||◌, ◌==◌, List, [], ◌∷◌, length, Some}
use Rattle.std.specs.List.{list_any, AllByRecursion}
use Rattle.agent_journal.specs.declared.request.Request.{Request}
use Rattle.agent_journal.specs.declared.request.Request.TheVariants as requests
use Rattle.agent_journal.specs.declared.outcome.Outcome.{Outcome}
use Rattle.agent_journal.specs.declared.outcome.Outcome.TheVariants as o
use Rattle.agent_journal.specs.declared.entry.Cause.{Cause}
use Rattle.agent_journal.specs.declared.entry.Cause.TheVariants as c
use Rattle.agent_journal.specs.declared.entry.Entry.{Entry}
use Rattle.agent_journal.specs.declared.effect.Effect.{Effect}
use Rattle.agent_journal.specs.declared.effect.Effect.TheVariants as f
use Rattle.agent_journal.specs.declared.ending.Ending.TheVariants.{Done}
use Rattle.agent_journal.specs.declared.setup.Setup.{Setup}
use Rattle.agent_journal.specs.declared.setup.Phase.TheVariants.{Off}
use Rattle.agent_journal.specs.Readings.{has_left}
use Rattle.agent_table.specs.Endings.{ending_of}
use Rattle.agent_table.specs.Histories.{IsLegalPast, phase_of}
use Rattle.agent_table.specs.Sizes.{Sizes}

abbrev pub closes_task : ℕ → Effect → Bool
closes_task t (f.Closed task) = task == t
closes_task t _ = false

-- whether task t is closed by these effects
abbrev pub closes : ℕ → List Effect → Bool
closes t effects = list_any (closes_task t) effects

-- whether it was closed
abbrev pub has_closed : ℕ → List Entry → Bool
has_closed t [] = false
has_closed t (e ∷ past) = closes t e.effects || has_closed t past

abbrev pub is_ending : Request → Bool
is_ending requests.Disconnect = true
is_ending requests.Terminate = true
is_ending _ = false

-- whether a cause is a task's request to end the agent
abbrev pub asks_end : Cause → Bool
asks_end (c.Take task seq request) = is_ending request
asks_end _ = false

abbrev pub was_asked_to_end : List Entry → Bool
was_asked_to_end [] = false
was_asked_to_end (e ∷ past) = asks_end e.cause || was_asked_to_end past

-- ---- Laws

-- An agent that has ended has closed each task that hasn't left.
abbrev pub OffHasClosed : Type 0
OffHasClosed = (s : Setup) (l : Sizes) (past : List Entry) → IsLegalPast s l past → phase_of s l past ≡ Off → (t : ℕ) → t < s.tasks → has_left t past ≡ false → has_closed t past ≡ true

-- A task is closed only by an agent that has ended.
abbrev pub ClosedIsOff : Type 0
ClosedIsOff = (s : Setup) (l : Sizes) (past : List Entry) (t : ℕ) → IsLegalPast s l past → has_closed t past ≡ true → phase_of s l past ≡ Off

-- Where a task was closed and none had asked for the end, the agent didn't end well.
abbrev pub ClosedUnaskedIsAFault : Type 0
ClosedUnaskedIsAFault =
    (s : Setup) (l : Sizes) (past : List Entry) (t : ℕ) → IsLegalPast s l past → has_closed t past ≡ true → was_asked_to_end past ≡ false → ending_of s l past ≡ Some Done → ⊥

-- A subscribe is granted at most eight codes.
abbrev pub HasFewCodesIn : Outcome → Type 0
HasFewCodesIn (o.Granted codes) = length codes ≤ 8
HasFewCodesIn _ = Unit {0}

abbrev pub HasFewCodes : Effect → Type 0
HasFewCodes (f.Done task seq outcome) = HasFewCodesIn outcome
HasFewCodes _ = Unit {0}

abbrev pub GrantedAreFew : Type 0
GrantedAreFew = (s : Setup) (l : Sizes) (past : List Entry) → IsLegalPast s l past → AllByRecursion (λ e. AllByRecursion HasFewCodes e.effects) past
