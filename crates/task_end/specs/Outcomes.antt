-- Outcomes as a log keeps them.
use Rattle.std.specs.Prelude.{ℕ, List, map}
use Rattle.agent_journal.specs.declared.outcome.Outcome.{Outcome}
use Rattle.agent_journal.specs.declared.outcome.Outcome.TheVariants as outcomes
use Rattle.task_end.specs.declared.outcome_log.Logged.{Logged}
use Rattle.task_end.specs.declared.outcome_log.Logged.TheVariants as logged

abbrev pub outcome_of : Logged → Outcome
outcome_of logged.Done = outcomes.Done
outcome_of (logged.Granted codes) = outcomes.Granted codes.items
outcome_of logged.NoRoom = outcomes.NoRoom
outcome_of logged.NoRoute = outcomes.NoRoute
outcome_of logged.NotConnected = outcomes.NotConnected
outcome_of logged.LinkLost = outcomes.LinkLost
outcome_of logged.SessionLost = outcomes.SessionLost
outcome_of logged.Cancelled = outcomes.Cancelled
outcome_of logged.NoMemory = outcomes.NoMemory

abbrev pub completion_of : ℕ × Logged → ℕ × Outcome
completion_of done = (done.0, outcome_of done.1)

abbrev pub outcomes_of : List (ℕ × Logged) → List (ℕ × Outcome)
outcomes_of log = map completion_of log
