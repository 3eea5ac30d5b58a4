-- What a script asks of a replay's task.
use Rattle.std.specs.Prelude.{◌≡◌, Bool, true, false, List, [], ◌∷◌, ◌++◌}
use Rattle.agent_journal.specs.declared.request.Request.{Request}
use Rattle.agent_journal.specs.declared.request.Request.TheVariants as requests
use Rattle.agent_script.specs.declared.script.Line.{Line}
use Rattle.agent_script.specs.declared.script.Step.{Step}
use Rattle.agent_script.specs.declared.script.Step.TheVariants as steps
use Rattle.agent_journal.specs.Projections.{requests_of}
use Rattle.agent_journal.specs.Readings.{has_left, is_leave}
use Rattle.agent_journal.specs.Requests.{is_valid}
use Rattle.agent_script.specs.Asked.{asked_in}
use Rattle.replay_rounds.specs.World.{World}

abbrev pub IsValidStep : Step → Type 0
IsValidStep (steps.Do request) = (is_valid request ≡ true) × (is_leave request ≡ false)
IsValidStep _ = Unit {0}

-- A line of the one task, whose request is valid. No line is a Leave.
pub record IsValidLine (line : Line) : Type 0 where
  pub task : line.task ≡ 0
  pub step : IsValidStep line.step

-- what is still to come behind the lines
abbrev pub leave_of : Bool → List Request
leave_of true = []
leave_of false = requests.Leave ∷ []

-- the requests that were taken, and behind them those that are still asked for, Leave last
abbrev pub taken_and_left : World → List Request
taken_and_left w = requests_of 0 w.past ++ (asked_in 0 w.lines ++ leave_of (has_left 0 w.past))
