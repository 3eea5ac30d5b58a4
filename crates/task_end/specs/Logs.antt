-- What is left of a task's end: its log.
use Rattle.std.specs.Prelude.{◌≡◌, ℕ, length}
use Rattle.task_end.specs.declared.log.TaskLog.{TaskLog}
use Rattle.task_end.specs.Notes.{outcomes_in, messages_in, counted}
use Rattle.task_end.specs.Commands.{NoneIsStray}
use Rattle.task_end.specs.Sides.{TaskSide, fronts_noted}

-- The log of this task: how many commands it sent, its Leave not among them, how many messages it got, and their outcomes as the
-- notes told them, where no note was stray.
pub record IsLogOf (s : TaskSide) (log : TaskLog) : Type 0 where
  pub task : log.task ≡ s.sender.number
  pub sent : log.sent ≡ length (fronts_noted s.sender.sent)
  pub got : log.got ≡ length log.outcomes
  pub messages : log.messages ≡ counted (messages_in s.getter.got)
  pub outcomes : NoneIsStray s.sender.sent s.getter.got → log.outcomes ≡ outcomes_in s.getter.got
  pub fronts : log.fronts ≡ s.fronts
