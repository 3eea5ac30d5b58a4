-- What a task's work leaves.
use Rattle.std.specs.Prelude.{◌≡◌, ℕ, ◌+◌, ◌≤◌, true, List, [], ◌∷◌, ◌++◌, map, length, All}
use Rattle.agent_journal.specs.declared.request.Request.TheVariants as requests
use Rattle.agent_script.specs.declared.script.Step.{Step}
use Rattle.task_gate.specs.Passages.{Passed}
use Rattle.task_queues.specs.Submissions.{request_of}
use Rattle.task_end.specs.Sides.{TaskSide}
use Rattle.share_work.specs.declared.ending.Ending.{Ending}
use Rattle.share_work.specs.Steps.{asked_of, AreOver, IsHeardOut, IsReady}
use Rattle.share_work.specs.Working.{is_all, is_spent, count_to}

-- The task submitted what these steps ask, in their order, or what a front of them asks where its work ended before; and then its Leave.
pub record HasWorked (all : List Step) (ending : Ending) (passage : Passed) (side : TaskSide) : Type 0 where
  pub done : List Step
  pub left : List Step
  pub cut : all ≡ done ++ left
  pub is_whole : is_all ending ≡ true → left ≡ []
  pub spent : is_spent ending ≡ true → 4000000000 ≤ length (asked_of done)
  pub sent : map request_of side.sender.sent ≡ asked_of done ++ requests.Leave ∷ []
  -- each `wait` and `listen` line was heard out, those in front of a request before it was submitted
  pub heard : IsHeardOut side.getter.got 0 0 done
  pub fronts : All (IsReady all side.getter.got) side.fronts
  pub numbered : length side.fronts ≡ length (asked_of done)
  -- each command was completed, and its ticket collected
  pub over : AreOver side.getter.got (length (asked_of done))
  pub collected : side.out ≡ []
  -- the gate was asked once for each, and perhaps for one more that memory ran out for, and told of each outcome
  pub more : ℕ
  pub few : more ≤ 1
  pub asked : passage.asked ≡ count_to (length (asked_of done) + more)
  pub answered : passage.answered ≡ count_to (length (asked_of done))
