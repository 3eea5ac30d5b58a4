-- What a run promises of its journal.
use Rattle.std.specs.Prelude.{◌≡◌, ℕ, ◌<◌, List}
use Rattle.agent_journal.specs.declared.entry.Entry.{Entry}
use Rattle.agent_journal.specs.declared.request.Request.{Request}
use Rattle.agent_journal.specs.declared.setup.Setup.{Setup}
use Rattle.agent_journal.specs.Projections.{requests_of, CompletesOnce}
use Rattle.agent_table.specs.Histories.{IsLegalPast, IsWholePast}
use Rattle.agent_table.specs.Laws.{AreEarned, HasIdentifiers}
use Rattle.agent_table.specs.Sizes.{Sizes}

-- One legal history of the agent, gone through to its end, in which what each task asked stands once and in its order, each
-- command has exactly one completion, and each good outcome is earned by its acknowledgement.
pub record IsHistoryOf (s : Setup) (l : Sizes) (asked : ℕ → List Request) (past : List Entry) : Type 0 where
  pub legal : IsLegalPast s l past
  pub whole : IsWholePast s l past
  pub taken : (t : ℕ) → t < s.tasks → requests_of t past ≡ asked t
  pub once : CompletesOnce past
  -- where there are more identifiers than room
  pub earned : HasIdentifiers l → AreEarned past
