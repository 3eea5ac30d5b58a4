-- Laws of replays, each the contract of a function that does nothing.
use Rattle.std.specs.Prelude.{◌≡◌, ℕ, Some, IfSome, List, [], ◌∷◌, ◌++◌}
use Rattle.std.specs.List.{AllByRecursion}
use Rattle.agent_link.specs.Clocks.{told_readings}
use Rattle.agent_link.specs.Counts.{uncounted}
use Rattle.broker_tape.specs.declared.tape.Item.{Item}
use Rattle.agent_journal.specs.declared.request.Request.TheVariants as requests
use Rattle.agent_journal.specs.declared.ending.Ending.{Ending}
use Rattle.agent_script.specs.declared.script.Line.{Line}
use Rattle.agent_script.specs.declared.script.Script.{Script}
use Rattle.agent_journal.specs.declared.setup.Setup.{Setup}
use Rattle.agent_journal.specs.Projections.{requests_of}
use Rattle.agent_script.specs.Asked.{asked, asked_in}
use Rattle.agent_table.specs.Histories.{IsLegalPast}
use Rattle.agent_table.specs.Promises.{IsHistoryOf}
use Rattle.agent_table.specs.Sizes.{Sizes}
use Rattle.agent_table.specs.Ties.{IsTied}
use Rattle.replay_rounds.specs.Asked.{IsValidLine}
use Rattle.agent_table.specs.Endings.{ending_of}
use Rattle.broker_tape.specs.Given.{GivesBytes, AreFronts, wires}
use Rattle.replay_rounds.specs.World.{World}
use Rattle.replay_rounds.specs.Rounds.{after, begun}
use Rattle.replay_rounds.specs.Plays.{LeadsTo}

-- Every round adds what the table gives: a world that begins with a legal past goes on with legal ones.
abbrev pub ReplaysAreLegal : Type 0
ReplaysAreLegal = (rounds : ℕ) (w : World) → IsLegalPast w.setup w.sizes w.past → IsLegalPast (after rounds w).setup (after rounds w).sizes (after rounds w).past

-- A replay of one task goes through its script to its end, whatever its tape is: so many rounds lead there.
abbrev pub ReplaysEnd : Type 0
ReplaysEnd =
    (setup : Setup) (sizes : Sizes) (tick : ℕ) (lines : List Line) (items : List Item) → setup.tasks ≡ 1
    → (w : World) × LeadsTo (begun setup sizes tick lines items) w

-- It takes what the lines ask, in their order, and then Leave.
abbrev pub ReplaysTakeAll : Type 0
ReplaysTakeAll =
    (setup : Setup) (sizes : Sizes) (tick : ℕ) (lines : List Line) (items : List Item) (w : World) → setup.tasks ≡ 1
    → AllByRecursion IsValidLine lines → LeadsTo (begun setup sizes tick lines items) w → requests_of 0 w.past ≡ asked_in 0 lines ++ requests.Leave ∷ []

-- What a replay has come to: its journal is one legal history of the agent, in which what the script asks stands once and in
-- its order. It is tied to the link that the tape plays, with what that counted, and to the clock, whose readings these are
-- where it tells them.
pub record IsTiedHistory (setup : Setup) (sizes : Sizes) (script : Script) (w : World) : Type 0 where
  pub history : IsHistoryOf setup sizes (asked script) w.past
  pub ending : Ending
  pub ended : ending_of setup sizes w.past ≡ Some ending
  pub readings : List ℕ
  pub are_read : IfSome (told_readings w.clock) (λ told. told ≡ readings)
  pub tied : IsTied setup sizes w.past w.taken w.given readings uncounted w.counts

-- A replay of one task, whose tape gives bytes, is such a history.
abbrev pub ReplaysAreHistories : Type 0
ReplaysAreHistories =
    (setup : Setup) (sizes : Sizes) (tick : ℕ) (script : Script) (items : List Item) (w : World) → setup.tasks ≡ 1
    → AllByRecursion IsValidLine script.lines → GivesBytes items → LeadsTo (begun setup sizes tick script.lines items) w
    → IsTiedHistory setup sizes script w

-- What each connection of a replay gave is a front of what the tape has for it.
abbrev pub ReplaysHearTheirTape : Type 0
ReplaysHearTheirTape =
    (setup : Setup) (sizes : Sizes) (tick : ℕ) (lines : List Line) (items : List Item) (w : World)
    → LeadsTo (begun setup sizes tick lines items) w → AreFronts w.given (wires items)
