-- What holds of all that the agent may keep.
use Rattle.std.specs.Prelude.{◌≡◌, ℕ, ◌≤◌, Bool, true, List, [], ◌∷◌, length, Some}
use Rattle.std.specs.List.{AllByRecursion}
use Rattle.agent_journal.specs.declared.entry.Cause.{Cause}
use Rattle.agent_journal.specs.declared.entry.Entry.{Entry}
use Rattle.agent_journal.specs.declared.setup.Setup.{Setup}
use Rattle.agent_journal.specs.declared.setup.Phase.TheVariants.{Down}
use Rattle.agent_journal.specs.Readings.{Pending, pending_of}
use Rattle.agent_table.specs.Deliveries.{is_open_publish, is_exactly_once}
use Rattle.agent_table.specs.Effects.{is_publish}
use Rattle.agent_table.specs.Histories.{IsLegalPast, phase_of, row}
use Rattle.agent_table.specs.Rows.{Row}
use Rattle.agent_table.specs.Sizes.{Sizes}
use Rattle.pending_acks.specs.Commands.{Differ}
use Rattle.subscriptions.specs.Routing.{renewable}
use Rattle.agent_core.specs.After.{after}
use Rattle.agent_core.specs.Kept.{Kept, beginning, row_now}
use Rattle.agent_core.specs.Stands.{StandsFor}

-- The parts of what is kept fit each other, as those of every agent do.
pub record IsSound (k : Kept) : Type 0 where
  pub takes : length k.takes ≡ k.setup.tasks
  pub left : length k.left ≡ k.setup.tasks
  pub drawn : k.last_drawn ≤ 65535
  pub acks : k.sizes.acks ≤ 1024
  pub routes : k.sizes.routes ≤ 1024
  pub pending : length k.pending ≤ k.sizes.acks
  pub renewals : length k.routing.renewals ≤ k.sizes.routes
  pub renewable : (all : Bool) → length (renewable all k.routing) ≤ k.sizes.routes
  pub differ : Differ k.pending
  pub released : AllByRecursion (λ n. is_open_publish is_exactly_once k.pending n ≡ true) k.released

-- What a new agent keeps stands for the journal without entries.
abbrev pub StandsAtFirst : Type 0
StandsAtFirst = (s : Setup) (l : Sizes) → StandsFor (beginning s l) []

-- A cause has the row that it has behind the journal that is stood for.
abbrev pub RowsAreSame : Type 0
RowsAreSame = (k : Kept) (past : List Entry) (at : ℕ) (cause : Cause) → StandsFor k past → row_now k at cause ≡ row k.setup k.sizes past at cause

-- Behind a row's entry, what is kept stands for the journal with it.
abbrev pub StandsBehind : Type 0
StandsBehind = (k : Kept) (past : List Entry) (at : ℕ) (cause : Cause) (found : Row) → IsSound k → StandsFor k past → row_now k at cause ≡ Some found
    → StandsFor (after k at cause found.effects found.phase) (record { at = at; cause = cause; effects = found.effects } ∷ past)

-- In a legal journal only publishes wait in Down for the next connection.
abbrev pub OnlyPublishesWait : Type 0
OnlyPublishesWait = (s : Setup) (l : Sizes) (past : List Entry) → IsLegalPast s l past → phase_of s l past ≡ Down → AllByRecursion (λ (command : Pending). is_publish command.request ≡ true) (pending_of past)
