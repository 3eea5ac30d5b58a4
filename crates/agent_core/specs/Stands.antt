-- Which journals the agent stands for: the legal ones of its setup and sizes of which it keeps the readings.
use Rattle.std.specs.Prelude.{◌≡◌, ◌≢◌, ℕ, ◌+◌, false, List, slice_index_or}
use Rattle.agent_journal.specs.declared.entry.Entry.{Entry}
use Rattle.agent_journal.specs.declared.setup.Phase.TheVariants.{Off}
use Rattle.agent_journal.specs.Readings.{last_time_of, takes_of, has_left, breaks_of, accepted_of, pending_of}
use Rattle.agent_table.specs.Deliveries.{released_of, held_of}
use Rattle.agent_table.specs.Histories.{IsLegalPast, phase_of}
use Rattle.agent_table.specs.Identifiers.{last_drawn_of}
use Rattle.agent_table.specs.Readings.{sends_newest, at_most}
use Rattle.agent_table.specs.Offs.{off_of}
use Rattle.agent_table.specs.Sessions.{ping_of, last_sent_of, while_connected}
use Rattle.agent_core.specs.Kept.{Kept, most_accepted}
use Rattle.agent_core.specs.Routed.{RoutesStand}

-- all but the routes
pub record Keeps (k : Kept) (past : List Entry) : Type 0 where
  pub phase : k.phase ≡ phase_of k.setup k.sizes past
  pub last_time : k.last_time ≡ last_time_of past
  pub just_sent : k.just_sent ≡ sends_newest past
  pub takes : (t : ℕ) → slice_index_or k.takes t 0 ≡ takes_of t past
  pub left : (t : ℕ) → slice_index_or k.left t false ≡ has_left t past
  pub breaks : k.breaks ≡ at_most (k.setup.reopen + 2) (breaks_of past)
  pub accepted : k.accepted ≡ at_most (most_accepted k.setup) (accepted_of past)
  pub pending : k.pending ≡ pending_of past
  pub released : k.released ≡ released_of past
  pub held : k.held ≡ held_of k.setup past
  pub last_drawn : k.last_drawn ≡ last_drawn_of past
  pub ping : while_connected k.phase k.ping ≡ while_connected k.phase (ping_of past)
  pub last_sent : while_connected k.phase k.last_sent ≡ while_connected k.phase (last_sent_of past)
  pub off : k.off ≡ off_of k.setup k.sizes past

-- The journal is legal, and all of it is kept. Once the agent has ended no row reads the routes.
pub record StandsFor (k : Kept) (past : List Entry) : Type 0 where
  pub legal : IsLegalPast k.setup k.sizes past
  pub keeps : Keeps k past
  pub routes : phase_of k.setup k.sizes past ≢ Off → RoutesStand k.setup past k.routing
