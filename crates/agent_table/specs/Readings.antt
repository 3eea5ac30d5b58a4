-- All readings of one moment, as the table takes them. The past of a journal is its entries with the newest first.
use Rattle.std.specs.Prelude.{ℕ, ◌+◌, nat_le, Bool, List, [], ◌∷◌, Option, if◌then◌else◌}
use Rattle.mqtt_packet.specs.declared.will.Ask.{Ask}
use Rattle.agent_journal.specs.declared.entry.Entry.{Entry}
use Rattle.agent_journal.specs.declared.setup.Setup.{Setup}
use Rattle.agent_journal.specs.declared.setup.Phase.{Phase}
use Rattle.agent_journal.specs.declared.setup.Phase.TheVariants.{Down, Opening, Up, Spilled, Off}
use Rattle.agent_journal.specs.Readings.{Pending, last_time_of, takes_of, has_left, breaks_of, accepted_of, pending_of}
use Rattle.agent_table.specs.Deliveries.{released_of, held_of}
use Rattle.agent_table.specs.Identifiers.{last_drawn_of}
use Rattle.agent_table.specs.Routes.{Route, Renewal, renewals_of, routes_of, renewable_of, unsure_of, while_opening}
use Rattle.agent_table.specs.Sends.{has_send}
use Rattle.agent_table.specs.Sessions.{is_wiping, is_first, ping_of, last_sent_of, while_connected}
use Rattle.agent_table.specs.Terminations.{terminated_of}

pub record Readings : Type 0 where
  pub phase : Phase
  -- the time of the newest entry, and whether it sends
  pub last_time : ℕ
  pub just_sent : Bool
  -- how many requests of each task were taken, Leave included
  pub takes : ℕ → ℕ
  -- whether the Leave of a task was taken
  pub left : ℕ → Bool
  -- how many connections or openings broke since the last accepted CONNACK; more than reopen + 2 read like these
  pub breaks : ℕ
  -- whether an old session is to be wiped, and no CONNACK was accepted yet
  pub wiping : Bool
  -- whether no CONNACK was accepted yet on a connection that wasn't wiping
  pub first : Bool
  -- the open commands, in the order in which they were taken
  pub pending : List Pending
  -- the identifiers of the released publishes, in the order of the first PUBRECs
  pub released : List ℕ
  -- the held identifiers, in the order in which they came
  pub held : List ℕ
  -- the identifier that was drawn last
  pub last_drawn : ℕ
  -- the times of the first unanswered PINGREQ and of the last entry with a Send, on the present connection
  pub ping : Option ℕ
  pub last_sent : Option ℕ
  -- the routes and the open renewals; in Off, where no row reads them, there are none
  pub routes : List Route
  pub renewals : List Renewal
  -- what renewals of the filters of all routes ask for, and those of the unsure ones, in Opening
  pub renewable : List Ask
  pub unsure : List Ask
  -- whether a Terminate was taken in Up
  pub terminated : Bool

abbrev pub at_most : ℕ → ℕ → ℕ
at_most limit n = if nat_le n limit then n else limit

abbrev pub unless_off : {X : Type 0} → Phase → List X → List X
unless_off Down xs = xs
unless_off Opening xs = xs
unless_off Up xs = xs
unless_off Spilled xs = xs
unless_off Off xs = []

abbrev pub sends_newest : List Entry → Bool
sends_newest [] = has_send []
sends_newest (e ∷ past) = has_send e.effects

-- the readings of a past whose phase is known
abbrev pub read_at : Setup → Phase → List Entry → Readings
read_at s phase past = record {
  phase = phase;
  last_time = last_time_of past;
  just_sent = sends_newest past;
  takes = λ t. takes_of t past;
  left = λ t. has_left t past;
  breaks = at_most (s.reopen + 2) (breaks_of past);
  wiping = is_wiping s (accepted_of past);
  first = is_first s (accepted_of past);
  pending = pending_of past;
  released = released_of past;
  held = held_of s past;
  last_drawn = last_drawn_of past;
  ping = while_connected phase (ping_of past);
  last_sent = while_connected phase (last_sent_of past);
  routes = unless_off phase (routes_of past);
  renewals = unless_off phase (renewals_of past);
  renewable = while_opening phase (renewable_of past);
  unsure = while_opening phase (unsure_of s past);
  terminated = terminated_of past;
}
