-- What is saved of a journal: its readings, as the text of a session. The past of a journal is its entries with the newest
-- first.
use Rattle.std.specs.Prelude.{ℕ, ◌+◌, ◌*◌, Bool, not, ◌==◌, ◌&&◌, ◌||◌, nat_lt, List, [], ◌∷◌, map, if◌then◌else◌, filter}
use Rattle.mqtt_packet.specs.Flags.{bit}
use Rattle.agent_journal.specs.declared.entry.Entry.{Entry}
use Rattle.agent_journal.specs.declared.setup.Setup.{Setup}
use Rattle.agent_journal.specs.Readings.{Pending, last_time_of, takes_of, has_left, breaks_of, accepted_of, pending_of}
use Rattle.agent_table.specs.Deliveries.{is_among, released_of, held_of}
use Rattle.agent_table.specs.Effects.{is_publish}
use Rattle.agent_table.specs.Filters.{is_one_of, comes_before}
use Rattle.agent_table.specs.Histories.{phase_of}
use Rattle.agent_table.specs.Identifiers.{last_drawn_of}
use Rattle.agent_table.specs.Offs.{off_of}
use Rattle.agent_table.specs.Readings.{sends_newest}
use Rattle.agent_table.specs.Routes.{Route, granted_of, lost_of, sure_of, qos_of}
use Rattle.agent_table.specs.Sessions.{is_first}
use Rattle.agent_table.specs.Sizes.{Sizes}
use Rattle.session_text.specs.declared.session.Session.{Session}
use Rattle.session_text.specs.declared.session.Command.{Command}
use Rattle.session_text.specs.declared.session.Route.{Route as SavedRoute}
use Rattle.session_text.specs.declared.session.Stage.{Stage}
use Rattle.session_text.specs.declared.session.Stage.TheVariants.{NoPublish, Sent, Released}
use Rattle.session_text.specs.Spelling.{command_of, session_text}

-- ---- Tasks

abbrev pub eight_tasks : List ℕ
eight_tasks = 0 ∷ 1 ∷ 2 ∷ 3 ∷ 4 ∷ 5 ∷ 6 ∷ 7 ∷ []

-- a byte of flags, the first in its lowest bit
abbrev pub mask : List Bool → ℕ
mask [] = 0
mask (b ∷ flags) = bit b + 2 * mask flags

-- ---- Open commands

abbrev pub stage_of : List ℕ → Pending → Stage
stage_of released c = if is_publish c.request then (if is_among released c.id then Released else Sent) else NoPublish

abbrev pub saved_command : List ℕ → Pending → Command
saved_command released c = command_of (stage_of released c) c

-- ---- Routes

abbrev pub is_before : Route → Route → Bool
is_before r s = nat_lt r.task s.task || (r.task == s.task && comes_before r.topics s.topics)

abbrev pub ordered_with : List Route → Route → List Route
ordered_with [] r = r ∷ []
ordered_with (s ∷ routes) r = if is_before r s then r ∷ s ∷ routes else s ∷ ordered_with routes r

-- in the order of task and filter
abbrev pub ordered : List Route → List Route
ordered [] = []
ordered (r ∷ routes) = ordered_with (ordered routes) r

-- The session was lost, and no SUBACK granted the filter since.
abbrev pub is_unsure : Setup → List Entry → List ℕ → Bool
is_unsure s past topics = lost_of s past && not (is_one_of (sure_of s past) topics)

abbrev pub saved_route : Setup → List Entry → Route → SavedRoute
saved_route s past r = record { task = r.task; qos = qos_of past r.topics; unsure = is_unsure s past r.topics; filter = r.topics }

-- the granted routes of tasks that haven't left
abbrev pub saved_routes : Setup → List Entry → List SavedRoute
saved_routes s past = map (saved_route s past) (ordered (filter (λ r. not (has_left r.task past)) (granted_of past)))

-- ---- All of it

abbrev pub session_of : Setup → Sizes → List Entry → Session
session_of s l past = record {
  connections = record {
    phase = phase_of s l past;
    off = off_of s l past;
    first = is_first s (accepted_of past);
    accepted = nat_lt 0 (accepted_of past);
    breaks = breaks_of past;
  };
  left = mask (map (λ t. has_left t past) eight_tasks);
  taken = map (λ t. takes_of t past) eight_tasks;
  last = record { sends = sends_newest past; time = last_time_of past; id = last_drawn_of past };
  held = held_of s past;
  commands = map (saved_command (released_of past)) (pending_of past);
  released = released_of past;
  routes = saved_routes s past;
}

abbrev pub saved : Setup → Sizes → List Entry → List ℕ
saved s l past = session_text (session_of s l past)
