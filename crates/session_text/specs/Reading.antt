-- What bytes read as, as functions from lists of bytes: a value and the bytes behind it, and `None` where they aren't the
-- text of one.
use Rattle.std.specs.Prelude.{◌≡◌, ℕ, zero, suc, Bool, true, false, ◌==◌, nat_lt, nat_le, ◌&&◌, List, [], ◌∷◌, length, take, drop, Option, Some, None, Result, Ok, Err, if◌then◌else◌}
use Rattle.std.specs.Int.{Width, w32, w64, byte_len, from_be_bytes}
use Rattle.mqtt_packet.specs.declared.packet.Packet.{Packet}
use Rattle.mqtt_packet.specs.declared.packet.Packet.TheVariants as p
use Rattle.mqtt_packet.specs.declared.qos.Qos.{Qos}
use Rattle.mqtt_packet.specs.declared.splitter.Next.{Next}
use Rattle.mqtt_packet.specs.declared.splitter.Next.TheVariants as answers
use Rattle.mqtt_packet.specs.Reading.{◌>>=◌, byte_at, number_at, string_at, qos_of, whole}
use Rattle.mqtt_packet.specs.Splitting.{Kept}
use Rattle.mqtt_packet.specs.Steps.{next_of}
use Rattle.agent_journal.specs.declared.off.OffBy.{OffBy}
use Rattle.agent_journal.specs.declared.off.OffBy.TheVariants as by
use Rattle.agent_journal.specs.declared.setup.Phase.{Phase}
use Rattle.agent_journal.specs.declared.setup.Phase.TheVariants.{Down, Opening, Up, Spilled, Off}
use Rattle.topic_filter.specs.Texts.{is_filter}
use Rattle.session_text.specs.declared.fault.RestoreFault.{RestoreFault}
use Rattle.session_text.specs.declared.fault.RestoreFault.TheVariants as faults
use Rattle.session_text.specs.declared.session.Session.{Session}
use Rattle.session_text.specs.declared.session.Connections.{Connections}
use Rattle.session_text.specs.declared.session.Last.{Last}
use Rattle.session_text.specs.declared.session.Command.{Command}
use Rattle.session_text.specs.declared.session.Route.{Route}
use Rattle.session_text.specs.declared.session.Stage.{Stage}
use Rattle.session_text.specs.declared.session.Stage.TheVariants.{NoPublish, Sent, Released}

-- Seen by view, an answer is the reading, and Bad exactly where there is none. Want of memory says nothing.
abbrev pub Fails : {Y : Type 0} → RestoreFault → Option Y → Type 0
Fails faults.Bad read = read ≡ None
Fails faults.NoMemory read = Unit {0}

abbrev pub Gives : {X Y : Type 0} → (X → Y) → Result X RestoreFault → Option Y → Type 0
Gives view (Ok x) read = read ≡ Some (view x)
Gives view (Err e) read = Fails e read

-- ---- Numbers and enums

unfoldable pub wide_at : Width → List ℕ → Option (ℕ × List ℕ)
wide_at w bytes = if nat_lt (length bytes) (byte_len w) then None else Some (from_be_bytes w (take (byte_len w) bytes), drop (byte_len w) bytes)

abbrev pub flag_of : ℕ → Option Bool
flag_of n = if n == 0 then Some false else if n == 1 then Some true else None

unfoldable pub flag_at : List ℕ → Option (Bool × List ℕ)
flag_at bytes = do
  byte ← byte_at bytes
  flag ← flag_of byte.0
  Some (flag, byte.1)

abbrev pub phase_in : ℕ → Option Phase
phase_in n = if n == 0 then Some Down else if n == 1 then Some Opening else if n == 2 then Some Up else if n == 3 then Some Spilled else if n == 4 then Some Off else None

unfoldable pub phase_at : List ℕ → Option (Phase × List ℕ)
phase_at bytes = do
  byte ← byte_at bytes
  phase ← phase_in byte.0
  Some (phase, byte.1)

-- without a refusal the code is 0, and with one 1 to 5 (MQTT 3.1.1, section 3.2.2.3)
abbrev pub off_in : ℕ → ℕ → Option (Option OffBy)
off_in n code =
    if n == 5 then (if nat_le 1 code && nat_le code 5 then Some (Some (by.Refused code)) else None)
    else if code == 0 then
    (if n == 0 then Some None
    else if n == 1 then Some (Some by.Finish)
    else if n == 2 then Some (Some by.Disconnect)
    else if n == 3 then Some (Some by.Terminate)
    else if n == 4 then Some (Some by.GaveUp)
    else if n == 6 then Some (Some by.Bytes)
    else if n == 7 then Some (Some by.Wrong)
    else if n == 8 then Some (Some by.Held)
    else None)
    else None

unfoldable pub off_at : List ℕ → Option (Option OffBy × List ℕ)
off_at bytes = do
  number ← byte_at bytes
  code ← byte_at number.1
  off ← off_in number.0 code.0
  Some (off, code.1)

abbrev pub stage_in : ℕ → Option Stage
stage_in n = if n == 0 then Some NoPublish else if n == 1 then Some Sent else if n == 2 then Some Released else None

unfoldable pub stage_at : List ℕ → Option (Stage × List ℕ)
stage_at bytes = do
  byte ← byte_at bytes
  stage ← stage_in byte.0
  Some (stage, byte.1)

-- ---- Lists

-- so many, one after another
unfoldable pub items_at : {A : Type 0} → (List ℕ → Option (A × List ℕ)) → ℕ → List ℕ → Option (List A × List ℕ)
items_at item zero bytes = Some ([], bytes)
items_at item (suc n) bytes = do
  first ← item bytes
  others ← items_at item n first.1
  Some (first.0 ∷ others.0, others.1)

-- behind their count of two bytes
unfoldable pub counted_at : {A : Type 0} → (List ℕ → Option (A × List ℕ)) → List ℕ → Option (List A × List ℕ)
counted_at item bytes = do
  n ← number_at bytes
  items_at item n.0 n.1

-- ---- Records

unfoldable pub connections_at : List ℕ → Option (Connections × List ℕ)
connections_at bytes = do
  phase ← phase_at bytes
  off ← off_at phase.1
  first ← flag_at off.1
  accepted ← flag_at first.1
  breaks ← wide_at w32 accepted.1
  Some (record { phase = phase.0; off = off.0; first = first.0; accepted = accepted.0; breaks = breaks.0 }, breaks.1)

unfoldable pub last_at : List ℕ → Option (Last × List ℕ)
last_at bytes = do
  sends ← flag_at bytes
  time ← wide_at w64 sends.1
  id ← number_at time.1
  Some (record { sends = sends.0; time = time.0; id = id.0 }, id.1)

-- the packet that these bytes spell, all of them
abbrev pub whole_packet : Next → List ℕ → Option Packet
whole_packet (answers.Packet packet) rest = whole packet rest
whole_packet answers.More rest = None
whole_packet (answers.Bad at) rest = None
whole_packet (answers.TooLong at len) rest = None

abbrev pub fresh : List ℕ → Kept
fresh bytes = record { rest = bytes; at = 0; verdict = None }

unfoldable pub packet_in : List ℕ → Option Packet
packet_in bytes = whole_packet (next_of (fresh bytes)).0 (next_of (fresh bytes)).1.rest

unfoldable pub packet_at : List ℕ → Option (Packet × List ℕ)
packet_at bytes = do
  n ← wide_at w32 bytes
  if nat_lt (length n.1) n.0 then None else (packet_in (take n.0 n.1) >>= λ packet. Some (packet, drop n.0 n.1))

unfoldable pub filters_at : Packet → List ℕ → Option (List (List ℕ) × List ℕ)
filters_at (p.Unsubscribe id named) bytes = do
  n ← byte_at bytes
  items_at string_at n.0 n.1
filters_at _ bytes = Some ([], bytes)

unfoldable pub command_at : List ℕ → Option (Command × List ℕ)
command_at bytes = do
  task ← wide_at w32 bytes
  seq ← wide_at w32 task.1
  stage ← stage_at seq.1
  packet ← packet_at stage.1
  filters ← filters_at packet.0 packet.1
  Some (record { task = task.0; seq = seq.0; stage = stage.0; packet = packet.0; filters = filters.0 }, filters.1)

-- a topic filter (MQTT 3.1.1, section 4.7)
unfoldable pub filter_at : List ℕ → Option (List ℕ × List ℕ)
filter_at bytes = do
  text ← string_at bytes
  if is_filter text.0 then Some text else None

unfoldable pub qos_at : List ℕ → Option (Qos × List ℕ)
qos_at bytes = do
  byte ← byte_at bytes
  qos ← qos_of byte.0
  Some (qos, byte.1)

unfoldable pub route_at : List ℕ → Option (Route × List ℕ)
route_at bytes = do
  task ← wide_at w32 bytes
  qos ← qos_at task.1
  unsure ← flag_at qos.1
  filter ← filter_at unsure.1
  Some (record { task = task.0; qos = qos.0; unsure = unsure.0; filter = filter.0 }, filter.1)

-- ---- All of it

-- the lists behind the rest
unfoldable pub lists_at : Connections → ℕ → List ℕ → Last → List ℕ → Option (Session × List ℕ)
lists_at connections left taken last bytes = do
  held ← counted_at number_at bytes
  commands ← counted_at command_at held.1
  released ← counted_at number_at commands.1
  routes ← counted_at route_at released.1
  Some (record { connections = connections; left = left; taken = taken; last = last; held = held.0; commands = commands.0; released = released.0; routes = routes.0 }, routes.1)

unfoldable pub session_at : List ℕ → Option (Session × List ℕ)
session_at bytes = do
  connections ← connections_at bytes
  left ← byte_at connections.1
  taken ← items_at (wide_at w64) 8 left.1
  last ← last_at taken.1
  lists_at connections.0 left.0 taken.0 last.0 last.1

-- the session that the bytes are the text of, all of them
unfoldable pub session_in : List ℕ → Option Session
session_in bytes = do
  session ← session_at bytes
  whole session.0 session.1
