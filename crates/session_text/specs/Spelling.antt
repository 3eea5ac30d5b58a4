-- The text of a saved session. It is this project's own. Numbers have their high bytes first.
use Rattle.std.specs.Prelude.{◌≡◌, ℕ, ◌+◌, ◌<◌, ◌≤◌, Bool, false, List, [], ◌∷◌, ◌++◌, length, take, Option, Some, None, Result, Ok, Err}
use Rattle.std.specs.Int.{to_be_bytes, w16, w32, w64}
use Rattle.std.specs.List.{flat_map}
use Rattle.mqtt_packet.specs.declared.packet.Packet.{Packet}
use Rattle.mqtt_packet.specs.declared.packet.Packet.TheVariants as p
use Rattle.mqtt_packet.specs.Flags.{bit, level}
use Rattle.mqtt_packet.specs.Spelling.{spelling, string, remaining, first, body}
use Rattle.agent_journal.specs.declared.off.OffBy.{OffBy}
use Rattle.agent_journal.specs.declared.off.OffBy.TheVariants as by
use Rattle.agent_journal.specs.declared.request.Request.{Request}
use Rattle.agent_journal.specs.declared.request.Request.TheVariants as requests
use Rattle.agent_journal.specs.declared.setup.Phase.{Phase}
use Rattle.agent_journal.specs.declared.setup.Phase.TheVariants.{Down, Opening, Up, Spilled, Off}
use Rattle.agent_journal.specs.Readings.{Pending}
use Rattle.session_text.specs.declared.fault.TooSmall.{TooSmall}
use Rattle.session_text.specs.declared.session.Session.{Session}
use Rattle.session_text.specs.declared.session.Connections.{Connections}
use Rattle.session_text.specs.declared.session.Last.{Last}
use Rattle.session_text.specs.declared.session.Command.{Command}
use Rattle.session_text.specs.declared.session.Route.{Route}
use Rattle.session_text.specs.declared.session.Stage.{Stage}
use Rattle.session_text.specs.declared.session.Stage.TheVariants.{NoPublish, Sent, Released}

-- ---- Enums as numbers

abbrev pub phase_number : Phase → ℕ
phase_number Down = 0
phase_number Opening = 1
phase_number Up = 2
phase_number Spilled = 3
phase_number Off = 4

-- how the agent came to Off
abbrev pub by_number : OffBy → ℕ
by_number by.Finish = 1
by_number by.Disconnect = 2
by_number by.Terminate = 3
by_number by.GaveUp = 4
by_number (by.Refused code) = 5
by_number by.Bytes = 6
by_number by.Wrong = 7
by_number by.Held = 8

abbrev pub off_number : Option OffBy → ℕ
off_number None = 0
off_number (Some off) = by_number off

-- the code of the CONNACK that refused, and 0 where none did
abbrev pub code_by : OffBy → ℕ
code_by (by.Refused code) = code
code_by _ = 0

abbrev pub refusal_code : Option OffBy → ℕ
refusal_code None = 0
refusal_code (Some off) = code_by off

abbrev pub stage_number : Stage → ℕ
stage_number NoPublish = 0
stage_number Sent = 1
stage_number Released = 2

-- ---- Records

abbrev pub number16 : ℕ → List ℕ
number16 n = to_be_bytes w16 n

unfoldable pub number32 : ℕ → List ℕ
number32 n = to_be_bytes w32 n

unfoldable pub number64 : ℕ → List ℕ
number64 n = to_be_bytes w64 n

unfoldable pub byte : ℕ → List ℕ
byte n = n ∷ []

unfoldable pub flag : Bool → List ℕ
flag b = bit b ∷ []

abbrev pub off_text : Option OffBy → List ℕ
off_text off = byte (off_number off) ++ byte (refusal_code off)

-- whether the first CONNACK is still to come, whether one was accepted, and how often connections broke since
abbrev pub tries_text : Connections → List ℕ
tries_text c = flag c.first ++ (flag c.accepted ++ number32 c.breaks)

abbrev pub connections_text : Connections → List ℕ
connections_text c = byte (phase_number c.phase) ++ (off_text c.off ++ tries_text c)

abbrev pub last_text : Last → List ℕ
last_text l = flag l.sends ++ (number64 l.time ++ number16 l.id)

-- behind its length of four bytes
abbrev pub packet_text : Packet → List ℕ
packet_text packet = number32 (length (spelling packet)) ++ spelling packet

-- what was asked for stands behind the packet of an unsubscribe, as a count of one byte and texts behind their lengths
abbrev pub filters_text : Packet → List (List ℕ) → List ℕ
filters_text (p.Unsubscribe id named) filters = byte (length filters) ++ flat_map string filters
filters_text _ filters = []

abbrev pub packet_and_filters : Packet → List (List ℕ) → List ℕ
packet_and_filters packet filters = packet_text packet ++ filters_text packet filters

abbrev pub command_text : Command → List ℕ
command_text c = number32 c.task ++ (number32 c.seq ++ (byte (stage_number c.stage) ++ packet_and_filters c.packet c.filters))

abbrev pub route_text : Route → List ℕ
route_text r = number32 r.task ++ (byte (level r.qos) ++ (flag r.unsure ++ string r.filter))

-- behind their count of two bytes
abbrev pub counted : {A : Type 0} → (A → List ℕ) → List A → List ℕ
counted item xs = number16 (length xs) ++ flat_map item xs

abbrev pub lists_text : Session → List ℕ
lists_text x = counted number16 x.held ++ (counted command_text x.commands ++ (counted number16 x.released ++ counted route_text x.routes))

abbrev pub session_text : Session → List ℕ
session_text x = connections_text x.connections ++ (byte x.left ++ (flat_map number64 x.taken ++ (last_text x.last ++ lists_text x)))

-- ---- The commands that an agent keeps

-- the packet of an open command, as it is sent first; no request but these three is ever open
abbrev pub packet_of : ℕ → Request → List (List ℕ) → Packet
packet_of id (requests.Publish qos topic payload) named = p.Publish false qos false topic id payload
packet_of id (requests.Subscribe asks) named = p.Subscribe id asks
packet_of id (requests.Unsubscribe filters) named = p.Unsubscribe id named
packet_of id _ named = p.PingReq

abbrev pub asked_of : Request → List (List ℕ)
asked_of (requests.Unsubscribe filters) = filters
asked_of _ = []

abbrev pub command_of : Stage → Pending → Command
command_of stage c = record { task = c.task; seq = c.seq; stage = stage; packet = packet_of c.id c.request c.sent_filters; filters = asked_of c.request }

-- ---- Writing

-- what stands in front of a body of so many bytes: the packet's length, its first byte and its remaining length
abbrev pub front_text : ℕ → ℕ → List ℕ
front_text first n = number32 (1 + length (remaining n) + n) ++ (byte first ++ remaining n)

-- `packet_text` by its parts
abbrev pub parts_text : Packet → List ℕ
parts_text packet = front_text (first packet) (length (body packet)) ++ body packet

-- `filters_text` of a request's packet
abbrev pub asked_text : Request → List ℕ
asked_text (requests.Unsubscribe filters) = byte (length filters) ++ flat_map string filters
asked_text _ = []

-- A text is put into a buffer at a place: the answer is where it ends, and TooSmall exactly where it doesn't fit. What
-- stands in front stays.
abbrev pub Puts : List ℕ → ℕ → List ℕ → List ℕ → Result ℕ TooSmall → Type 0
Puts text at old new (Ok end) = (end ≡ at + length text) × (end ≤ length old) × (length new ≡ length old) × (take end new ≡ take at old ++ text)
Puts text at old new (Err e) = (length old < at + length text) × (length new ≡ length old)
