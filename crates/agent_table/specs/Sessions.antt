-- Connections and sessions, read off a journal.
use Rattle.std.specs.Prelude.{ℕ, Bool, false, ◌&&◌, not, ◌==◌, nat_le, List, [], ◌∷◌, Option, Some, None, if◌then◌else◌}
use Rattle.mqtt_packet.specs.declared.packet.Packet.{Packet}
use Rattle.mqtt_packet.specs.declared.packet.Packet.TheVariants as p
use Rattle.agent_journal.specs.declared.entry.Cause.{Cause}
use Rattle.agent_journal.specs.declared.entry.Cause.TheVariants as c
use Rattle.agent_journal.specs.declared.entry.Entry.{Entry}
use Rattle.agent_journal.specs.declared.setup.Setup.{Setup}
use Rattle.agent_journal.specs.declared.setup.Phase.{Phase}
use Rattle.agent_journal.specs.declared.setup.Phase.TheVariants.{Down, Opening, Up, Spilled, Off}
use Rattle.agent_table.specs.Sends.{has_send, sends_ping}

-- An old session is to be wiped, and no CONNACK was accepted yet. The number of accepted ones is given.
abbrev pub is_wiping : Setup → ℕ → Bool
is_wiping s accepted = s.wipe && accepted == 0

-- No CONNACK was accepted on a connection that wasn't wiping. Only the first connection that is accepted can be wiping.
abbrev pub is_first : Setup → ℕ → Bool
is_first s accepted = nat_le accepted (if s.wipe then 1 else 0)

-- an accepting CONNACK without a session, where there was one: neither wiping nor first
abbrev pub loses : Setup → ℕ → Bool → ℕ → Bool
loses s accepted present code = code == 0 && not present && not (is_wiping s accepted) && not (is_first s accepted)

abbrev pub loses_by : Setup → ℕ → Packet → Bool
loses_by s accepted (p.ConnAck present code) = loses s accepted present code
loses_by s accepted _ = false

-- whether a cause says that the broker lost the session
abbrev pub loses_session : Setup → ℕ → Cause → Bool
loses_session s accepted (c.Arrived packet) = loses_by s accepted packet
loses_session s accepted _ = false

abbrev pub answered_by : Packet → Option ℕ → Option ℕ
answered_by p.PingResp ping = None
answered_by _ ping = ping

-- A PINGRESP answers all PINGREQs before it, and a connection begins without one.
abbrev pub answered : Cause → Option ℕ → Option ℕ
answered c.Opened ping = None
answered (c.Arrived packet) ping = answered_by packet ping
answered _ ping = ping

abbrev pub or_at : Option ℕ → ℕ → ℕ
or_at None at = at
or_at (Some first) at = first

abbrev pub ping_behind : Entry → Option ℕ → Option ℕ
ping_behind e ping = if sends_ping e.effects then Some (or_at (answered e.cause ping) e.at) else answered e.cause ping

-- the time of the first PINGREQ of the newest connection behind its last PINGRESP
abbrev pub ping_of : List Entry → Option ℕ
ping_of [] = None
ping_of (e ∷ past) = ping_behind e (ping_of past)

abbrev pub begun_by : Cause → Option ℕ → Option ℕ
begun_by c.Opened sent = None
begun_by _ sent = sent

abbrev pub sent_behind : Entry → Option ℕ → Option ℕ
sent_behind e sent = if has_send e.effects then Some e.at else begun_by e.cause sent

-- the time of the newest connection's last entry with a Send
abbrev pub last_sent_of : List Entry → Option ℕ
last_sent_of [] = None
last_sent_of (e ∷ past) = sent_behind e (last_sent_of past)

-- only while there is a connection
abbrev pub while_connected : Phase → Option ℕ → Option ℕ
while_connected Down time = None
while_connected Opening time = time
while_connected Up time = time
while_connected Spilled time = None
while_connected Off time = None
