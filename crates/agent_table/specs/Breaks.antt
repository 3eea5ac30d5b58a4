-- The table's rows for what happens to the connection, and in time.
use Rattle.std.specs.Prelude.{ℕ, zero, suc, ◌+◌, ◌*◌, Bool, true, false, ◌&&◌, not, ◌==◌, nat_lt, nat_le, List, [], ◌∷◌, Option, Some, None}
use Rattle.mqtt_packet.specs.declared.packet.Packet.{Packet}
use Rattle.mqtt_packet.specs.declared.packet.Packet.TheVariants as p
use Rattle.agent_journal.specs.declared.entry.Why.{Why}
use Rattle.agent_journal.specs.declared.entry.Why.TheVariants as w
use Rattle.agent_journal.specs.declared.effect.Effect.TheVariants as f
use Rattle.agent_journal.specs.declared.setup.Setup.{Setup}
use Rattle.agent_journal.specs.declared.setup.Phase.{Phase}
use Rattle.agent_journal.specs.declared.setup.Phase.TheVariants.{Down, Opening, Up, Spilled, Off}
use Rattle.agent_journal.specs.Readings.{Pending}
use Rattle.agent_table.specs.Effects.{lose_link}
use Rattle.agent_table.specs.Readings.{Readings}
use Rattle.agent_table.specs.Rows.{Row, to, when, ends}

abbrev pub connect : Setup → Bool → Packet
connect s clean = p.Connect clean s.keep_alive s.client None None None

-- Opened: in Down, while breaks are at most reopen, CONNECT is sent (MQTT 3.1.1, section 3.1), clean exactly where wiping.
unfoldable pub opened_row : Setup → Readings → Phase → Option Row
opened_row s r Down = when (nat_le r.breaks s.reopen) (to Opening (f.Send (connect s r.wiping) ∷ []))
opened_row s r Opening = None
opened_row s r Up = None
opened_row s r Spilled = None
opened_row s r Off = None

-- the connection has ended
abbrev pub down : Readings → Option Row
down r = to Down (lose_link r)

-- A call of the link failed. In Down it was an opening, and in Off the last thing that was to be sent.
unfoldable pub fault_row : Setup → Readings → Phase → Option Row
fault_row s r Down = when (nat_le r.breaks s.reopen) (to Down [])
fault_row s r Opening = down r
fault_row s r Up = down r
fault_row s r Spilled = down r
fault_row s r Off = when r.just_sent (to Off [])

-- The broker ended the connection.
unfoldable pub end_row : Readings → Phase → Option Row
end_row r Down = None
end_row r Opening = down r
end_row r Up = down r
end_row r Spilled = None
end_row r Off = None

abbrev pub is_none : List Pending → Bool
is_none [] = true
is_none (command ∷ commands) = false

-- Nothing came for long: while Opening, or in Up where a command is open.
unfoldable pub idle_row : Readings → Phase → Option Row
idle_row r Down = None
idle_row r Opening = down r
idle_row r Up = when (not (is_none r.pending)) (down r)
idle_row r Spilled = None
idle_row r Off = None

-- The broker's bytes are no packet, or a packet is too long.
unfoldable pub bytes_row : Setup → Readings → Phase → Option Row
bytes_row s r Down = None
bytes_row s r Opening = ends s r
bytes_row s r Up = ends s r
bytes_row s r Spilled = None
bytes_row s r Off = None

-- at least so many milliseconds behind that time, where there is one
abbrev pub is_past : Option ℕ → ℕ → ℕ → Bool
is_past None wait at = false
is_past (Some time) wait at = nat_le (time + wait) at

-- A PINGREQ wasn't answered within 5,000 milliseconds, which are this project's own (section 3.1.2.10 asks for a
-- reasonable time).
unfoldable pub keep_alive_row : Readings → ℕ → Phase → Option Row
keep_alive_row r at Down = None
keep_alive_row r at Opening = None
keep_alive_row r at Up = when (is_past r.ping 5000 at) (down r)
keep_alive_row r at Spilled = None
keep_alive_row r at Off = None

-- More QoS 2 publishes came than there is room for.
unfoldable pub in_full_row : Readings → Phase → Option Row
in_full_row r Down = None
in_full_row r Opening = None
in_full_row r Up = None
in_full_row r Spilled = down r
in_full_row r Off = None

abbrev pub broke_row : Setup → Readings → ℕ → Why → Option Row
broke_row s r at w.Fault = fault_row s r r.phase
broke_row s r at w.End = end_row r r.phase
broke_row s r at w.Idle = idle_row r r.phase
broke_row s r at (w.Bad offset) = bytes_row s r r.phase
broke_row s r at (w.TooLong size) = bytes_row s r r.phase
broke_row s r at w.KeepAlive = keep_alive_row r at r.phase
broke_row s r at w.InFull = in_full_row r r.phase

-- GaveUp: in Down, one break behind the last that may be reopened.
unfoldable pub gave_up_row : Setup → Readings → Phase → Option Row
gave_up_row s r Down = when (r.breaks == s.reopen + 1) (ends s r)
gave_up_row s r Opening = None
gave_up_row s r Up = None
gave_up_row s r Spilled = None
gave_up_row s r Off = None

abbrev pub is_absent : Option ℕ → Bool
is_absent None = true
is_absent (Some time) = false

-- Tick: in Up, with a keep alive, half of it behind the last packet that was sent, and no PINGREQ unanswered (section
-- 3.1.2.10). A keep alive of k seconds is 1,000 k milliseconds.
unfoldable pub tick_row : Setup → Readings → ℕ → Phase → Option Row
tick_row s r at Down = None
tick_row s r at Opening = None
tick_row s r at Up = when (nat_lt 0 s.keep_alive && is_absent r.ping && is_past r.last_sent (500 * s.keep_alive) at) (to Up (f.Send p.PingReq ∷ []))
tick_row s r at Spilled = None
tick_row s r at Off = None

-- the tasks below n have left
abbrev pub all_left : ℕ → (ℕ → Bool) → Bool
all_left zero left = true
all_left (suc n) left = left n && all_left n left

-- Finish: in Up, where all tasks have left and nothing is open, DISCONNECT is sent.
unfoldable pub finish_row : Setup → Readings → Phase → Option Row
finish_row s r Down = None
finish_row s r Opening = None
finish_row s r Up = when (all_left s.tasks r.left && is_none r.pending) (to Off (f.Send p.Disconnect ∷ []))
finish_row s r Spilled = None
finish_row s r Off = None
