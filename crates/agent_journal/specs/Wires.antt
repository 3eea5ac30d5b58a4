-- How a journal is tied to the link and the clock of its run.
use Rattle.std.specs.Prelude.{◌≡◌, ℕ, ◌<◌, ◌⊎◌, Bool, true, false, List, [], ◌∷◌, ◌++◌, length, take, if◌then◌else◌, Contains}
use Rattle.std.specs.List.{flat_map}
use Rattle.mqtt_packet.specs.declared.packet.Packet.{Packet}
use Rattle.mqtt_packet.specs.Spelling.{spelling}
use Rattle.agent_link.specs.Wires.{onto_last}
use Rattle.agent_journal.specs.declared.entry.Cause.{Cause}
use Rattle.agent_journal.specs.declared.entry.Cause.TheVariants as c
use Rattle.agent_journal.specs.declared.entry.Why.TheVariants.{Fault}
use Rattle.agent_journal.specs.declared.entry.Entry.{Entry}
use Rattle.agent_journal.specs.declared.effect.Effect.{Effect}
use Rattle.agent_journal.specs.declared.effect.Effect.TheVariants as f

abbrev pub is_opened : Cause → Bool
is_opened c.Opened = true
is_opened _ = false

-- The entries of each connection, which begins with its Opened. Connections are counted from 0, and their entries stand in
-- order of time.
abbrev pub connections : List Entry → List (List Entry)
connections [] = []
connections (e ∷ past) = if is_opened e.cause then connections past ++ (e ∷ []) ∷ [] else onto_last (connections past) (e ∷ [])

abbrev pub packet_in : Effect → List Packet
packet_in (f.Send packet) = packet ∷ []
packet_in _ = []

-- the packets that these effects send, and their bytes
abbrev pub sends : List Effect → List Packet
sends effects = flat_map packet_in effects

abbrev pub sent_in : List Effect → List ℕ
sent_in effects = flat_map spelling (sends effects)

abbrev pub arrives : Cause → List Packet
arrives (c.Arrived packet) = packet ∷ []
arrives _ = []

-- the bytes that an entry sends
abbrev pub sent_by : Entry → List ℕ
sent_by e = sent_in e.effects

abbrev pub sent : List Entry → List ℕ
sent entries = flat_map sent_by entries

-- A Broke Fault stands directly behind the last entry that sends, and bytes of that entry's sends are missing.
abbrev pub IsCutShort : List Entry → List ℕ → Type 0
IsCutShort entries taken =
    (before : List Entry) × (last : Entry) × (broke : Entry) × (after : List Entry) × (entries ≡ before ++ last ∷ broke ∷ after) × (broke.cause ≡ c.Broke Fault)
    × (sent (broke ∷ after) ≡ []) × (k : ℕ) × (k < length (sent_by last)) × (taken ≡ sent before ++ take k (sent_by last))

-- What a connection took is the spelling of what its entries send, or a front of it where the connection broke.
abbrev pub Wired : List Entry → List ℕ → Type 0
Wired entries taken = (taken ≡ sent entries) ⊎ IsCutShort entries taken

-- each entry's time is one of these readings
abbrev pub AreReadings : List ℕ → List Entry → Type 0
AreReadings readings [] = Unit {0}
AreReadings readings (e ∷ past) = Contains readings e.at × AreReadings readings past
