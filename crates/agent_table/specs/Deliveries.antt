-- Where the publishes stand, read off a journal (MQTT 3.1.1, sections 4.3 and 4.4).
use Rattle.std.specs.Prelude.{ℕ, Bool, true, false, ◌&&◌, not, ◌==◌, List, [], ◌∷◌, ◌++◌, if◌then◌else◌, filter}
use Rattle.std.specs.List.{list_any}
use Rattle.mqtt_packet.specs.declared.qos.Qos.{Qos}
use Rattle.mqtt_packet.specs.declared.qos.Qos.TheVariants.{AtMostOnce, AtLeastOnce, ExactlyOnce}
use Rattle.mqtt_packet.specs.declared.packet.Packet.{Packet}
use Rattle.mqtt_packet.specs.declared.packet.Packet.TheVariants as p
use Rattle.agent_journal.specs.declared.request.Request.{Request}
use Rattle.agent_journal.specs.declared.request.Request.TheVariants as requests
use Rattle.agent_journal.specs.declared.entry.Cause.{Cause}
use Rattle.agent_journal.specs.declared.entry.Cause.TheVariants as c
use Rattle.agent_journal.specs.declared.entry.Entry.{Entry}
use Rattle.agent_journal.specs.declared.setup.Setup.{Setup}
use Rattle.agent_journal.specs.Readings.{Pending, pending_of, accepted_of}
use Rattle.agent_table.specs.Sends.{sends_received}
use Rattle.agent_table.specs.Sessions.{loses_session}

abbrev pub is_at_least_once : Qos → Bool
is_at_least_once AtMostOnce = false
is_at_least_once AtLeastOnce = true
is_at_least_once ExactlyOnce = false

abbrev pub is_exactly_once : Qos → Bool
is_exactly_once AtMostOnce = false
is_exactly_once AtLeastOnce = false
is_exactly_once ExactlyOnce = true

-- a publish at such a quality of service
abbrev pub publishes : (Qos → Bool) → Request → Bool
publishes at (requests.Publish qos topic payload) = at qos
publishes at _ = false

-- whether one of the commands has this identifier and is such a publish
abbrev pub is_open_publish : (Qos → Bool) → List Pending → ℕ → Bool
is_open_publish at commands n = list_any (λ command. command.id == n && publishes at command.request) commands

abbrev pub is_among : List ℕ → ℕ → Bool
is_among ns n = list_any (λ m. m == n) ns

abbrev pub with_released : List Pending → List ℕ → ℕ → List ℕ
with_released commands released n = if is_open_publish is_exactly_once commands n && not (is_among released n) then released ++ n ∷ [] else released

abbrev pub released_by : List Pending → List ℕ → Packet → List ℕ
released_by commands released (p.PubRec id) = with_released commands released id
released_by commands released _ = released

abbrev pub released_behind : List Pending → List ℕ → Cause → List ℕ
released_behind commands released (c.Arrived packet) = released_by commands released packet
released_behind commands released _ = released

-- The open QoS 2 publishes that were released: a PUBREC of their identifier arrived. They stand in the order of the first
-- one; all other open publishes are sent.
abbrev pub released_of : List Entry → List ℕ
released_of [] = []
released_of (e ∷ past) = filter (is_open_publish is_exactly_once (pending_of (e ∷ past))) (released_behind (pending_of past) (released_of past) e.cause)

abbrev pub held_at : Qos → ℕ → Entry → List ℕ → List ℕ
held_at AtMostOnce n e held = held
held_at AtLeastOnce n e held = held
held_at ExactlyOnce n e held = if sends_received n e.effects && not (is_among held n) then held ++ n ∷ [] else held

abbrev pub held_by : Packet → Entry → List ℕ → List ℕ
held_by (p.Publish dup qos retain topic id payload) e held = held_at qos id e held
held_by (p.PubRel id) e held = filter (λ m. not (m == id)) held
held_by _ e held = held

abbrev pub held_behind : Cause → Entry → List ℕ → List ℕ
held_behind (c.Arrived packet) e held = held_by packet e held
held_behind _ e held = held

-- The identifiers of QoS 2 PUBLISHes that arrived and were answered by PUBREC, in the order in which they came, unless a
-- PUBREL of theirs came since, or the session was lost.
abbrev pub held_of : Setup → List Entry → List ℕ
held_of s [] = []
held_of s (e ∷ past) = if loses_session s (accepted_of past) e.cause then [] else held_behind e.cause e (held_of s past)
