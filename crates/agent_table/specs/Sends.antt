-- Which packets an entry sends.
use Rattle.std.specs.Prelude.{ℕ, Bool, true, false, ◌==◌, List, [], ◌∷◌}
use Rattle.std.specs.List.{list_any, flat_map}
use Rattle.mqtt_packet.specs.declared.packet.Packet.{Packet}
use Rattle.mqtt_packet.specs.declared.packet.Packet.TheVariants as p
use Rattle.mqtt_packet.specs.declared.qos.Qos.{Qos}
use Rattle.mqtt_packet.specs.declared.qos.Qos.TheVariants.{AtMostOnce, AtLeastOnce, ExactlyOnce}
use Rattle.agent_journal.specs.declared.effect.Effect.{Effect}
use Rattle.agent_journal.specs.Wires.{sends}

abbrev pub is_some_packet : List Packet → Bool
is_some_packet [] = false
is_some_packet (packet ∷ packets) = true

abbrev pub has_send : List Effect → Bool
has_send effects = is_some_packet (sends effects)

abbrev pub is_ping : Packet → Bool
is_ping p.PingReq = true
is_ping _ = false

abbrev pub sends_ping : List Effect → Bool
sends_ping effects = list_any is_ping (sends effects)

abbrev pub is_received : ℕ → Packet → Bool
is_received n (p.PubRec id) = id == n
is_received n _ = false

-- whether a PUBREC of this identifier is sent
abbrev pub sends_received : ℕ → List Effect → Bool
sends_received n effects = list_any (is_received n) (sends effects)

-- The identifier that a packet of a first sending draws: a SUBSCRIBE's, an UNSUBSCRIBE's, and that of a PUBLISH above
-- quality of service 0 which isn't sent again.
abbrev pub drawn_at : Bool → Qos → ℕ → List ℕ
drawn_at true qos id = []
drawn_at false AtMostOnce id = []
drawn_at false AtLeastOnce id = id ∷ []
drawn_at false ExactlyOnce id = id ∷ []

abbrev pub drawn_by : Packet → List ℕ
drawn_by (p.Publish dup qos retain topic id payload) = drawn_at dup qos id
drawn_by (p.Subscribe id asks) = id ∷ []
drawn_by (p.Unsubscribe id filters) = id ∷ []
drawn_by _ = []

abbrev pub drawn_in : List Effect → List ℕ
drawn_in effects = flat_map drawn_by (sends effects)
