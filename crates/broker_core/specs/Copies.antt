-- The messages that were passed on, and the PUBLISHes that carry copies of them (MQTT 3.1.1, section 3.3).
use Rattle.std.specs.Prelude.{ℕ, Bool, false, List, [], ◌∷◌, map, Option, Some, None, slice_get}
use Rattle.std.specs.Option.{option_to_list}
use Rattle.mqtt_packet.specs.declared.qos.Qos.{Qos}
use Rattle.mqtt_packet.specs.declared.qos.Qos.TheVariants.{AtMostOnce, AtLeastOnce, ExactlyOnce}
use Rattle.mqtt_packet.specs.declared.packet.Packet.{Packet}
use Rattle.mqtt_packet.specs.declared.packet.Packet.TheVariants as p
use Rattle.broker_core.specs.declared.delivery.Delivery.{Delivery}
use Rattle.broker_core.specs.declared.delivery.Waiting.{Waiting}

-- A PUBLISH of the message with DUP, quality of service and identifier of its own, and RETAIN 0 (MQTT-3.3.1-9). Nothing but
-- messages is passed on.
abbrev pub copy_of : Bool → Qos → ℕ → Packet → Packet
copy_of again at n (p.Publish dup qos retain topic id payload) = p.Publish again at false topic n payload
copy_of again at n other = other

-- the PUBLISH of a delivery, whose message stands at its place among those that were passed on
abbrev pub publish_of : List Packet → Bool → Delivery → List Packet
publish_of passed again d = map (copy_of again d.qos d.id) (option_to_list (slice_get passed d.place))

-- A copy at quality of service 0 is sent at once or not at all; it needs no identifier.
abbrev pub sent_at_once : Option Qos → Packet → List Packet
sent_at_once None message = []
sent_at_once (Some AtMostOnce) message = copy_of false AtMostOnce 0 message ∷ []
sent_at_once (Some AtLeastOnce) message = []
sent_at_once (Some ExactlyOnce) message = []

-- any other waits first
abbrev pub waits : Option Qos → ℕ → List Waiting
waits None place = []
waits (Some AtMostOnce) place = []
waits (Some AtLeastOnce) place = record { place = place; qos = AtLeastOnce } ∷ []
waits (Some ExactlyOnce) place = record { place = place; qos = ExactlyOnce } ∷ []
