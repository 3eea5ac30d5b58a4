-- A worked exchange.
use Rattle.std.specs.Prelude.{◌≡◌, ℕ, true, false, List, [], ◌∷◌, None, codes}
use Rattle.mqtt_packet.specs.declared.qos.Qos.TheVariants.{AtLeastOnce, ExactlyOnce}
use Rattle.mqtt_packet.specs.declared.packet.Packet.{Packet}
use Rattle.mqtt_packet.specs.declared.packet.Packet.TheVariants as p
use Rattle.broker_core.specs.Past.{Event, Begins, Comes, kept_of, reply, IsPast}

abbrev name : List ℕ
name = codes "a/b"

abbrev message : List ℕ
message = codes "hi"

-- ---- A client that subscribes at QoS 1, and publishes at QoS 2, with a repeat before its PUBREL

abbrev connect : Packet
connect = p.Connect false 60 (codes "dev") None None None

abbrev subscribe : Packet
subscribe = p.Subscribe 1 (record { filter = name; qos = AtLeastOnce } ∷ [])

abbrev publish : Packet
publish = p.Publish false ExactlyOnce false name 5 message

abbrev repeat : Packet
repeat = p.Publish true ExactlyOnce false name 5 message

abbrev begun : List Event
begun = Begins ∷ []

abbrev connected : List Event
connected = Comes connect ∷ begun

abbrev subscribed : List Event
subscribed = Comes subscribe ∷ connected

abbrev published : List Event
published = Comes publish ∷ subscribed

abbrev repeated : List Event
repeated = Comes repeat ∷ published

abbrev released : List Event
released = Comes (p.PubRel 5) ∷ repeated

abbrev left : List Event
left = Comes p.Disconnect ∷ released

abbrev Sends : List Event → Packet → List Packet → Type 0
Sends past packet packets = ((reply past (Comes packet)).packets ≡ packets) × ((reply past (Comes packet)).close ≡ false)

-- The events may come, and these are the replies. The message was passed on once, and the session is kept.
pub record IsPassedOnce : Type 0 where
  pub possible : IsPast left
  pub accepts : Sends begun connect (p.ConnAck false 0 ∷ [])
  pub grants : Sends connected subscribe (p.SubAck 1 (1 ∷ []) ∷ [])
  pub passes : Sends subscribed publish (p.PubRec 5 ∷ p.Publish false AtLeastOnce false name 1 message ∷ [])
  pub answers : Sends published repeat (p.PubRec 5 ∷ [])
  pub releases : Sends repeated (p.PubRel 5) (p.PubComp 5 ∷ [])
  pub closes : ((reply released (Comes p.Disconnect)).packets ≡ []) × ((reply released (Comes p.Disconnect)).close ≡ true)
  pub passed : (kept_of left).passed ≡ publish ∷ []
