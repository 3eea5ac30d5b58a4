-- What the broker keeps of a client's session (MQTT 3.1.1, sections 3.1.2.4, 4.3 and 4.4), and what happens to it.
use Rattle.std.specs.Prelude.{ℕ, Bool, true, false, ◌&&◌, not, ◌==◌, nat_lt, List, [], ◌∷◌, ◌++◌, map, drop, length, if◌then◌else◌, filter}
use Rattle.std.specs.List.{list_any, flat_map}
use Rattle.std.specs.Str.{bytes_eq}
use Rattle.mqtt_packet.specs.declared.qos.Qos.{Qos}
use Rattle.mqtt_packet.specs.declared.qos.Qos.TheVariants.{AtLeastOnce, ExactlyOnce}
use Rattle.mqtt_packet.specs.declared.packet.Packet.{Packet}
use Rattle.mqtt_packet.specs.declared.packet.Packet.TheVariants as p
use Rattle.mqtt_packet.specs.declared.will.Ask.{Ask}
use Rattle.mqtt_packet.specs.Flags.{level}
use Rattle.agent_table.specs.Deliveries.{is_among}
use Rattle.agent_table.specs.Identifiers.{fresh, last_or}
use Rattle.broker_core.specs.declared.delivery.Delivery.{Delivery}
use Rattle.broker_core.specs.declared.delivery.Waiting.{Waiting}
use Rattle.broker_core.specs.Copies.{publish_of, waits}
use Rattle.broker_core.specs.Subscribed.{copied_at}

pub record Session : Type 0 where
  pub client : List ℕ
  -- identifiers of QoS 2 PUBLISHes that came and whose PUBREL didn't, in the order in which they came
  pub received : List ℕ
  -- deliveries that were sent and await PUBACK or PUBREC, in the order of first sending
  pub sent : List Delivery
  -- identifiers of deliveries that await PUBCOMP, in the order of their first PUBRECs
  pub released : List ℕ
  -- copies above QoS 0 that weren't sent yet, in their order
  pub waiting : List Waiting
  -- the identifier that was drawn last, 0 where none was
  pub last_drawn : ℕ
  pub subscriptions : List Ask

abbrev pub begins : List ℕ → Session
begins client = record { client = client; received = []; sent = []; released = []; waiting = []; last_drawn = 0; subscriptions = [] }

abbrev pub is_of : List ℕ → Session → Bool
is_of client s = bytes_eq s.client client

-- ---- Deliveries

-- the identifiers of these
abbrev pub ids_of : List Delivery → List ℕ
ids_of deliveries = map (λ d. d.id) deliveries

-- the identifiers of the deliveries that aren't acknowledged
abbrev pub in_use : List Delivery → List ℕ → List ℕ
in_use sent released = ids_of sent ++ released

-- What is sent of the copies that wait, while fewer than 16 deliveries are unacknowledged. Each draws a fresh identifier
-- (section 2.3.1).
abbrev pub begun : ℕ → List ℕ → List Waiting → List Delivery
begun last used [] = []
begun last used (copy ∷ copies) =
    if nat_lt (length used) 16 then record { id = fresh last used; place = copy.place; qos = copy.qos } ∷ begun (fresh last used) (used ++ fresh last used ∷ []) copies
    else []

abbrev pub beginning : Session → List Delivery
beginning s = begun s.last_drawn (in_use s.sent s.released) s.waiting

-- the session behind it
abbrev pub refilled : Session → Session
refilled s = record s {
  sent = s.sent ++ beginning s;
  waiting = drop (length (beginning s)) s.waiting;
  last_drawn = last_or s.last_drawn (ids_of (beginning s));
}

-- and the PUBLISHes
abbrev pub first_sent : List Packet → Session → List Packet
first_sent passed s = flat_map (publish_of passed false) (beginning s)

-- What is sent again on a connection that goes on with the session (section 4.4): PUBREL of the released ones, then PUBLISH
-- with DUP 1 of those that were sent.
abbrev pub sent_again : List Packet → Session → List Packet
sent_again passed s = map (λ id. p.PubRel id) s.released ++ flat_map (publish_of passed true) s.sent

-- ---- Acknowledgements (sections 4.3.2 and 4.3.3)

-- whether this is the delivery of identifier n at such a quality of service
abbrev pub is_delivery : Qos → ℕ → Delivery → Bool
is_delivery at n d = d.id == n && level d.qos == level at

abbrev pub others : Qos → ℕ → List Delivery → List Delivery
others at n sent = filter (λ d. not (is_delivery at n d)) sent

abbrev pub without : ℕ → List ℕ → List ℕ
without n ids = filter (λ m. not (m == n)) ids

-- PUBACK ends a delivery at QoS 1
abbrev pub acknowledged : ℕ → Session → Session
acknowledged n s = record s { sent = others AtLeastOnce n s.sent }

-- whether PUBREC is answered: a delivery at QoS 2, sent or released, has the identifier
abbrev pub awaits_release : ℕ → Session → Bool
awaits_release n s = if list_any (is_delivery ExactlyOnce n) s.sent then true else is_among s.released n

-- behind a PUBREC a delivery at QoS 2 that was sent is released
abbrev pub released : ℕ → Session → Session
released n s = if list_any (is_delivery ExactlyOnce n) s.sent then record s { sent = others ExactlyOnce n s.sent; released = s.released ++ n ∷ [] } else s

-- PUBCOMP ends a released delivery
abbrev pub completed : ℕ → Session → Session
completed n s = record s { released = without n s.released }

-- ---- Messages

-- a QoS 2 PUBLISH of this identifier came
abbrev pub enters : ℕ → Session → Session
enters n s = record s { received = s.received ++ n ∷ [] }

-- a copy for the session, where a subscription fits
abbrev pub offered : Qos → List ℕ → ℕ → Session → Session
offered qos name place s = record s { waiting = s.waiting ++ waits (copied_at qos name s.subscriptions) place }
