-- Laws of the definitions, each the contract of a function that does nothing.
use Rattle.std.specs.Prelude.{◌≡◌, ℕ, ◌≤◌, ◌==◌, true, false, Bool, count_by, List, [], ◌∷◌, ◌++◌, length}
use Rattle.std.specs.List.{AllByRecursion}
use Rattle.mqtt_packet.specs.declared.qos.Qos.TheVariants.{ExactlyOnce}
use Rattle.mqtt_packet.specs.declared.packet.Packet.{Packet}
use Rattle.mqtt_packet.specs.declared.packet.Packet.TheVariants as p
use Rattle.mqtt_packet.specs.Spelling.{is_sound}
use Rattle.topic_filter.specs.Texts.{is_name}
use Rattle.agent_table.specs.Deliveries.{is_among}
use Rattle.broker_core.specs.declared.delivery.Delivery.{Delivery}
use Rattle.broker_core.specs.declared.link.Link.{Link}
use Rattle.broker_core.specs.declared.link.Link.TheVariants.{Gone, Opened, Accepted}
use Rattle.broker_core.specs.Kept.{Kept}
use Rattle.broker_core.specs.Past.{Event, kept_of, reply, IsPast, MayCome}
use Rattle.broker_core.specs.Rules.{Answer, rule}
use Rattle.broker_core.specs.Session.{Session, is_of, in_use, beginning}

-- ---- Sessions

abbrev pub session_on : Link → List Session
session_on Gone = []
session_on Opened = []
session_on (Accepted clean s) = s ∷ []

-- the session of the connection, and those without one
abbrev pub sessions : Kept → List Session
sessions k = session_on k.link ++ k.others

-- Behind each list of events there are at most 64 sessions.
abbrev pub SessionsAreFew : Type 0
SessionsAreFew = (past : List Event) → IsPast past → length (sessions (kept_of past)) ≤ 64

-- A client has at most one.
abbrev pub ClientsDiffer : Type 0
ClientsDiffer = (past : List Event) → IsPast past → (client : List ℕ) → count_by (is_of client) (sessions (kept_of past)) ≤ 1

-- ---- Deliveries

-- how many unacknowledged deliveries of the session have this identifier
abbrev pub uses_of : ℕ → Session → ℕ
uses_of n s = count_by (λ m. m == n) (in_use s.sent s.released)

-- No two unacknowledged deliveries of a session have the same identifier, and there are at most 16. The identifier that was
-- drawn last is a number of 16 bits.
pub record IsWithinWindow (s : Session) : Type 0 where
  pub differ : (n : ℕ) → uses_of n s ≤ 1
  pub most : length (in_use s.sent s.released) ≤ 16
  pub drawn : s.last_drawn ≤ 65535

abbrev pub WindowsHold : Type 0
WindowsHold = (past : List Event) → IsPast past → AllByRecursion IsWithinWindow (sessions (kept_of past))

-- The identifier that a delivery draws is none of those of the session's unacknowledged deliveries.
abbrev pub IsFreshIn : Session → Delivery → Type 0
IsFreshIn s d = is_among (in_use s.sent s.released) d.id ≡ false

abbrev pub DrawnAreFresh : Type 0
DrawnAreFresh = (s : Session) → IsWithinWindow s → AllByRecursion (IsFreshIn s) (beginning s)

-- ---- QoS 2 (MQTT 3.1.1, section 4.3.3)

-- A QoS 2 PUBLISH whose identifier is in the received list isn't passed on.
abbrev pub RepeatsArentPassed : Type 0
RepeatsArentPassed =
    (clean dup retain : Bool) (s : Session) (topic payload : List ℕ) (id : ℕ) (k : Kept) → is_among s.received id ≡ true → (rule clean s (p.Publish dup ExactlyOnce retain topic id payload) k).kept.passed ≡ k.passed

-- the received list of the connection's session
abbrev pub received_on : Link → List ℕ
received_on Gone = []
received_on Opened = []
received_on (Accepted clean s) = s.received

-- Where it is passed on, it is passed on once, and its identifier is in the received list from then on.
pub record IsPassedAndEntered (message : Packet) (id : ℕ) (k : Kept) (a : Answer) : Type 0 where
  pub once : a.kept.passed ≡ k.passed ++ message ∷ []
  pub entered : is_among (received_on a.kept.link) id ≡ true

abbrev pub FirstsAreEntered : Type 0
FirstsAreEntered =
    (clean dup retain : Bool) (s : Session) (topic payload : List ℕ) (id : ℕ) (k : Kept) → is_among s.received id ≡ false → is_name topic ≡ true
    → IsPassedAndEntered (p.Publish dup ExactlyOnce retain topic id payload) id k (rule clean s (p.Publish dup ExactlyOnce retain topic id payload) k)

-- ---- Packets

-- The packets of all replies have a spelling.
abbrev pub IsSound : Packet → Type 0
IsSound packet = is_sound packet ≡ true

abbrev pub RepliesAreSound : Type 0
RepliesAreSound = (past : List Event) (event : Event) → IsPast past → MayCome event (kept_of past) → AllByRecursion IsSound (reply past event).packets
