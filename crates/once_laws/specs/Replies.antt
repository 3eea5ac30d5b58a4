-- What a PUBACK of the broker says, over the list of its events (MQTT 3.1.1, section 4.3.2).
use Rattle.std.specs.Prelude.{◌≡◌, ℕ, ◌≤◌, true, List, [], ◌∷◌, ◌++◌, count_by}
use Rattle.mqtt_packet.specs.declared.packet.Packet.{Packet}
use Rattle.broker_core.specs.Past.{Event, Comes, reply, kept_of}
use Rattle.once_laws.specs.Followed.{acknowledges, publishes_first}

-- The broker answers a packet with a PUBACK of an identifier only where it is a PUBLISH at quality of service 1 with
-- this identifier, and then it passes it on.
pub record IsForPassed (n : ℕ) (past : List Event) (packet : Packet) : Type 0 where
  pub publish : publishes_first n packet ≡ true
  pub one : count_by (acknowledges n) (reply past (Comes packet)).packets ≡ 1
  pub passed : (kept_of (Comes packet ∷ past)).passed ≡ (kept_of past).passed ++ packet ∷ []

abbrev pub AcknowledgedArePassedOn : Type 0
AcknowledgedArePassedOn = (past : List Event) (packet : Packet) (n : ℕ) → 1 ≤ count_by (acknowledges n) (reply past (Comes packet)).packets → IsForPassed n past packet
