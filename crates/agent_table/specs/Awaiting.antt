-- Which packets an agent must not send again while it awaits a PUBCOMP (MQTT 3.1.1, section 4.3.3).
use Rattle.std.specs.Prelude.{◌≡◌, ℕ, Bool, true, false, ◌&&◌, ◌||◌, not, ◌==◌, List, [], ◌∷◌}
use Rattle.std.specs.List.{list_any}
use Rattle.mqtt_packet.specs.declared.qos.Qos.{Qos}
use Rattle.mqtt_packet.specs.declared.qos.Qos.TheVariants.{AtMostOnce, AtLeastOnce, ExactlyOnce}
use Rattle.mqtt_packet.specs.declared.packet.Packet.{Packet}
use Rattle.mqtt_packet.specs.declared.packet.Packet.TheVariants as p
use Rattle.agent_journal.specs.declared.entry.Cause.{Cause}
use Rattle.agent_journal.specs.declared.entry.Cause.TheVariants as c
use Rattle.agent_journal.specs.declared.entry.Entry.{Entry}
use Rattle.agent_journal.specs.declared.effect.Effect.{Effect}
use Rattle.agent_journal.specs.Wires.{sends}
use Rattle.agent_table.specs.Deliveries.{is_among, released_of}

-- A PUBLISH has an identifier above quality of service 0 (section 2.3.1).
abbrev pub identifies : Qos → ℕ → ℕ → Bool
identifies AtMostOnce id n = false
identifies AtLeastOnce id n = id == n
identifies ExactlyOnce id n = id == n

abbrev pub is_publish_of : ℕ → Packet → Bool
is_publish_of n (p.Publish dup qos retain topic id payload) = identifies qos id n
is_publish_of n _ = false

abbrev pub is_release_of : ℕ → Packet → Bool
is_release_of n (p.PubRel id) = id == n
is_release_of n _ = false

-- whether these effects send a PUBLISH of this identifier, or its PUBREL
abbrev pub sends_publish : ℕ → List Effect → Bool
sends_publish n effects = list_any (is_publish_of n) (sends effects)

abbrev pub sends_release : ℕ → List Effect → Bool
sends_release n effects = list_any (is_release_of n) (sends effects)

abbrev pub completes_by : ℕ → Packet → Bool
completes_by n (p.ConnAck present code) = code == 0 && not present
completes_by n (p.PubComp id) = id == n
completes_by n _ = false

-- What ends the waiting for a PUBCOMP: it arrives, or a CONNACK of code 0 that has no session present (section 3.2.2.2).
abbrev pub ends_waiting : ℕ → Cause → Bool
ends_waiting n (c.Arrived packet) = completes_by n packet
ends_waiting n _ = false

-- Whether the PUBCOMP of an identifier is awaited: its PUBREL was sent, and nothing came since that ends the waiting.
abbrev pub awaits_completion : ℕ → List Entry → Bool
awaits_completion n [] = false
awaits_completion n (e ∷ past) = sends_release n e.effects || (awaits_completion n past && not (ends_waiting n e.cause))

-- No entry sends a PUBLISH of an identifier whose PUBCOMP is awaited, or whose PUBREL it sends itself.
abbrev pub NoneIsPublishedAgain : List Entry → Type 0
NoneIsPublishedAgain [] = Unit {0}
NoneIsPublishedAgain (e ∷ past) = ((n : ℕ) → (sends_release n e.effects || awaits_completion n past) ≡ true → sends_publish n e.effects ≡ false) × NoneIsPublishedAgain past

-- No entry sends a PUBLISH of an identifier that is released then.
abbrev pub NoReleasedIsSent : List Entry → Type 0
NoReleasedIsSent [] = Unit {0}
NoReleasedIsSent (e ∷ past) = ((n : ℕ) → is_among (released_of past) n ≡ true → sends_publish n e.effects ≡ false) × NoReleasedIsSent past
