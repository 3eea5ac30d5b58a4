-- What is counted of a world.
use Rattle.std.specs.Prelude.{ℕ, ◌+◌, Bool, true, false, List, [], ◌∷◌, count_by, if◌then◌else◌, codes}
use Rattle.std.specs.Str.{bytes_eq}
use Rattle.mqtt_packet.specs.declared.packet.Packet.{Packet}
use Rattle.mqtt_packet.specs.declared.packet.Packet.TheVariants as p
use Rattle.agent_journal.specs.declared.entry.Cause.{Cause}
use Rattle.agent_journal.specs.declared.entry.Cause.TheVariants as c
use Rattle.agent_journal.specs.declared.entry.Entry.{Entry}
use Rattle.agent_journal.specs.declared.effect.Effect.{Effect}
use Rattle.agent_journal.specs.declared.effect.Effect.TheVariants as f
use Rattle.agent_table.specs.Effects.{is_publish}
use Rattle.agent_table.specs.Routes.{is_done}
use Rattle.session_world.specs.World.{World, entries, kept}
use Rattle.session_world.specs.declared.totals.Totals.{Totals}

-- ---- Of an entry

abbrev pub takes_publish : Cause → Bool
takes_publish (c.Take task seq request) = is_publish request
takes_publish _ = false

-- whether its outcomes are of publishes: those of their own Takes, and those that PUBACK and PUBCOMP bring (MQTT 3.1.1,
-- section 4.3)
abbrev pub acknowledges_publish : Packet → Bool
acknowledges_publish (p.PubAck id) = true
acknowledges_publish (p.PubComp id) = true
acknowledges_publish _ = false

abbrev pub completes_publish : Cause → Bool
completes_publish (c.Take task seq request) = is_publish request
completes_publish (c.Arrived packet) = acknowledges_publish packet
completes_publish _ = false

abbrev pub says_done : Effect → Bool
says_done (f.Done task seq outcome) = is_done outcome
says_done _ = false

abbrev pub is_pass : Effect → Bool
is_pass (f.Pass task message) = true
is_pass _ = false

abbrev pub published_by : Entry → ℕ
published_by e = if takes_publish e.cause then 1 else 0

abbrev pub done_by : Entry → ℕ
done_by e = if completes_publish e.cause then count_by says_done e.effects else 0

abbrev pub told_by : Entry → ℕ
told_by e = count_by is_pass e.effects

-- ---- Of a journal

abbrev pub total : (Entry → ℕ) → List Entry → ℕ
total count [] = 0
total count (e ∷ past) = total count past + count e

-- ---- Of the broker

abbrev pub out_topic : List ℕ
out_topic = codes "out/a"

abbrev pub is_on : List ℕ → Packet → Bool
is_on topic (p.Publish dup qos retain name id payload) = bytes_eq name topic
is_on topic _ = false

-- ---- Of a world: the publishes that were taken and those that are done, the messages on out/a that the broker passed on and
-- those that it published itself, the messages that the task was told, and the breaks.
abbrev pub totals : World → Totals
totals w = record {
  taken = total published_by (entries w);
  done = total done_by (entries w);
  passed = count_by (is_on out_topic) (kept w).passed;
  own = w.own;
  told = total told_by (entries w);
  breaks = w.breaks;
}
