-- The worked journals of renewals, by computation.
use Rattle.std.proofs.Common.{◌≡◌, ℕ, List, [], ◌∷◌, Option, Some, refl, ap, arith}
use Rattle.std.specs.Str as str
use lib.Utf8 as utf8
use Rattle.mqtt_packet.specs.Spelling as spelling
use Rattle.topic_filter.specs.Fitting as fitting
use Rattle.topic_filter.specs.Texts as texts
use Rattle.agent_table.specs.Arrivals as arrivals
use Rattle.agent_table.specs.Breaks as breaks
use Rattle.agent_table.specs.Identifiers as identifiers
use Rattle.agent_journal.specs.Requests as requests
use Rattle.agent_table.specs.Table as table
use Rattle.agent_table.specs.Takes as takes
use Rattle.mqtt_packet.specs.declared.packet.Packet.{Packet}
use Rattle.mqtt_packet.specs.declared.packet.Packet.TheVariants as p
use Rattle.mqtt_packet.specs.declared.qos.Qos.{Qos}
use Rattle.mqtt_packet.specs.declared.qos.Qos.TheVariants.{AtMostOnce, AtLeastOnce, ExactlyOnce}
use Rattle.mqtt_packet.specs.declared.will.Ask.{Ask}
use Rattle.agent_journal.specs.declared.effect.Effect.{Effect}
use Rattle.agent_journal.specs.declared.effect.Effect.TheVariants as f
use Rattle.agent_table.specs.WorkedRenewals.{ManyAreRenewed, GrantsOutlive}

-- ---- What the first packet that is sent asks for first

abbrev asks_in : Packet → List Ask
asks_in (p.Subscribe id asks) = asks
asks_in _ = []

abbrev asked : Option (List Effect) → List Ask
asked (Some (f.Send packet ∷ effects)) = asks_in packet
asked _ = []

abbrev byte_of : List ℕ → ℕ
byte_of [] = 0
byte_of (b ∷ bytes) = b

abbrev first_byte : List Ask → ℕ
first_byte [] = 0
first_byte (ask ∷ asks) = byte_of ask.filter

abbrev first_qos : List Ask → Qos
first_qos [] = AtMostOnce
first_qos (ask ∷ asks) = ask.qos

bytes_differ : (a c : ℕ) → a ≡ 97 → c ≡ 99 → a ≡ c → ⊥
bytes_differ a c is other e = omega (arith, is, other, e)

qualities_differ : ExactlyOnce ≡ AtLeastOnce → ⊥
qualities_differ e = absurd (cc e)

pub many_are_renewed : ManyAreRenewed
unfolding spelling.groups str.is_utf8 str.chars utf8.encode texts.is_name texts.is_filter fitting.fits table.row_of requests.is_valid identifiers.fresh arrivals.arrived_row arrivals.connack_row arrivals.publish_row
    arrivals.puback_row arrivals.pubrec_row arrivals.pubcomp_row arrivals.suback_row arrivals.unsuback_row breaks.opened_row breaks.end_row breaks.idle_row breaks.tick_row breaks.finish_row takes.take_row takes.may_take
    takes.publish_row takes.subscribe_row takes.unsubscribe_row
many_are_renewed = record {
  nine_legal = (refl, (refl, (refl, (refl, (refl, (refl, (refl, (refl, (refl, tt)))))))));
  in_one_packet = λ h. absurd (cc h.0);
  in_the_order_of_asking = λ h. bytes_differ 97 99 refl refl (ap (λ found. first_byte (asked found)) h.0);
}

pub grants_outlive : GrantsOutlive
unfolding spelling.groups str.is_utf8 str.chars utf8.encode texts.is_name texts.is_filter fitting.fits table.row_of requests.is_valid identifiers.fresh arrivals.arrived_row arrivals.connack_row arrivals.publish_row
    arrivals.puback_row arrivals.pubrec_row arrivals.pubcomp_row arrivals.suback_row arrivals.unsuback_row breaks.opened_row breaks.end_row breaks.idle_row breaks.tick_row breaks.finish_row takes.take_row takes.may_take
    takes.publish_row takes.subscribe_row takes.unsubscribe_row
grants_outlive = record {
  outlived_legal = (refl, (refl, (refl, (refl, (refl, (refl, (refl, (refl, (refl, (refl, (refl, tt)))))))))));
  of_the_route_alone = λ h. qualities_differ (ap (λ found. first_qos (asked found)) h.0);
}
