-- The worked examples.
use Rattle.std.proofs.Common.{◌≡◌, ℕ, true, false, List, [], ◌∷◌, Some, None, refl, subst, arith}
use Rattle.std.specs.Prelude.{codes}
use Rattle.mqtt_packet.specs.declared.packet.Packet.{Packet}
use Rattle.mqtt_packet.specs.declared.packet.Packet.TheVariants as p
use Rattle.mqtt_packet.specs.declared.qos.Qos.TheVariants.{AtMostOnce, ExactlyOnce}
use Rattle.mqtt_packet.specs.declared.front.Verdict.TheVariants as verdicts
use Rattle.mqtt_packet.specs.Grammar.{Spells}
use Rattle.mqtt_packet.specs.Spelling.{groups, spelling, is_string, is_sound, IsOfItsTypes}
use Rattle.mqtt_packet.specs.Reading.{kind_of, publish_kind, qos_of, remaining_in, identifier_of, identifier_at, number_at, suback_of}
use Rattle.mqtt_packet.specs.Fronts.{front_of, frame_of}
use Rattle.mqtt_packet.specs.Examples.{a_will, an_ask, ConnectsAreSpelled, MessagesAreSpelled, SubscriptionsAreSpelled, VerdictsAreThese}
use Rattle.mqtt_packet.proofs.Numbers.{plain_string, bytes_are}
use Rattle.mqtt_packet.proofs.Fronts.{spell_is}
use Rattle.mqtt_packet.proofs.Verdicts.{verdict_is, more_is}

shown : (packet : Packet) (bytes : List ℕ) → is_sound packet ≡ true → IsOfItsTypes packet → spelling packet ≡ bytes → Spells packet bytes
shown packet bytes sound fits e = subst (λ (t : List ℕ). Spells packet t) e (spell_is packet sound fits)

dev : is_string (codes "dev") ≡ true
dev = plain_string (codes "dev") (omega arith) refl

gone : is_string (codes "gone") ≡ true
gone = plain_string (codes "gone") (omega arith) refl

me : is_string (codes "me") ≡ true
me = plain_string (codes "me") (omega arith) refl

a : is_string (codes "a") ≡ true
a = plain_string (codes "a") (omega arith) refl

a_b : is_string (codes "a/b") ≡ true
a_b = plain_string (codes "a/b") (omega arith) refl

a_plus : is_string (codes "a/+") ≡ true
a_plus = plain_string (codes "a/+") (omega arith) refl

pub connects_are_spelled : ConnectsAreSpelled
unfolding groups
connects_are_spelled = (
  shown (p.Connect false 60 (codes "dev") None None None) _ (rw dev refl) (omega arith) refl,
  shown (p.Connect true 9 (codes "dev") (Some a_will) (Some (codes "me")) (Some (codes "pw"))) _ (rw (me, gone, dev) refl) (omega arith) refl,
  shown (p.ConnAck true 0) _ refl tt refl,
)

pub messages_are_spelled : MessagesAreSpelled
unfolding groups
messages_are_spelled = (
  shown (p.Publish false AtMostOnce false (codes "a/b") 0 (codes "hi")) _ (rw a_b refl) (omega arith) refl,
  shown (p.Publish true ExactlyOnce false (codes "a") 1 (codes "x")) _ (rw a refl) (omega arith) refl,
  shown (p.PubAck 1) _ refl (omega arith) refl,
  shown (p.PubRec 2) _ refl (omega arith) refl,
  shown (p.PubRel 258) _ refl (omega arith) refl,
  shown (p.PubComp 4) _ refl (omega arith) refl,
)

pub subscriptions_are_spelled : SubscriptionsAreSpelled
unfolding groups
subscriptions_are_spelled = (
  shown (p.Subscribe 5 (an_ask ∷ [])) _ (rw a_plus refl) (omega arith) refl,
  shown (p.SubAck 6 (0 ∷ 128 ∷ [])) _ refl (omega arith) refl,
  shown (p.Unsubscribe 7 (codes "a/+" ∷ [])) _ (rw a_plus refl) (omega arith) refl,
  shown (p.UnsubAck 8) _ refl (omega arith) refl,
  shown p.PingReq _ refl tt refl,
  shown p.PingResp _ refl tt refl,
  shown p.Disconnect _ refl tt refl,
)

pub verdicts_are_these : VerdictsAreThese
unfolding front_of frame_of kind_of publish_kind qos_of remaining_in identifier_of identifier_at number_at suback_of
verdicts_are_these = (
  verdict_is (54 ∷ []) verdicts.Bad (bytes_are (54 ∷ []) refl) refl,
  verdict_is (56 ∷ []) verdicts.Bad (bytes_are (56 ∷ []) refl) refl,
  verdict_is (192 ∷ 128 ∷ 0 ∷ []) verdicts.Bad (bytes_are (192 ∷ 128 ∷ 0 ∷ []) refl) refl,
  verdict_is (64 ∷ 2 ∷ 0 ∷ 0 ∷ []) verdicts.Bad (bytes_are (64 ∷ 2 ∷ 0 ∷ 0 ∷ []) refl) refl,
  verdict_is (144 ∷ 3 ∷ 0 ∷ 1 ∷ 3 ∷ []) verdicts.Bad (bytes_are (144 ∷ 3 ∷ 0 ∷ 1 ∷ 3 ∷ []) refl) refl,
  verdict_is (48 ∷ 255 ∷ 255 ∷ 255 ∷ 127 ∷ []) (verdicts.TooLong 268435460) (bytes_are (48 ∷ 255 ∷ 255 ∷ 255 ∷ 127 ∷ []) refl) refl,
  more_is [] (bytes_are [] refl) refl,
  more_is (192 ∷ 128 ∷ []) (bytes_are (192 ∷ 128 ∷ []) refl) refl,
  more_is (48 ∷ 7 ∷ 0 ∷ 3 ∷ []) (bytes_are (48 ∷ 7 ∷ 0 ∷ 3 ∷ []) refl) refl,
)
