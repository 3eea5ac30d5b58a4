-- A QoS 2 PUBLISH is passed on where its identifier isn't in the received list, which it then enters.
use Rattle.std.proofs.Common.{◌≡◌, ℕ, Bool, true, false, List, [], ◌∷◌, ◌++◌, refl}
use Rattle.std.specs.Prelude.{◌==◌}
use Rattle.std.proofs.lemmas.Bool.{eq-eqb}
use Rattle.mqtt_packet.specs.declared.packet.Packet.TheVariants as p
use Rattle.mqtt_packet.specs.declared.qos.Qos.TheVariants.{ExactlyOnce}
use Rattle.topic_filter.specs.Texts.{is_name}
use Rattle.agent_table.specs.Deliveries.{is_among}
use Rattle.broker_core.specs.Rules.{rule}
use Rattle.broker_core.specs.Laws.{RepeatsArentPassed, FirstsAreEntered}

pub repeats_arent_passed : RepeatsArentPassed
repeats_arent_passed clean dup retain s topic payload id k among = go (is_name topic) refl
  where
    go : (b : Bool) → is_name topic ≡ b → (rule clean s (p.Publish dup ExactlyOnce retain topic id payload) k).kept.passed ≡ k.passed
    go true e = rw (e, among) refl
    go false e = rw e refl

last_among : (ids : List ℕ) (id : ℕ) → is_among (ids ++ id ∷ []) id ≡ true
last_among [] id = rw (eq-eqb id id refl) refl
last_among (n ∷ ids) id = go (n == id) refl (last_among ids id)
  where
    go : (b : Bool) → (n == id) ≡ b → is_among (ids ++ id ∷ []) id ≡ true → is_among (n ∷ ids ++ id ∷ []) id ≡ true
    go true e rest = rw e refl
    go false e rest = rw e rest

pub firsts_are_entered : FirstsAreEntered
firsts_are_entered clean dup retain s topic payload id k new name = rw (name, new) (record { once = refl; entered = last_among s.received id })
