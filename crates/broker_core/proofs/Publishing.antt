-- Which rule of a PUBLISH applies, and that of a session that goes on.
use Rattle.std.proofs.Common.{◌≡◌, ℕ, Bool, true, false, List, [], ◌∷◌, refl, sym, ap, ◌∙◌}
use Rattle.std.specs.Prelude.{Result, Ok, Err, IfOk, ◌++◌}
use Rattle.mqtt_packet.specs.declared.qos.Qos.{Qos}
use Rattle.mqtt_packet.specs.declared.qos.Qos.TheVariants.{AtMostOnce, AtLeastOnce, ExactlyOnce}
use Rattle.mqtt_packet.specs.declared.packet.Packet.{Packet}
use Rattle.mqtt_packet.specs.declared.packet.Packet.TheVariants as p
use Rattle.topic_filter.specs.Texts.{is_name}
use Rattle.agent_table.specs.Deliveries.{is_among}
use Rattle.broker_core.specs.declared.answers.Answered.{Answered}
use Rattle.broker_core.specs.declared.link.Link.{Link}
use Rattle.broker_core.specs.declared.link.Link.TheVariants.{Accepted}
use Rattle.broker_core.specs.Kept.{Kept, keeps}
use Rattle.broker_core.specs.Session.{Session, enters}
use Rattle.broker_core.specs.Rules.{Answer, passes_own, publish, publish_at, passes_on, passed_with, finish, goes_on}

pub at_most_once : (qos : Qos) (clean : Bool) (s : Session) (topic : List ℕ) (id : ℕ) (message : Packet) (k : Kept) (packets : List Packet) → qos ≡ AtMostOnce → is_name topic ≡ true → packets ≡ []
    → publish qos clean s topic id message k ≡ passes_on packets clean s qos topic message k
at_most_once qos clean s topic id message k packets is name none = rw (is, name, none) refl

pub at_least_once : (qos : Qos) (clean : Bool) (s : Session) (topic : List ℕ) (id : ℕ) (message : Packet) (k : Kept) (packets : List Packet) → qos ≡ AtLeastOnce → is_name topic ≡ true → packets ≡ p.PubAck id ∷ []
    → publish qos clean s topic id message k ≡ passes_on packets clean s qos topic message k
at_least_once qos clean s topic id message k packets is name acknowledged = rw (is, name, acknowledged) refl

pub first_time : (clean : Bool) (s entered : Session) (topic : List ℕ) (id : ℕ) (message : Packet) (k : Kept) (packets : List Packet) → is_among s.received id ≡ false → entered ≡ enters id s → packets ≡ p.PubRec id ∷ []
    → publish_at ExactlyOnce clean s topic id message k ≡ passes_on packets clean entered ExactlyOnce topic message k
first_time clean s entered topic id message k packets new is received = rw (new, is, received) refl

-- what was passed on, as the answer of the rule that passes it on
pub passed_on : {E : Type 0} (r : Result Answered E) (first : Bool → Answer) (passes : Bool → Link → Answer) (before after : Bool → Link) (others : List Session) (passed : List Packet) (message : Packet) → ((clean : Bool) → first clean ≡ passes clean (before clean))
    → IfOk r (λ a. (clean : Bool) (link : Link) → passes clean link ≡ goes_on a.replies.packets (keeps (after clean) others (passed ++ message ∷ []))) → IfOk r (λ a. (a.replies.close ≡ false) × (a.passes ≡ true))
    → IfOk r (λ a. (clean : Bool) → first clean ≡ finish a.replies.close a.replies.packets (keeps (after clean) others (passed_with a.passes message passed)))
passed_on (Ok a) first passes before after others passed message same answer says = λ clean. same clean ∙ answer clean (before clean) ∙ rw (says.0, says.1) refl
passed_on (Err e) first passes before after others passed message same answer says = tt

pub own_passed : (link : Link) (clean : Bool) (s : Session) (qos : Qos) (topic : List ℕ) (message : Packet) (k kept : Kept) (packets sent : List Packet) (close : Bool) → link ≡ Accepted clean s → packets ≡ [] → close ≡ false
    → passes_on packets clean s qos topic message k ≡ goes_on sent kept → passes_own link qos topic message k ≡ record { packets = sent; close = close; kept = kept }
own_passed link clean s qos topic message k kept packets sent close is none goes e =
    rw is (ap (λ first. passes_on first clean s qos topic message k) (sym none) ∙ e ∙ ap (λ b. record { packets = sent; close = b; kept = kept }) (sym goes))
