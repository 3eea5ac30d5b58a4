-- The rule of a CONNECT with clean session 0 of a client whose session is kept.
use Rattle.std.proofs.Common.{◌≡◌, ℕ, Bool, true, false, List, [], ◌∷◌, ◌++◌, Some, refl}
use Rattle.std.specs.Prelude.{find}
use Rattle.std.specs.List.{position, remove}
use Rattle.std.specs.Prelude.{Result, Ok, Err, IfOk, OnOk}
use Rattle.mqtt_packet.specs.declared.packet.Packet.{Packet}
use Rattle.mqtt_packet.specs.declared.packet.Packet.TheVariants as p
use Rattle.broker_core.specs.declared.link.Link.{Link}
use Rattle.broker_core.specs.declared.link.Link.TheVariants as links
use Rattle.broker_core.specs.declared.replies.Replies.{Replies}
use Rattle.broker_core.specs.Kept.{keeps}
use Rattle.broker_core.specs.Session.{Session, is_of, begins, refilled, sent_again, first_sent}
use Rattle.broker_core.specs.Rules.{accepted, finish, session_at}
use Rattle.broker_core.proofs.Taking.{found_at, first_taken}

pub goes_on : (clean : Bool) (client : List ℕ) (link new_link : Link) (others left : List Session) (passed : List Packet) (place : ℕ) (r : Replies) → clean ≡ false → position (is_of client) others ≡ Some place
    → r ≡ record { packets = p.ConnAck true 0 ∷ (sent_again passed (session_at place others) ++ first_sent passed (session_at place others)); close = false }
    → new_link ≡ links.Accepted false (refilled (session_at place others)) → left ≡ remove others place
    → accepted clean client (find (is_of client) others) (keeps link others passed) ≡ finish r.close r.packets (keeps new_link left passed)
goes_on clean client link new_link others left passed place r other at replies is without =
    rw (other, found_at (is_of client) others place (begins []) at, replies, is, without, first_taken (is_of client) others place (session_at place others) at) refl

pub with_both : {T E : Type 0} (r : Result T E) (P Q : T → Type 0) (A B : Type 0) → ((x : T) → P x → A → B → Q x) → IfOk r P → OnOk r A → OnOk r B → IfOk r Q
with_both (Ok x) P Q A B f p a b = f x p a b
with_both (Err e) P Q A B f p a b = tt
