-- The spelling and its reading: what is spelled is read as the packet, and what is read is the packet's spelling.
use Rattle.std.proofs.Common.{◌≡◌, ℕ, ◌<◌, Bool, true, false, cond, eqb, List, [], ◌∷◌, ◌++◌, Option, Some, None, refl, ap, subst, ◌∙◌}
use Rattle.std.specs.Prelude.{◌&&◌, ◌||◌, not, nat_le}
use Rattle.std.proofs.lemmas.Bool.{eqb-true, and_parts, and_from, or_right, not-true, not_from_false, agree_below_at}
use Rattle.std.proofs.lemmas.List.{append-nil}
use Rattle.mqtt_packet.specs.declared.qos.Qos.{Qos}
use Rattle.mqtt_packet.specs.declared.qos.Qos.TheVariants.{AtMostOnce, AtLeastOnce, ExactlyOnce}
use Rattle.mqtt_packet.specs.declared.packet.Packet.{Packet}
use Rattle.mqtt_packet.specs.declared.packet.Packet.TheVariants as p
use Rattle.mqtt_packet.specs.declared.kind.Kind.{Kind}
use Rattle.mqtt_packet.specs.declared.kind.Kind.TheVariants as kinds
use Rattle.mqtt_packet.specs.Flags.{bit}
use Rattle.mqtt_packet.specs.Spelling.{number, first, publish_first, is_identifier}
use Rattle.mqtt_packet.specs.Reading.{number_at, identifier_at, whole, qos_of, may_repeat, publish_kind, kind_of, connack_of, identifier_of}
use Rattle.mqtt_packet.specs.Stream.{AreBytes}
use Rattle.mqtt_packet.proofs.Numbers.{bind_some, some_is, not_refused, Takes, number_read, number_took}

-- ---- First bytes

-- the kind of a packet, and the first byte of a kind
abbrev pub kind : Packet → Kind
kind (p.Connect clean keep_alive client will user password) = kinds.Connect
kind (p.ConnAck present code) = kinds.ConnAck
kind (p.Publish dup qos retain topic id payload) = kinds.Publish dup qos retain
kind (p.PubAck id) = kinds.PubAck
kind (p.PubRec id) = kinds.PubRec
kind (p.PubRel id) = kinds.PubRel
kind (p.PubComp id) = kinds.PubComp
kind (p.Subscribe id asks) = kinds.Subscribe
kind (p.SubAck id return_codes) = kinds.SubAck
kind (p.Unsubscribe id filters) = kinds.Unsubscribe
kind (p.UnsubAck id) = kinds.UnsubAck
kind p.PingReq = kinds.PingReq
kind p.PingResp = kinds.PingResp
kind p.Disconnect = kinds.Disconnect

abbrev pub head_of : Kind → ℕ
head_of kinds.Connect = 16
head_of kinds.ConnAck = 32
head_of (kinds.Publish dup qos retain) = publish_first dup qos retain
head_of kinds.PubAck = 64
head_of kinds.PubRec = 80
head_of kinds.PubRel = 98
head_of kinds.PubComp = 112
head_of kinds.Subscribe = 130
head_of kinds.SubAck = 144
head_of kinds.Unsubscribe = 162
head_of kinds.UnsubAck = 176
head_of kinds.PingReq = 192
head_of kinds.PingResp = 208
head_of kinds.Disconnect = 224

-- DUP is 0 at quality of service 0
abbrev pub is_kind : Kind → Bool
is_kind kinds.Connect = true
is_kind kinds.ConnAck = true
is_kind (kinds.Publish dup qos retain) = may_repeat qos dup
is_kind kinds.PubAck = true
is_kind kinds.PubRec = true
is_kind kinds.PubRel = true
is_kind kinds.PubComp = true
is_kind kinds.Subscribe = true
is_kind kinds.SubAck = true
is_kind kinds.Unsubscribe = true
is_kind kinds.UnsubAck = true
is_kind kinds.PingReq = true
is_kind kinds.PingResp = true
is_kind kinds.Disconnect = true

pub head_first : (packet : Packet) → head_of (kind packet) ≡ first packet
head_first (p.Connect clean keep_alive client will user password) = refl
head_first (p.ConnAck present code) = refl
head_first (p.Publish dup qos retain topic id payload) = refl
head_first (p.PubAck id) = refl
head_first (p.PubRec id) = refl
head_first (p.PubRel id) = refl
head_first (p.PubComp id) = refl
head_first (p.Subscribe id asks) = refl
head_first (p.SubAck id return_codes) = refl
head_first (p.Unsubscribe id filters) = refl
head_first (p.UnsubAck id) = refl
head_first p.PingReq = refl
head_first p.PingResp = refl
head_first p.Disconnect = refl

-- each kind is read from its first byte
publish_read : (dup : Bool) (qos : Qos) (retain : Bool) → may_repeat qos dup ≡ true → kind_of (publish_first dup qos retain) ≡ Some (kinds.Publish dup qos retain)
unfolding kind_of publish_kind qos_of
publish_read true AtMostOnce retain e = absurd cc
publish_read false AtMostOnce true e = refl
publish_read false AtMostOnce false e = refl
publish_read true AtLeastOnce true e = refl
publish_read true AtLeastOnce false e = refl
publish_read false AtLeastOnce true e = refl
publish_read false AtLeastOnce false e = refl
publish_read true ExactlyOnce true e = refl
publish_read true ExactlyOnce false e = refl
publish_read false ExactlyOnce true e = refl
publish_read false ExactlyOnce false e = refl

pub head_read : (k : Kind) → is_kind k ≡ true → kind_of (head_of k) ≡ Some k
unfolding kind_of
head_read kinds.Connect e = refl
head_read kinds.ConnAck e = refl
head_read (kinds.Publish dup qos retain) e = publish_read dup qos retain e
head_read kinds.PubAck e = refl
head_read kinds.PubRec e = refl
head_read kinds.PubRel e = refl
head_read kinds.PubComp e = refl
head_read kinds.Subscribe e = refl
head_read kinds.SubAck e = refl
head_read kinds.Unsubscribe e = refl
head_read kinds.UnsubAck e = refl
head_read kinds.PingReq e = refl
head_read kinds.PingResp e = refl
head_read kinds.Disconnect e = refl

-- a table of 256 first bytes
abbrev fits_kind : ℕ → Option Kind → Bool
fits_kind head None = true
fits_kind head (Some k) = eqb head (head_of k) && is_kind k

fits_table : (head : ℕ) → head < 256 → fits_kind head (kind_of head) ≡ true
unfolding kind_of publish_kind qos_of
fits_table head lt = agree_below_at (λ h. fits_kind h (kind_of h)) (λ h. true) 256 head refl lt

pub head_took : (head : ℕ) (k : Kind) → head < 256 → kind_of head ≡ Some k → (head ≡ head_of k) × (is_kind k ≡ true)
head_took head k lt e =
    let parts = and_parts (eqb head (head_of k)) (is_kind k) (subst (λ (o : Option Kind). fits_kind head o ≡ true) e (fits_table head lt)) in
    (eqb-true head (head_of k) parts.0, parts.1)

-- ---- Identifiers

pub identifier_read : (id : ℕ) (rest : List ℕ) → is_identifier id ≡ true → id < 65536 → identifier_at (number id ++ rest) ≡ Some (id, rest)
unfolding identifier_at
identifier_read id rest e lt = rw (number_read id rest lt, not-true (eqb id 0) e) refl

pub identifier_took : (bytes : List ℕ) (id : ℕ) (rest : List ℕ) → AreBytes bytes → identifier_at bytes ≡ Some (id, rest) → Takes bytes (number id) rest × (is_identifier id ≡ true) × (id < 65536)
unfolding identifier_at
identifier_took bytes id rest fits e =
    let b = bind_some (number_at bytes) (λ n. cond (eqb n.0 0) None (Some n)) (id, rest) e in
    let t = number_took bytes b.0.0 b.0.1 fits b.1 in
    let g = not_refused (eqb b.0.0 0) b.0 (id, rest) b.2 in
    subst (λ (x : ℕ × List ℕ). Takes bytes (number x.0) x.1 × (is_identifier x.0 ≡ true) × (x.0 < 65536)) g.1 (t.0, not_from_false (eqb b.0.0 0) g.0, t.1)

nothing_behind : {A : Type 0} (x y : A) (rest : List ℕ) → whole x rest ≡ Some y → (rest ≡ []) × (x ≡ y)
nothing_behind x y [] e = (refl, some_is x y e)
nothing_behind x y (b ∷ bytes) e = absurd cc

ended : (bytes text rest : List ℕ) → Takes bytes text rest → rest ≡ [] → bytes ≡ text
ended bytes text rest t e = t.parts ∙ ap (λ (r : List ℕ). text ++ r) e ∙ append-nil text

pub alone_read : (id : ℕ) → is_identifier id ≡ true → id < 65536 → identifier_of (number id) ≡ Some id
unfolding identifier_of
alone_read id e lt = rw (identifier_read id [] e lt) refl

pub alone_took : (bytes : List ℕ) (id : ℕ) → AreBytes bytes → identifier_of bytes ≡ Some id → (bytes ≡ number id) × (is_identifier id ≡ true) × (id < 65536)
unfolding identifier_of
alone_took bytes id fits e =
    let b = bind_some (identifier_at bytes) (λ x. whole x.0 x.1) id e in
    let t = identifier_took bytes b.0.0 b.0.1 fits b.1 in
    let n = nothing_behind b.0.0 id b.0.1 b.2 in
    subst (λ (i : ℕ). (bytes ≡ number i) × (is_identifier i ≡ true) × (i < 65536)) n.1 (ended bytes (number b.0.0) b.0.1 t.0 n.0, t.1, t.2)

-- ---- CONNACK

pub connack_read : (present : Bool) (code : ℕ) → (nat_le code 5 && (eqb code 0 || not present)) ≡ true → connack_of (bit present ∷ code ∷ []) ≡ Some (p.ConnAck present code)
unfolding connack_of
connack_read true code e = rw e refl
connack_read false code e = rw (and_from (nat_le code 5) (eqb code 0 || true) (and_parts (nat_le code 5) (eqb code 0 || true) e).0 (or_right (eqb code 0) true refl)) refl
