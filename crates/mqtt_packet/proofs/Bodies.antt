-- Whole packets behind their first byte and remaining length: what is spelled is read as the packet, and what is read is
-- that packet's spelling.
use Rattle.std.proofs.Common.{◌≡◌, ℕ, zero, suc, ◌/◌, ◌%◌, ◌<◌, Bool, true, false, cond, eqb, List, [], ◌∷◌, ◌++◌, length, drop, Option, Some, None, refl, sym, ap, subst, ◌∙◌, append_assoc, arith, length-append}
use Rattle.std.specs.Prelude.{◌&&◌, ◌||◌, not, nat_le, nat_eq, is_some}
use Rattle.std.specs.List.{list_all, flat_map, starts_with}
use Rattle.std.proofs.lemmas.Bool.{leb-true, eqb-true, eq-eqb, ne_eqb, and_parts, and_from, not-false, not_from_false}
use Rattle.std.proofs.lemmas.Bool.Decides.{Decides-eqb}
use Rattle.std.proofs.lemmas.Slice.Eq.{starts_is}
use Rattle.std.proofs.lemmas.List.{append-nil, nil_from_length}
use Rattle.std.proofs.lemmas.List.Concat.{flat_map-cons}
use Rattle.mqtt_packet.specs.declared.qos.Qos.{Qos}
use Rattle.mqtt_packet.specs.declared.qos.Qos.TheVariants.{AtMostOnce, AtLeastOnce, ExactlyOnce}
use Rattle.mqtt_packet.specs.declared.packet.Packet.{Packet}
use Rattle.mqtt_packet.specs.declared.packet.Packet.TheVariants as p
use Rattle.mqtt_packet.specs.declared.kind.Kind.{Kind}
use Rattle.mqtt_packet.specs.declared.kind.Kind.TheVariants as kinds
use Rattle.mqtt_packet.specs.declared.will.Ask.{Ask}
use Rattle.mqtt_packet.specs.declared.will.Will.{Will}
use Rattle.mqtt_packet.specs.Flags.{bit}
use Rattle.mqtt_packet.specs.Spelling.{number, string, publish_body, connect_body, connect_flags, will_part, optional, extras, protocol, ask_bytes, body, is_string, is_data, is_identifier, is_delivery, is_will, are_credentials, is_ask, is_return_code, has_some, has_fields}
use Rattle.mqtt_packet.specs.Spelling as spellings
use Rattle.mqtt_packet.specs.Reading.{◌>>=◌, byte_at, number_at, string_at, identifier_at, whole, items_in, some_items, may_repeat, will_for, user_for, password_for, is_allowed, connect_with, connect_behind, connect_of, connack_of, identifier_for, publish_of, ask_at, subscribe_of, unsubscribe_of, suback_of, identifier_of, packet_of}
use Rattle.mqtt_packet.specs.Stream.{AreBytes}
use Rattle.mqtt_packet.specs.Spelling.{IsOfItsTypes}
use Rattle.mqtt_packet.proofs.Numbers.{bind_some, some_is, accepted, Takes, takes_then, bytes_drop, number_read, number_took, string_read, string_took}
use Rattle.mqtt_packet.proofs.Parts.{items_read, items_took, byte_took, ask_read, ask_took, bit_is, user_bit, password_bit, clean_bit, SayWill, will_said, will_read, user_read, password_read, will_took, user_took, password_took, credentials_from, user_passes, password_passes, allowed_from}
use Rattle.mqtt_packet.proofs.Readings.{kind, is_kind, identifier_read, identifier_took, alone_read, alone_took, connack_read}

-- the bytes of a packet of this kind
abbrev pub IsReadAs : Kind → List ℕ → Packet → Type 0
IsReadAs k bytes packet = (bytes ≡ body packet) × (kind packet ≡ k) × (has_fields packet ≡ true) × IsOfItsTypes packet

-- ---- CONNACK (section 3.2)

pub connack_took : (bytes : List ℕ) (packet : Packet) → connack_of bytes ≡ Some packet → IsReadAs kinds.ConnAck bytes packet
unfolding connack_of
connack_took [] packet e = absurd cc
connack_took (flags ∷ []) packet e = absurd cc
connack_took (flags ∷ code ∷ b ∷ bytes) packet e = absurd cc
connack_took (zero ∷ code ∷ []) packet e =
    let a = accepted (nat_le 0 1 && (nat_le code 5 && (eqb code 0 || eqb 0 0))) (p.ConnAck (eqb 0 1) code) packet e in
    let parts = and_parts (nat_le 0 1) (nat_le code 5 && (eqb code 0 || eqb 0 0)) a.0 in
    subst (λ (x : Packet). IsReadAs kinds.ConnAck (0 ∷ code ∷ []) x) a.1 (refl, refl, parts.1, tt)
connack_took (suc zero ∷ code ∷ []) packet e =
    let a = accepted (nat_le 1 1 && (nat_le code 5 && (eqb code 0 || eqb 1 0))) (p.ConnAck (eqb 1 1) code) packet e in
    let parts = and_parts (nat_le 1 1) (nat_le code 5 && (eqb code 0 || eqb 1 0)) a.0 in
    subst (λ (x : Packet). IsReadAs kinds.ConnAck (1 ∷ code ∷ []) x) a.1 (refl, refl, parts.1, tt)
connack_took (suc (suc n) ∷ code ∷ []) packet e =
    let a = accepted (nat_le (suc (suc n)) 1 && (nat_le code 5 && (eqb code 0 || eqb (suc (suc n)) 0))) (p.ConnAck (eqb (suc (suc n)) 1) code) packet e in
    let parts = and_parts (nat_le (suc (suc n)) 1) (nat_le code 5 && (eqb code 0 || eqb (suc (suc n)) 0)) a.0 in
    absurd (let le = leb-true (suc (suc n)) 1 parts.0 in omega (arith, le))

-- ---- PUBLISH (section 3.3)

at_read : (dup : Bool) (qos : Qos) (id : ℕ) (rest : List ℕ) → is_delivery dup qos id ≡ true → id < 65536 → identifier_for qos (spellings.identifier_for qos id ++ rest) ≡ Some (id, rest)
unfolding identifier_for
at_read dup AtMostOnce id rest e lt = ap (λ (n : ℕ). Some (n, rest)) (sym (eqb-true id 0 (and_parts (eqb id 0) (not dup) e).0))
at_read dup AtLeastOnce id rest e lt = identifier_read id rest e lt
at_read dup ExactlyOnce id rest e lt = identifier_read id rest e lt

at_took : (dup : Bool) (qos : Qos) (bytes : List ℕ) (id : ℕ) (rest : List ℕ) → AreBytes bytes → may_repeat qos dup ≡ true → identifier_for qos bytes ≡ Some (id, rest) → Takes bytes (spellings.identifier_for qos id) rest × (is_delivery dup qos id ≡ true) × (id < 65536)
unfolding identifier_for
at_took dup AtMostOnce bytes id rest fits may e =
    subst (λ (x : ℕ × List ℕ). Takes bytes [] x.1 × (is_delivery dup AtMostOnce x.0 ≡ true) × (x.0 < 65536)) (some_is (0, bytes) (id, rest) e) (record { parts = refl; rest_fits = fits }, may, omega arith)
at_took dup AtLeastOnce bytes id rest fits may e = identifier_took bytes id rest fits e
at_took dup ExactlyOnce bytes id rest fits may e = identifier_took bytes id rest fits e

pub publish_read : (dup : Bool) (qos : Qos) (retain : Bool) (topic : List ℕ) (id : ℕ) (payload : List ℕ) → (is_string topic && is_delivery dup qos id) ≡ true → id < 65536
    → publish_of dup qos retain (publish_body qos topic id payload) ≡ Some (p.Publish dup qos retain topic id payload)
unfolding publish_of
publish_read dup qos retain topic id payload e lt =
    let parts = and_parts (is_string topic) (is_delivery dup qos id) e in
    ap (publish_of dup qos retain) (append_assoc (string topic) (spellings.identifier_for qos id) payload)
    ∙ rw (string_read topic (spellings.identifier_for qos id ++ payload) parts.0, at_read dup qos id payload parts.1 lt) refl

pub publish_took : (dup : Bool) (qos : Qos) (retain : Bool) (bytes : List ℕ) (packet : Packet) → AreBytes bytes → may_repeat qos dup ≡ true → publish_of dup qos retain bytes ≡ Some packet → IsReadAs (kinds.Publish dup qos retain) bytes packet
unfolding publish_of
publish_took dup qos retain bytes packet fits may e =
    let t = bind_some (string_at bytes) (λ topic. identifier_for qos topic.1 >>= λ id. Some (p.Publish dup qos retain topic.0 id.0 id.1)) packet e in
    let i = bind_some (identifier_for qos t.0.1) (λ id. Some (p.Publish dup qos retain t.0.0 id.0 id.1)) packet t.2 in
    let topic = string_took bytes t.0.0 t.0.1 fits t.1 in
    let at = at_took dup qos t.0.1 i.0.0 i.0.1 topic.0.rest_fits may i.1 in
    let both = takes_then bytes (string t.0.0) t.0.1 (spellings.identifier_for qos i.0.0) i.0.1 topic.0 at.0 in
    subst (λ (x : Packet). IsReadAs (kinds.Publish dup qos retain) bytes x) (some_is (p.Publish dup qos retain t.0.0 i.0.0 i.0.1) packet i.2)
    (both.parts, refl, and_from (is_string t.0.0) (is_delivery dup qos i.0.0) topic.1 at.1, at.2)

-- ---- SUBSCRIBE, UNSUBSCRIBE and SUBACK (sections 3.8 to 3.10)

-- a list with members has bytes
some_bytes : {A : Type 0} (text : A → List ℕ) → ((x : A) → 0 < length (text x)) → (xs : List A) → has_some xs ≡ true → has_some (flat_map text xs) ≡ true
some_bytes text some [] e = absurd cc
some_bytes text some (x ∷ xs) e = let s = some x in not_from_false _ (ne_eqb (length (flat_map text (x ∷ xs))) 0 (λ z. omega (arith, s, z, ap length (flat_map-cons text x xs) ∙ length-append (text x) (flat_map text xs))))

some_read : {A : Type 0} (item : List ℕ → Option (A × List ℕ)) (text : A → List ℕ) (ok : A → Bool) → ((x : A) (rest : List ℕ) → ok x ≡ true → item (text x ++ rest) ≡ Some (x, rest)) → ((x : A) → 0 < length (text x))
    → (xs : List A) → (has_some xs && list_all ok xs) ≡ true → some_items item (flat_map text xs) ≡ Some xs
unfolding some_items
some_read item text ok again some xs e =
    let parts = and_parts (has_some xs) (list_all ok xs) e in
    rw (some_bytes text some xs parts.0) (items_read item text ok again some (length (flat_map text xs)) xs (omega arith) parts.1)

-- a list whose bytes are some has members
some_left : {A : Type 0} (text : A → List ℕ) (bytes : List ℕ) (xs : List A) → has_some bytes ≡ true → bytes ≡ flat_map text xs → has_some xs ≡ true
some_left text bytes [] some e = subst (λ (t : List ℕ). has_some t ≡ true) e some
some_left text bytes (x ∷ xs) some e = not_from_false _ (ne_eqb (length (x ∷ xs)) 0 (λ z. omega (arith, z)))

taken_if : {A : Type 0} (b : Bool) (o : Option A) (y : A) → cond b o None ≡ Some y → (b ≡ true) × (o ≡ Some y)
taken_if true o y e = (refl, e)
taken_if false o y e = absurd cc

some_took : {A : Type 0} (item : List ℕ → Option (A × List ℕ)) (text : A → List ℕ) (ok : A → Bool) → ((bytes : List ℕ) (x : A) (rest : List ℕ) → AreBytes bytes → item bytes ≡ Some (x, rest) → Takes bytes (text x) rest × (ok x ≡ true))
    → (bytes : List ℕ) (xs : List A) → AreBytes bytes → some_items item bytes ≡ Some xs → (bytes ≡ flat_map text xs) × ((has_some xs && list_all ok xs) ≡ true)
unfolding some_items
some_took item text ok took bytes xs fits e =
    let t = taken_if (has_some bytes) (items_in item (length bytes) bytes) xs e in
    let i = items_took item text ok took (length bytes) bytes xs fits t.1 in
    (i.0, and_from (has_some xs) (list_all ok xs) (some_left text bytes xs t.0 i.0) i.1)

long_ask : (ask : Ask) → 0 < length (ask_bytes ask)
long_ask ask = omega arith

long_string : (text : List ℕ) → 0 < length (string text)
long_string text = omega arith

pub subscribe_read : (id : ℕ) (asks : List Ask) → (is_identifier id && (has_some asks && list_all is_ask asks)) ≡ true → id < 65536 → subscribe_of (number id ++ flat_map ask_bytes asks) ≡ Some (p.Subscribe id asks)
unfolding subscribe_of
subscribe_read id asks e lt =
    let parts = and_parts (is_identifier id) (has_some asks && list_all is_ask asks) e in
    rw (identifier_read id (flat_map ask_bytes asks) parts.0 lt, some_read ask_at ask_bytes is_ask ask_read long_ask asks parts.1) refl

pub subscribe_took : (bytes : List ℕ) (packet : Packet) → AreBytes bytes → subscribe_of bytes ≡ Some packet → IsReadAs kinds.Subscribe bytes packet
unfolding subscribe_of
subscribe_took bytes packet fits e =
    let n = bind_some (identifier_at bytes) (λ id. some_items ask_at id.1 >>= λ asks. Some (p.Subscribe id.0 asks)) packet e in
    let l = bind_some (some_items ask_at n.0.1) (λ asks. Some (p.Subscribe n.0.0 asks)) packet n.2 in
    let id = identifier_took bytes n.0.0 n.0.1 fits n.1 in
    let asks = some_took ask_at ask_bytes is_ask ask_took n.0.1 l.0 id.0.rest_fits l.1 in
    subst (λ (x : Packet). IsReadAs kinds.Subscribe bytes x) (some_is (p.Subscribe n.0.0 l.0) packet l.2)
    (id.0.parts ∙ ap (λ (r : List ℕ). number n.0.0 ++ r) asks.0, refl, and_from (is_identifier n.0.0) (has_some l.0 && list_all is_ask l.0) id.1 asks.1, id.2)

pub unsubscribe_read : (id : ℕ) (filters : List (List ℕ)) → (is_identifier id && (has_some filters && list_all is_string filters)) ≡ true → id < 65536 → unsubscribe_of (number id ++ flat_map string filters) ≡ Some (p.Unsubscribe id filters)
unfolding unsubscribe_of
unsubscribe_read id filters e lt =
    let parts = and_parts (is_identifier id) (has_some filters && list_all is_string filters) e in
    rw (identifier_read id (flat_map string filters) parts.0 lt, some_read string_at string is_string string_read long_string filters parts.1) refl

pub unsubscribe_took : (bytes : List ℕ) (packet : Packet) → AreBytes bytes → unsubscribe_of bytes ≡ Some packet → IsReadAs kinds.Unsubscribe bytes packet
unfolding unsubscribe_of
unsubscribe_took bytes packet fits e =
    let n = bind_some (identifier_at bytes) (λ id. some_items string_at id.1 >>= λ filters. Some (p.Unsubscribe id.0 filters)) packet e in
    let l = bind_some (some_items string_at n.0.1) (λ filters. Some (p.Unsubscribe n.0.0 filters)) packet n.2 in
    let id = identifier_took bytes n.0.0 n.0.1 fits n.1 in
    let filters = some_took string_at string is_string string_took n.0.1 l.0 id.0.rest_fits l.1 in
    subst (λ (x : Packet). IsReadAs kinds.Unsubscribe bytes x) (some_is (p.Unsubscribe n.0.0 l.0) packet l.2)
    (id.0.parts ∙ ap (λ (r : List ℕ). number n.0.0 ++ r) filters.0, refl, and_from (is_identifier n.0.0) (has_some l.0 && list_all is_string l.0) id.1 filters.1, id.2)

pub suback_read : (id : ℕ) (return_codes : List ℕ) → (is_identifier id && (has_some return_codes && list_all is_return_code return_codes)) ≡ true → id < 65536 → suback_of (number id ++ return_codes) ≡ Some (p.SubAck id return_codes)
unfolding suback_of
suback_read id return_codes e lt =
    let parts = and_parts (is_identifier id) (has_some return_codes && list_all is_return_code return_codes) e in
    rw (identifier_read id return_codes parts.0 lt, parts.1) refl

pub suback_took : (bytes : List ℕ) (packet : Packet) → AreBytes bytes → suback_of bytes ≡ Some packet → IsReadAs kinds.SubAck bytes packet
unfolding suback_of
suback_took bytes packet fits e =
    let n = bind_some (identifier_at bytes) (λ id. cond (has_some id.1 && list_all is_return_code id.1) (Some (p.SubAck id.0 id.1)) None) packet e in
    let a = accepted (has_some n.0.1 && list_all is_return_code n.0.1) (p.SubAck n.0.0 n.0.1) packet n.2 in
    let id = identifier_took bytes n.0.0 n.0.1 fits n.1 in
    subst (λ (x : Packet). IsReadAs kinds.SubAck bytes x) a.1
    (id.0.parts, refl, and_from (is_identifier n.0.0) (has_some n.0.1 && list_all is_return_code n.0.1) id.1 a.0, id.2)

-- ---- CONNECT (section 3.1)

abbrev with_password : ℕ → ℕ → List ℕ → Option Will → Option (List ℕ) → List ℕ → Option Packet
with_password flags keep_alive client will user rest = password_for flags rest >>= λ password. connect_with flags keep_alive client will user password.0 password.1

abbrev with_user : ℕ → ℕ → List ℕ → Option Will → List ℕ → Option Packet
with_user flags keep_alive client will rest = user_for flags rest >>= λ user. with_password flags keep_alive client will user.0 user.1

abbrev with_will : ℕ → ℕ → List ℕ → List ℕ → Option Packet
with_will flags keep_alive client rest = will_for flags rest >>= λ will. with_user flags keep_alive client will.0 will.1

abbrev with_client : ℕ → ℕ → List ℕ → Option Packet
with_client flags keep_alive rest = string_at rest >>= λ client. with_will flags keep_alive client.0 client.1

abbrev with_seconds : ℕ → List ℕ → Option Packet
with_seconds flags rest = number_at rest >>= λ keep_alive. with_client flags keep_alive.0 keep_alive.1

with_read : (flags keep_alive : ℕ) (client : List ℕ) (clean : Bool) (will : Option Will) (user password : Option (List ℕ)) → flags ≡ connect_flags clean will user password → eqb (flags / 2 % 2) 1 ≡ clean → is_allowed user password ≡ true
    → connect_with flags keep_alive client will user password [] ≡ Some (p.Connect clean keep_alive client will user password)
unfolding connect_with
with_read flags keep_alive client clean will user password e clean_is allowed =
    rw (clean_is, eq-eqb flags (connect_flags clean will user password) e, allowed) refl

behind_read : (flags keep_alive : ℕ) (client : List ℕ) (clean : Bool) (will : Option Will) (user password : Option (List ℕ)) → flags ≡ connect_flags clean will user password
    → are_credentials user password ≡ true → is_will will ≡ true → is_string client ≡ true → keep_alive < 65536
    → with_seconds flags (number keep_alive ++ (string client ++ (will_part will ++ (optional user ++ optional password)))) ≡ Some (p.Connect clean keep_alive client will user password)
behind_read flags keep_alive client clean will user password e credentials will_fits client_fits lt =
    let say = subst (λ (f : ℕ). SayWill f will) (sym e) (will_said clean will user password) in
    let say_user : flags / 128 % 2 ≡ bit (is_some user) = ap (λ (f : ℕ). f / 128 % 2) e ∙ user_bit clean will user password in
    let say_password : flags / 64 % 2 ≡ bit (is_some password) = ap (λ (f : ℕ). f / 64 % 2) e ∙ password_bit clean will user password in
    let say_clean : flags / 2 % 2 ≡ bit clean = ap (λ (f : ℕ). f / 2 % 2) e ∙ clean_bit clean will user password in
    let last : password_for flags (optional password) ≡ Some (password, []) = ap (password_for flags) (sym (append-nil (optional password))) ∙ password_read flags password [] say_password (password_passes user password credentials) in
    ap (λ (o : Option (ℕ × List ℕ)). o >>= λ keep_alive. with_client flags keep_alive.0 keep_alive.1) (number_read keep_alive (string client ++ (will_part will ++ (optional user ++ optional password))) lt)
    ∙ ap (λ (o : Option (List ℕ × List ℕ)). o >>= λ client. with_will flags keep_alive client.0 client.1) (string_read client (will_part will ++ (optional user ++ optional password)) client_fits)
    ∙ ap (λ (o : Option (Option Will × List ℕ)). o >>= λ will. with_user flags keep_alive client will.0 will.1) (will_read flags will (optional user ++ optional password) say will_fits)
    ∙ ap (λ (o : Option (Option (List ℕ) × List ℕ)). o >>= λ user. with_password flags keep_alive client will user.0 user.1) (user_read flags user (optional password) say_user (user_passes user password credentials))
    ∙ ap (λ (o : Option (Option (List ℕ) × List ℕ)). o >>= λ password. connect_with flags keep_alive client will user password.0 password.1) last
    ∙ with_read flags keep_alive client clean will user password e (bit_is clean (flags / 2 % 2) say_clean) (allowed_from user password credentials)

pub connect_read : (clean : Bool) (keep_alive : ℕ) (client : List ℕ) (will : Option Will) (user password : Option (List ℕ)) → (are_credentials user password && (is_will will && is_string client)) ≡ true → keep_alive < 65536
    → connect_of (connect_body clean keep_alive client will user password) ≡ Some (p.Connect clean keep_alive client will user password)
unfolding connect_of connect_behind byte_at
connect_read clean keep_alive client will user password e lt =
    let parts = and_parts (are_credentials user password) (is_will will && is_string client) e in
    let two = and_parts (is_will will) (is_string client) parts.1 in
    behind_read (connect_flags clean will user password) keep_alive client clean will user password refl parts.0 two.0 two.1 lt

not_where : {A : Type 0} (b : Bool) (o : Option A) (y : A) → cond b None o ≡ Some y → (b ≡ false) × (o ≡ Some y)
not_where true o y e = absurd cc
not_where false o y e = (refl, e)

no_bytes : (rest : List ℕ) → has_some rest ≡ false → rest ≡ []
no_bytes rest e = nil_from_length rest (eqb-true (length rest) 0 (not-false (eqb (length rest) 0) e))

with_took : (flags keep_alive : ℕ) (client : List ℕ) (will : Option Will) (user password : Option (List ℕ)) (rest : List ℕ) (packet : Packet) → connect_with flags keep_alive client will user password rest ≡ Some packet
    → (rest ≡ []) × (clean : Bool) × (flags ≡ connect_flags clean will user password) × (is_allowed user password ≡ true) × (p.Connect clean keep_alive client will user password ≡ packet)
unfolding connect_with
with_took flags keep_alive client will user password rest packet e =
    let clean = eqb (flags / 2 % 2) 1 in
    let n = not_where (has_some rest) (cond (eqb flags (connect_flags clean will user password) && is_allowed user password) (Some (p.Connect clean keep_alive client will user password)) None) packet e in
    let a = accepted (eqb flags (connect_flags clean will user password) && is_allowed user password) (p.Connect clean keep_alive client will user password) packet n.1 in
    let parts = and_parts (eqb flags (connect_flags clean will user password)) (is_allowed user password) a.0 in
    (no_bytes rest n.0, clean, eqb-true flags (connect_flags clean will user password) parts.0, parts.1, a.1)

behind_took : (bytes : List ℕ) (packet : Packet) → AreBytes bytes → connect_behind bytes ≡ Some packet → IsReadAs kinds.Connect (protocol ++ bytes) packet
unfolding connect_behind
behind_took bytes packet fits e =
    let f = bind_some (byte_at bytes) (λ flags. with_seconds flags.0 flags.1) packet e in
    let k = bind_some (number_at f.0.1) (λ keep_alive. with_client f.0.0 keep_alive.0 keep_alive.1) packet f.2 in
    let c = bind_some (string_at k.0.1) (λ client. with_will f.0.0 k.0.0 client.0 client.1) packet k.2 in
    let w = bind_some (will_for f.0.0 c.0.1) (λ will. with_user f.0.0 k.0.0 c.0.0 will.0 will.1) packet c.2 in
    let u = bind_some (user_for f.0.0 w.0.1) (λ user. with_password f.0.0 k.0.0 c.0.0 w.0.0 user.0 user.1) packet w.2 in
    let x = bind_some (password_for f.0.0 u.0.1) (λ password. connect_with f.0.0 k.0.0 c.0.0 w.0.0 u.0.0 password.0 password.1) packet u.2 in
    let l = with_took f.0.0 k.0.0 c.0.0 w.0.0 u.0.0 x.0.0 x.0.1 packet x.2 in
    let flags = byte_took bytes f.0.0 f.0.1 fits f.1 in
    let seconds = number_took f.0.1 k.0.0 k.0.1 flags.rest_fits k.1 in
    let client = string_took k.0.1 c.0.0 c.0.1 seconds.0.rest_fits c.1 in
    let will = will_took f.0.0 c.0.1 w.0.0 w.0.1 client.0.rest_fits w.1 in
    let user = user_took f.0.0 w.0.1 u.0.0 u.0.1 will.0.rest_fits u.1 in
    let password = password_took f.0.0 u.0.1 x.0.0 x.0.1 user.0.rest_fits x.1 in
    let passwords : u.0.1 ≡ optional x.0.0 = password.0.parts ∙ ap (λ (r : List ℕ). optional x.0.0 ++ r) l.0 ∙ append-nil (optional x.0.0) in
    let users : w.0.1 ≡ optional u.0.0 ++ optional x.0.0 = user.0.parts ∙ ap (λ (r : List ℕ). optional u.0.0 ++ r) passwords in
    let wills : c.0.1 ≡ extras w.0.0 u.0.0 x.0.0 = will.0.parts ∙ ap (λ (r : List ℕ). will_part w.0.0 ++ r) users in
    let clients : k.0.1 ≡ string c.0.0 ++ extras w.0.0 u.0.0 x.0.0 = client.0.parts ∙ ap (λ (r : List ℕ). string c.0.0 ++ r) wills in
    let times : f.0.1 ≡ number k.0.0 ++ (string c.0.0 ++ extras w.0.0 u.0.0 x.0.0) = seconds.0.parts ∙ ap (λ (r : List ℕ). number k.0.0 ++ r) clients in
    let whole : bytes ≡ connect_flags l.1 w.0.0 u.0.0 x.0.0 ∷ (number k.0.0 ++ (string c.0.0 ++ extras w.0.0 u.0.0 x.0.0)) = flags.parts ∙ ap (λ (r : List ℕ). f.0.0 ∷ r) times ∙ ap (λ (n : ℕ). n ∷ (number k.0.0 ++ (string c.0.0 ++ extras w.0.0 u.0.0 x.0.0))) l.2 in
    subst (λ (y : Packet). IsReadAs kinds.Connect (protocol ++ bytes) y) l.4 (
      ap (λ (r : List ℕ). protocol ++ r) whole,
      refl,
      and_from (are_credentials u.0.0 x.0.0) (is_will w.0.0 && is_string c.0.0) (credentials_from u.0.0 x.0.0 user.1 password.1 l.3) (and_from (is_will w.0.0) (is_string c.0.0) will.1 client.1),
      seconds.1,
    )

pub connect_took : (bytes : List ℕ) (packet : Packet) → AreBytes bytes → connect_of bytes ≡ Some packet → IsReadAs kinds.Connect bytes packet
unfolding connect_of
connect_took bytes packet fits e =
    let t = taken_if (starts_with nat_eq bytes protocol) (connect_behind (drop 7 bytes)) packet e in
    let front : bytes ≡ protocol ++ drop 7 bytes = (starts_is Decides-eqb bytes protocol (starts_with nat_eq bytes protocol) refl).0 t.0 in
    subst (λ (b : List ℕ). IsReadAs kinds.Connect b packet) (sym front) (behind_took (drop 7 bytes) packet (bytes_drop 7 bytes fits) t.1)

-- ---- All packets

pub body_read : (packet : Packet) → has_fields packet ≡ true → IsOfItsTypes packet → packet_of (kind packet) (body packet) ≡ Some packet
body_read (p.Connect clean keep_alive client will user password) e fits = connect_read clean keep_alive client will user password e fits
body_read (p.ConnAck present code) e fits = connack_read present code e
body_read (p.Publish dup qos retain topic id payload) e fits = publish_read dup qos retain topic id payload e fits
body_read (p.PubAck id) e fits = rw (alone_read id e fits) refl
body_read (p.PubRec id) e fits = rw (alone_read id e fits) refl
body_read (p.PubRel id) e fits = rw (alone_read id e fits) refl
body_read (p.PubComp id) e fits = rw (alone_read id e fits) refl
body_read (p.Subscribe id asks) e fits = subscribe_read id asks e fits
body_read (p.SubAck id return_codes) e fits = suback_read id return_codes e fits
body_read (p.Unsubscribe id filters) e fits = unsubscribe_read id filters e fits
body_read (p.UnsubAck id) e fits = rw (alone_read id e fits) refl
body_read p.PingReq e fits = refl
body_read p.PingResp e fits = refl
body_read p.Disconnect e fits = refl

-- a packet of an identifier alone
acknowledged : (bytes : List ℕ) (of : ℕ → Packet) (k : Kind) (packet : Packet) → AreBytes bytes → ((id : ℕ) → (bytes ≡ number id) × (is_identifier id ≡ true) × (id < 65536) → IsReadAs k bytes (of id)) → (identifier_of bytes >>= λ id. Some (of id)) ≡ Some packet → IsReadAs k bytes packet
acknowledged bytes of k packet fits is e =
    let i = bind_some (identifier_of bytes) (λ id. Some (of id)) packet e in
    subst (λ (x : Packet). IsReadAs k bytes x) (some_is (of i.0) packet i.2) (is i.0 (alone_took bytes i.0 fits i.1))

-- a packet of no bytes
empty_took : (bytes : List ℕ) (k : Kind) (one packet : Packet) → IsReadAs k [] one → whole one bytes ≡ Some packet → IsReadAs k bytes packet
empty_took [] k one packet is e = subst (λ (x : Packet). IsReadAs k [] x) (some_is one packet e) is
empty_took (b ∷ bytes) k one packet is e = absurd cc

pub body_took : (k : Kind) (bytes : List ℕ) (packet : Packet) → AreBytes bytes → is_kind k ≡ true → packet_of k bytes ≡ Some packet → IsReadAs k bytes packet
body_took kinds.Connect bytes packet fits is e = connect_took bytes packet fits e
body_took kinds.ConnAck bytes packet fits is e = connack_took bytes packet e
body_took (kinds.Publish dup qos retain) bytes packet fits is e = publish_took dup qos retain bytes packet fits is e
body_took kinds.PubAck bytes packet fits is e = acknowledged bytes (λ id. p.PubAck id) kinds.PubAck packet fits (λ id h. (h.0, refl, h.1, h.2)) e
body_took kinds.PubRec bytes packet fits is e = acknowledged bytes (λ id. p.PubRec id) kinds.PubRec packet fits (λ id h. (h.0, refl, h.1, h.2)) e
body_took kinds.PubRel bytes packet fits is e = acknowledged bytes (λ id. p.PubRel id) kinds.PubRel packet fits (λ id h. (h.0, refl, h.1, h.2)) e
body_took kinds.PubComp bytes packet fits is e = acknowledged bytes (λ id. p.PubComp id) kinds.PubComp packet fits (λ id h. (h.0, refl, h.1, h.2)) e
body_took kinds.Subscribe bytes packet fits is e = subscribe_took bytes packet fits e
body_took kinds.SubAck bytes packet fits is e = suback_took bytes packet fits e
body_took kinds.Unsubscribe bytes packet fits is e = unsubscribe_took bytes packet fits e
body_took kinds.UnsubAck bytes packet fits is e = acknowledged bytes (λ id. p.UnsubAck id) kinds.UnsubAck packet fits (λ id h. (h.0, refl, h.1, h.2)) e
body_took kinds.PingReq bytes packet fits is e = empty_took bytes kinds.PingReq p.PingReq packet (refl, refl, refl, tt) e
body_took kinds.PingResp bytes packet fits is e = empty_took bytes kinds.PingResp p.PingResp packet (refl, refl, refl, tt) e
body_took kinds.Disconnect bytes packet fits is e = empty_took bytes kinds.Disconnect p.Disconnect packet (refl, refl, refl, tt) e
