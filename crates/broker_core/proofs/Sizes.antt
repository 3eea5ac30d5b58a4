-- How long packets are beside each other, and which are sound.
use Rattle.std.proofs.Common.{◌≡◌, ℕ, zero, suc, ◌+◌, ◌*◌, ◌/◌, ◌<◌, ◌≤◌, Bool, true, false, not, List, [], ◌∷◌, ◌++◌, map, length, refl, arith, length-append, IsUtf8}
use Rattle.std.specs.Prelude.{◌&&◌, ◌==◌, nat_lt, nat_le}
use Rattle.std.specs.List.{list_any, list_all, flat_map}
use Rattle.std.specs.Str.{is_utf8}
use Rattle.std.proofs.lemmas.Bool.{eqb-true, and_parts, and_from, lt-ltb, le-leb, leb-true, ltb-true, ltb-false}
use Rattle.std.proofs.lemmas.Str.{is_utf8-from_IsUtf8}
use Rattle.std.proofs.lemmas.List.{length-map}
use Rattle.mqtt_packet.specs.declared.qos.Qos.{Qos}
use Rattle.mqtt_packet.specs.declared.qos.Qos.TheVariants.{AtMostOnce, AtLeastOnce, ExactlyOnce}
use Rattle.mqtt_packet.specs.declared.packet.Packet.{Packet}
use Rattle.mqtt_packet.specs.declared.packet.Packet.TheVariants as p
use Rattle.mqtt_packet.specs.declared.will.Ask.{Ask}
use Rattle.mqtt_packet.specs.Flags.{level}
use Rattle.mqtt_packet.specs.Spelling.{groups, number, string, frame, publish_body, identifier_for, ask_bytes, is_string, is_identifier, is_delivery, is_return_code, has_some, has_fields, is_sound}
use Rattle.topic_filter.specs.Texts.{is_name, has_length, is_name_byte}
use Rattle.broker_core.specs.Copies.{copy_of}
use Rattle.broker_core.specs.Subscribed.{return_code, is_valid}

-- ---- Frames

groups_most : (k n : ℕ) → length (groups k n) ≤ k
unfolding groups
groups_most zero n = omega arith
groups_most (suc k) n = go (nat_lt n 128) refl (groups_most k (n / 128))
  where
    go : (t : Bool) → nat_lt n 128 ≡ t → length (groups k (n / 128)) ≤ k → length (groups (suc k) n) ≤ suc k
    go true e rest = rw e (omega arith)
    go false e rest = rw e (omega (arith, rest))

groups_less : (k m n : ℕ) → m ≤ n → length (groups k m) ≤ length (groups k n)
unfolding groups
groups_less zero m n le = omega arith
groups_less (suc k) m n le = go (nat_lt m 128) (nat_lt n 128) refl refl (groups_less k (m / 128) (n / 128) (omega (arith, le)))
  where
    go : (s t : Bool) → nat_lt m 128 ≡ s → nat_lt n 128 ≡ t → length (groups k (m / 128)) ≤ length (groups k (n / 128)) → length (groups (suc k) m) ≤ length (groups (suc k) n)
    go true true em en rest = rw (em, en) (omega arith)
    go true false em en rest = rw (em, en) (omega arith)
    go false true em en rest = absurd (let low = ltb-true n 128 en in let high = ltb-false m 128 em in omega (arith, low, high, le))
    go false false em en rest = rw (em, en) (omega (arith, rest))

frame_length : (head : ℕ) (bytes : List ℕ) → length (frame head bytes) ≡ 1 + (length (groups 4 (length bytes)) + length bytes)
frame_length head bytes = omega (arith, length-append (groups 4 (length bytes)) bytes)

-- a frame isn't longer where its body isn't
within : (head other : ℕ) (bytes longer : List ℕ) → length bytes ≤ length longer → nat_le (length (frame other longer)) 262144 ≡ true → nat_le (length (frame head bytes)) 262144 ≡ true
within head other bytes longer le fits =
    le-leb (length (frame head bytes)) 262144 (omega (arith, le, leb-true (length (frame other longer)) 262144 fits, frame_length head bytes, frame_length other longer, groups_less 4 (length bytes) (length longer) le))

short : (head : ℕ) (bytes : List ℕ) → length bytes ≤ 262139 → nat_le (length (frame head bytes)) 262144 ≡ true
short head bytes le = le-leb (length (frame head bytes)) 262144 (omega (arith, le, frame_length head bytes, groups_most 4 (length bytes)))

-- ---- Short packets

two : (n : ℕ) → length (number n) ≡ 2
two n = refl

one_number : (head n : ℕ) → nat_le (length (frame head (number n))) 262144 ≡ true
one_number head n = short head (number n) (omega (arith, two n))

pub puback_sound : (n : ℕ) → is_identifier n ≡ true → is_sound (p.PubAck n) ≡ true
puback_sound n e = and_from (is_identifier n) _ e (one_number 64 n)

pub pubrec_sound : (n : ℕ) → is_identifier n ≡ true → is_sound (p.PubRec n) ≡ true
pubrec_sound n e = and_from (is_identifier n) _ e (one_number 80 n)

pub pubrel_sound : (n : ℕ) → is_identifier n ≡ true → is_sound (p.PubRel n) ≡ true
pubrel_sound n e = and_from (is_identifier n) _ e (one_number 98 n)

pub pubcomp_sound : (n : ℕ) → is_identifier n ≡ true → is_sound (p.PubComp n) ≡ true
pubcomp_sound n e = and_from (is_identifier n) _ e (one_number 112 n)

pub unsuback_sound : (n : ℕ) → is_identifier n ≡ true → is_sound (p.UnsubAck n) ≡ true
unsuback_sound n e = and_from (is_identifier n) _ e (one_number 176 n)

pub fields : (packet : Packet) → is_sound packet ≡ true → has_fields packet ≡ true
fields packet e = (and_parts (has_fields packet) _ e).0

pub identifier : (n : ℕ) → 0 < n → is_identifier n ≡ true
identifier n low = go (n == 0) refl
  where
    go : (t : Bool) → (n == 0) ≡ t → not (n == 0) ≡ true
    go false e = rw e refl
    go true e = absurd (let zero_is = eqb-true n 0 e in omega (arith, zero_is, low))

pub above : (n : ℕ) → is_identifier n ≡ true → 0 < n
above zero e = absurd (cc e)
above (suc n) e = omega arith

-- ---- SUBACK

asks_length : (asks : List Ask) → 3 * length asks ≤ length (flat_map ask_bytes asks)
asks_length [] = omega arith
asks_length (ask ∷ asks) = omega (arith, asks_length asks, length-append (ask_bytes ask) (flat_map ask_bytes asks), length-append (string ask.filter) (level ask.qos ∷ []), length-append (number (length ask.filter)) ask.filter, two (length ask.filter))

code_is : (ask : Ask) → is_return_code (return_code ask) ≡ true
code_is ask = go (is_valid ask) refl ask.qos refl
  where
    go : (t : Bool) → is_valid ask ≡ t → (q : Qos) → ask.qos ≡ q → is_return_code (return_code ask) ≡ true
    go true e AtMostOnce is = rw (e, is) refl
    go true e AtLeastOnce is = rw (e, is) refl
    go true e ExactlyOnce is = rw (e, is) refl
    go false e q is = rw e refl

codes_are : (asks : List Ask) → list_all is_return_code (map return_code asks) ≡ true
codes_are [] = refl
codes_are (ask ∷ asks) = rw (code_is ask) (codes_are asks)

some_codes : (asks : List Ask) → has_some asks ≡ true → has_some (map return_code asks) ≡ true
some_codes asks e = rw (length-map asks return_code) e

pub suback_sound : (n : ℕ) (asks : List Ask) → is_sound (p.Subscribe n asks) ≡ true → is_sound (p.SubAck n (map return_code asks)) ≡ true
suback_sound n asks sound =
    let parts = and_parts (has_fields (p.Subscribe n asks)) _ sound in
    let inner = and_parts (is_identifier n) _ parts.0 in
    let lists = and_parts (has_some asks) _ inner.1 in
    and_from (has_fields (p.SubAck n (map return_code asks))) _
    (and_from (is_identifier n) _ inner.0 (and_from (has_some (map return_code asks)) _ (some_codes asks lists.0) (codes_are asks)))
    (within 144 130 (number n ++ map return_code asks) (number n ++ flat_map ask_bytes asks)
    (omega (arith, length-append (number n) (map return_code asks), length-append (number n) (flat_map ask_bytes asks), length-map asks return_code, asks_length asks)) parts.1)

-- ---- Copies

-- above quality of service 0
abbrev pub IsAbove : Qos → Type 0
IsAbove AtMostOnce = ⊥
IsAbove AtLeastOnce = Unit {0}
IsAbove ExactlyOnce = Unit {0}

body_length : (qos : Qos) (topic : List ℕ) (id : ℕ) (payload : List ℕ) → length (publish_body qos topic id payload) ≡ length (string topic) + length (identifier_for qos id) + length payload
body_length qos topic id payload = omega (arith, length-append (string topic ++ identifier_for qos id) payload, length-append (string topic) (identifier_for qos id))

numbered : (qos : Qos) (id : ℕ) → IsAbove qos → length (identifier_for qos id) ≡ 2
numbered AtMostOnce id h = absurd h
numbered AtLeastOnce id h = refl
numbered ExactlyOnce id h = refl

delivered : (again : Bool) (qos : Qos) (id : ℕ) → IsAbove qos → is_identifier id ≡ true → is_delivery again qos id ≡ true
delivered again AtMostOnce id h e = absurd h
delivered again AtLeastOnce id h e = e
delivered again ExactlyOnce id h e = e

-- A message that can be sent with an identifier can be sent with each, above quality of service 0.
pub resized : (again : Bool) (qos : Qos) (id : ℕ) (message : Packet) → IsAbove qos → is_identifier id ≡ true → is_sound (copy_of false ExactlyOnce 1 message) ≡ true → is_sound (copy_of again qos id message) ≡ true
resized again qos id (p.Publish dup q retain topic n payload) h e sound =
    let parts = and_parts (has_fields (p.Publish false ExactlyOnce false topic 1 payload)) _ sound in
    let text = and_parts (is_string topic) _ parts.0 in
    and_from (has_fields (p.Publish again qos false topic id payload)) _ (and_from (is_string topic) _ text.0 (delivered again qos id h e))
    (within 0 0 (publish_body qos topic id payload) (publish_body ExactlyOnce topic 1 payload)
    (omega (arith, body_length qos topic id payload, body_length ExactlyOnce topic 1 payload, numbered qos id h, two 1)) parts.1)
resized again qos id (p.Connect clean keep_alive client will user password) h e sound = sound
resized again qos id (p.ConnAck present code) h e sound = sound
resized again qos id (p.PubAck n) h e sound = sound
resized again qos id (p.PubRec n) h e sound = sound
resized again qos id (p.PubRel n) h e sound = sound
resized again qos id (p.PubComp n) h e sound = sound
resized again qos id (p.Subscribe n asks) h e sound = sound
resized again qos id (p.SubAck n codes) h e sound = sound
resized again qos id (p.Unsubscribe n filters) h e sound = sound
resized again qos id (p.UnsubAck n) h e sound = sound
resized again qos id p.PingReq h e sound = sound
resized again qos id p.PingResp h e sound = sound
resized again qos id p.Disconnect h e sound = sound

-- ---- Messages that come

-- A message can be sent at quality of service 0, and with an identifier where it came with one.
pub record IsMessage (qos : Qos) (message : Packet) : Type 0 where
  pub plain : is_sound (copy_of false AtMostOnce 0 message) ≡ true
  pub numbered : IsAbove qos → is_sound (copy_of false ExactlyOnce 1 message) ≡ true

pub came : (dup retain : Bool) (qos : Qos) (topic : List ℕ) (id : ℕ) (payload : List ℕ) → is_sound (p.Publish dup qos retain topic id payload) ≡ true → IsMessage qos (p.Publish dup qos retain topic id payload)
came dup retain qos topic id payload sound =
    let parts = and_parts (has_fields (p.Publish dup qos retain topic id payload)) _ sound in
    let text = and_parts (is_string topic) _ parts.0 in
    record {
      plain = and_from (has_fields (p.Publish false AtMostOnce false topic 0 payload)) _ (and_from (is_string topic) _ text.0 refl)
          (within 0 0 (publish_body AtMostOnce topic 0 payload) (publish_body qos topic id payload) (omega (arith, body_length AtMostOnce topic 0 payload, body_length qos topic id payload)) parts.1);
      numbered = λ h. and_from (has_fields (p.Publish false ExactlyOnce false topic 1 payload)) _ (and_from (is_string topic) _ text.0 refl)
          (within 0 0 (publish_body ExactlyOnce topic 1 payload) (publish_body qos topic id payload) (omega (arith, body_length ExactlyOnce topic 1 payload, body_length qos topic id payload, numbered qos id h, two 1)) parts.1);
    }

split : (b : ℕ) (bytes : List ℕ) → list_all is_name_byte (b ∷ bytes) ≡ true → (is_name_byte b ≡ true) × (list_all is_name_byte bytes ≡ true)
split b bytes e = go (is_name_byte b) refl
  where
    go : (t : Bool) → is_name_byte b ≡ t → (is_name_byte b ≡ true) × (list_all is_name_byte bytes ≡ true)
    go true is = (is, rw is at e)
    go false is = absurd (cc (rw is at e))

no_zero : (bytes : List ℕ) → list_all is_name_byte bytes ≡ true → list_any (λ b. b == 0) bytes ≡ false
no_zero [] e = refl
no_zero (b ∷ bytes) e = go (b == 0) refl (split b bytes e) (no_zero bytes)
  where
    go : (t : Bool) → (b == 0) ≡ t → (is_name_byte b ≡ true) × (list_all is_name_byte bytes ≡ true) → (list_all is_name_byte bytes ≡ true → list_any (λ b. b == 0) bytes ≡ false) → list_any (λ b. b == 0) (b ∷ bytes) ≡ false
    go true is parts rest = absurd (cc (rw is at parts.0))
    go false is parts rest = rw is (rest parts.1)

name_is_string : (topic : List ℕ) → is_name topic ≡ true → IsUtf8 topic → (is_string topic ≡ true) × (length topic ≤ 65535)
unfolding is_name
name_is_string topic name text =
    let parts = and_parts (has_length topic) (list_all is_name_byte topic) name in
    let most = leb-true (length topic) 65535 (and_parts (nat_le 1 (length topic)) (nat_le (length topic) 65535) parts.0).1 in
    (and_from (nat_lt (length topic) 65536 && is_utf8 topic) _ (and_from (nat_lt (length topic) 65536) _ (lt-ltb (length topic) 65536 (omega (arith, most))) (is_utf8-from_IsUtf8 topic text)) (rw (no_zero topic parts.1) refl), most)

pub own : (qos : Qos) (topic payload : List ℕ) → is_name topic ≡ true → IsUtf8 topic → length payload ≤ 131072 → IsMessage qos (p.Publish false qos false topic 0 payload)
own qos topic payload name text size =
    let string_is = name_is_string topic name text in
    record {
      plain = and_from (has_fields (p.Publish false AtMostOnce false topic 0 payload)) _ (and_from (is_string topic) _ string_is.0 refl)
          (short 0 (publish_body AtMostOnce topic 0 payload) (omega (arith, body_length AtMostOnce topic 0 payload, size, string_is.1, length-append (number (length topic)) topic, two (length topic))));
      numbered = λ h. and_from (has_fields (p.Publish false ExactlyOnce false topic 1 payload)) _ (and_from (is_string topic) _ string_is.0 refl)
          (short 0 (publish_body ExactlyOnce topic 1 payload) (omega (arith, body_length ExactlyOnce topic 1 payload, size, string_is.1, length-append (number (length topic)) topic, two (length topic), two 1)));
    }
