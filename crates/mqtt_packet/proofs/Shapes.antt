-- The grammar and the spelling: a packet's bytes are its spelling, and what is sound has one.
use Rattle.std.proofs.Common.{◌≡◌, ℕ, zero, suc, ◌+◌, ◌*◌, ◌<◌, ◌≤◌, Bool, true, false, eqb, List, [], ◌∷◌, ◌++◌, length, Option, Some, None, refl, sym, ap, ◌∙◌, append_assoc, arith, inl, inr}
use Rattle.std.specs.Prelude.{◌⊎◌, ◌&&◌, ◌||◌, not, nat_le, is_some, codes}
use Rattle.std.specs.List.{list_all, flat_map}
use Rattle.std.proofs.lemmas.Bool.{leb-true, le-leb, lt-ltb, ltb-true, eqb-true, eq-eqb, ne_eqb, and_parts, and_from, or_cases, or_left, or_right, not-true, not_from_false}
use Rattle.std.proofs.lemmas.List.Concat.{flat_map-cons}
use Rattle.mqtt_packet.specs.declared.qos.Qos.{Qos}
use Rattle.mqtt_packet.specs.declared.qos.Qos.TheVariants.{AtMostOnce, AtLeastOnce, ExactlyOnce}
use Rattle.mqtt_packet.specs.declared.packet.Packet.{Packet}
use Rattle.mqtt_packet.specs.declared.packet.Packet.TheVariants as p
use Rattle.mqtt_packet.specs.declared.will.Ask.{Ask}
use Rattle.mqtt_packet.specs.declared.will.Will.{Will}
use Rattle.mqtt_packet.specs.Flags.{bit, level}
use Rattle.mqtt_packet.specs.Grammar.{IsString, IsIdentifier, IsIdentifierAt, MayRepeat, IsPublish, AreAsks, AreFilters, AreReturnCodes, IsList, IsBody, IsConnect, IsWillWhereSome, IsStringWhereSome, IsDataWhereSome, HasUserForPassword, will_bits}
use Rattle.mqtt_packet.specs.Spelling.{number, string, identifier_for, publish_body, connect_body, connect_flags, will_flags, will_part, optional, extras, ask_bytes, body, is_string, is_data, is_identifier, is_delivery, is_will, are_credentials, is_ask, is_return_code, has_some, has_fields}
use Rattle.mqtt_packet.specs.Spelling.{IsOfItsTypes}
use Rattle.mqtt_packet.proofs.Numbers.{number_one, number_is, data_one, data_is, string_one, string_is, plain_string}

-- ---- Identifiers

some_identifier : (id : ℕ) → 0 < id → is_identifier id ≡ true
some_identifier id some = not_from_false _ (ne_eqb id 0 (λ z. omega (arith, some, z)))

above_zero : (id : ℕ) → is_identifier id ≡ true → 0 < id
above_zero zero e = absurd cc
above_zero (suc id) e = omega arith

pub identifier_one : (bytes : List ℕ) (id : ℕ) → IsIdentifier bytes id → (bytes ≡ number id) × (is_identifier id ≡ true) × (id < 65536)
identifier_one bytes id h = let n = number_one bytes id h.0 in (n.0, some_identifier id h.1, n.1)

pub identifier_is : (id : ℕ) → is_identifier id ≡ true → id < 65536 → IsIdentifier (number id) id
identifier_is id e lt = (number_is id lt, above_zero id e)

-- ---- PUBLISH

at_one : (dup : Bool) (qos : Qos) (bytes : List ℕ) (id : ℕ) → IsIdentifierAt qos bytes id → MayRepeat qos dup → (bytes ≡ identifier_for qos id) × (is_delivery dup qos id ≡ true) × (id < 65536)
at_one dup AtMostOnce bytes id h may = (h.0, and_from _ _ (eq-eqb id 0 h.1) (not_from_false dup may), omega (arith, h.1))
at_one dup AtLeastOnce bytes id h may = identifier_one bytes id h
at_one dup ExactlyOnce bytes id h may = identifier_one bytes id h

at_is : (dup : Bool) (qos : Qos) (id : ℕ) → is_delivery dup qos id ≡ true → id < 65536 → IsIdentifierAt qos (identifier_for qos id) id × MayRepeat qos dup
at_is dup AtMostOnce id e lt = let parts = and_parts (eqb id 0) (not dup) e in ((refl, eqb-true id 0 parts.0), not-true dup parts.1)
at_is dup AtLeastOnce id e lt = (identifier_is id e lt, tt)
at_is dup ExactlyOnce id e lt = (identifier_is id e lt, tt)

publish_one : (dup : Bool) (qos : Qos) (topic : List ℕ) (id : ℕ) (payload bytes : List ℕ) → IsPublish dup qos topic id payload bytes
    → (bytes ≡ publish_body qos topic id payload) × ((is_string topic && is_delivery dup qos id) ≡ true) × (id < 65536)
publish_one dup qos topic id payload bytes h =
    let name = string_one h.0 topic h.3 in
    let at = at_one dup qos h.1 id h.4 h.5 in
    (h.2 ∙ ap (λ (t : List ℕ). t ++ (h.1 ++ payload)) name.0 ∙ ap (λ (t : List ℕ). string topic ++ (t ++ payload)) at.0 ∙ sym (append_assoc (string topic) (identifier_for qos id) payload), and_from _ _ name.1 at.1, at.2)

publish_is : (dup : Bool) (qos : Qos) (topic : List ℕ) (id : ℕ) (payload : List ℕ) → (is_string topic && is_delivery dup qos id) ≡ true → id < 65536 → IsPublish dup qos topic id payload (publish_body qos topic id payload)
publish_is dup qos topic id payload e lt =
    let parts = and_parts (is_string topic) (is_delivery dup qos id) e in
    let at = at_is dup qos id parts.1 lt in
    (string topic, identifier_for qos id, append_assoc (string topic) (identifier_for qos id) payload, string_is topic parts.0, at.0, at.1)

-- ---- CONNACK

no_session : (present : Bool) (code : ℕ) → (code ≡ 0) ⊎ (present ≡ false) → (eqb code 0 || not present) ≡ true
no_session present code (inl z) = or_left _ _ (eq-eqb code 0 z)
no_session present code (inr e) = or_right _ _ (not_from_false present e)

may_be_present : (present : Bool) (code : ℕ) → (eqb code 0 || not present) ≡ true → (code ≡ 0) ⊎ (present ≡ false)
may_be_present present code e = elim (or_cases (eqb code 0) (not present) e) [ inl z ↦ inl (eqb-true code 0 z) | inr n ↦ inr (not-true present n) ]

-- ---- Lists

some_members : {X : Type 0} (xs : List X) → 0 < length xs → has_some xs ≡ true
some_members xs some = not_from_false _ (ne_eqb (length xs) 0 (λ z. omega (arith, some, z)))

has_members : {X : Type 0} (xs : List X) → has_some xs ≡ true → 0 < length xs
has_members [] e = absurd cc
has_members (x ∷ xs) e = omega arith

asks_one : (asks : List Ask) (bytes : List ℕ) → AreAsks asks bytes → (bytes ≡ flat_map ask_bytes asks) × (list_all is_ask asks ≡ true)
asks_one [] bytes h = (h, refl)
asks_one (ask ∷ asks) bytes h =
    let name = string_one h.0 ask.filter h.3 in
    let rest = asks_one asks h.1 h.4 in (
      h.2 ∙ ap (λ (t : List ℕ). t ++ level ask.qos ∷ h.1) name.0 ∙ ap (λ (t : List ℕ). string ask.filter ++ level ask.qos ∷ t) rest.0 ∙ sym (append_assoc (string ask.filter) (level ask.qos ∷ []) (flat_map ask_bytes asks)) ∙ sym (flat_map-cons ask_bytes ask asks),
      and_from _ _ name.1 rest.1,
    )

asks_are : (asks : List Ask) → list_all is_ask asks ≡ true → AreAsks asks (flat_map ask_bytes asks)
asks_are [] e = refl
asks_are (ask ∷ asks) e =
    let parts = and_parts (is_ask ask) (list_all is_ask asks) e in
    (string ask.filter, flat_map ask_bytes asks, flat_map-cons ask_bytes ask asks ∙ append_assoc (string ask.filter) (level ask.qos ∷ []) (flat_map ask_bytes asks), string_is ask.filter parts.0, asks_are asks parts.1)

filters_one : (filters : List (List ℕ)) (bytes : List ℕ) → AreFilters filters bytes → (bytes ≡ flat_map string filters) × (list_all is_string filters ≡ true)
filters_one [] bytes h = (h, refl)
filters_one (filter ∷ filters) bytes h =
    let name = string_one h.0 filter h.3 in
    let rest = filters_one filters h.1 h.4 in
    (h.2 ∙ ap (λ (t : List ℕ). t ++ h.1) name.0 ∙ ap (λ (t : List ℕ). string filter ++ t) rest.0 ∙ sym (flat_map-cons string filter filters), and_from _ _ name.1 rest.1)

filters_are : (filters : List (List ℕ)) → list_all is_string filters ≡ true → AreFilters filters (flat_map string filters)
filters_are [] e = refl
filters_are (filter ∷ filters) e =
    let parts = and_parts (is_string filter) (list_all is_string filters) e in
    (string filter, flat_map string filters, flat_map-cons string filter filters, string_is filter parts.0, filters_are filters parts.1)

code_one : (code : ℕ) → (code ≤ 2) ⊎ (code ≡ 128) → is_return_code code ≡ true
code_one code (inl le) = or_left _ _ (le-leb code 2 le)
code_one code (inr e) = or_right _ _ (eq-eqb code 128 e)

code_is : (code : ℕ) → is_return_code code ≡ true → (code ≤ 2) ⊎ (code ≡ 128)
code_is code e = elim (or_cases (nat_le code 2) (eqb code 128) e) [ inl le ↦ inl (leb-true code 2 le) | inr e ↦ inr (eqb-true code 128 e) ]

codes_one : (return_codes : List ℕ) → AreReturnCodes return_codes → list_all is_return_code return_codes ≡ true
codes_one [] h = refl
codes_one (code ∷ return_codes) h = and_from _ _ (code_one code h.0) (codes_one return_codes h.1)

codes_are : (return_codes : List ℕ) → list_all is_return_code return_codes ≡ true → AreReturnCodes return_codes
codes_are [] e = tt
codes_are (code ∷ return_codes) e =
    let parts = and_parts (is_return_code code) (list_all is_return_code return_codes) e in
    (code_is code parts.0, codes_are return_codes parts.1)

-- an identifier and a list whose bytes are known
list_one : {X : Type 0} (id : ℕ) (xs : List X) (Are : List ℕ → Type 0) (text : List ℕ) (all : Bool) (bytes : List ℕ) → ((rest : List ℕ) → Are rest → (rest ≡ text) × (all ≡ true)) → IsList id xs Are bytes
    → (bytes ≡ number id ++ text) × ((is_identifier id && (has_some xs && all)) ≡ true) × (id < 65536)
list_one id xs Are text all bytes one h =
    let n = identifier_one h.0 id h.3 in
    let rest = one h.1 h.5 in
    (h.2 ∙ ap (λ (t : List ℕ). t ++ h.1) n.0 ∙ ap (λ (t : List ℕ). number id ++ t) rest.0, and_from _ _ n.1 (and_from _ _ (some_members xs h.4) rest.1), n.2)

list_is : {X : Type 0} (id : ℕ) (xs : List X) (Are : List ℕ → Type 0) (text : List ℕ) (all : Bool) → (all ≡ true → Are text) → (is_identifier id && (has_some xs && all)) ≡ true → id < 65536 → IsList id xs Are (number id ++ text)
list_is id xs Are text all is e lt =
    let parts = and_parts (is_identifier id) (has_some xs && all) e in
    let two = and_parts (has_some xs) all parts.1 in
    (number id, text, refl, identifier_is id parts.0 lt, has_members xs two.0, is two.1)

-- ---- CONNECT

will_one : (will : Option Will) (bytes : List ℕ) → IsWillWhereSome bytes will → (bytes ≡ will_part will) × (is_will will ≡ true)
will_one None bytes h = (h, refl)
will_one (Some will) bytes h =
    let topic = string_one h.0 will.topic h.3 in
    let message = data_one h.1 will.message h.4 in
    (h.2 ∙ ap (λ (t : List ℕ). t ++ h.1) topic.0 ∙ ap (λ (t : List ℕ). string will.topic ++ t) message.0, and_from _ _ topic.1 (lt-ltb _ _ message.1))

will_is : (will : Option Will) → is_will will ≡ true → IsWillWhereSome (will_part will) will
will_is None e = refl
will_is (Some will) e =
    let parts = and_parts (is_string will.topic) (is_data will.message) e in
    (string will.topic, string will.message, refl, string_is will.topic parts.0, data_is will.message (ltb-true _ _ parts.1))

credentials_one : (user password : Option (List ℕ)) (users passwords : List ℕ) → IsStringWhereSome users user → IsDataWhereSome passwords password → HasUserForPassword user password
    → (users ≡ optional user) × (passwords ≡ optional password) × (are_credentials user password ≡ true)
credentials_one None None users passwords u w h = (u, w, refl)
credentials_one None (Some password) users passwords u w h = absurd h
credentials_one (Some user) None users passwords u w h = let s = string_one users user u in (s.0, w, s.1)
credentials_one (Some user) (Some password) users passwords u w h =
    let s = string_one users user u in
    let d = data_one passwords password w in
    (s.0, d.0, and_from _ _ s.1 (lt-ltb _ _ d.1))

credentials_are : (user password : Option (List ℕ)) → are_credentials user password ≡ true → IsStringWhereSome (optional user) user × IsDataWhereSome (optional password) password × HasUserForPassword user password
credentials_are None None e = (refl, refl, tt)
credentials_are None (Some password) e = absurd cc
credentials_are (Some user) None e = (string_is user e, refl, tt)
credentials_are (Some user) (Some password) e =
    let parts = and_parts (is_string user) (is_data password) e in
    (string_is user parts.0, data_is password (ltb-true _ _ parts.1), tt)

will_bits_are : (will : Option Will) → will_bits will ≡ will_flags will
will_bits_are None = refl
will_bits_are (Some will) = omega arith

flags_are : (clean : Bool) (will : Option Will) (user password : Option (List ℕ)) → 128 * bit (is_some user) + 64 * bit (is_some password) + will_bits will + 2 * bit clean ≡ connect_flags clean will user password
flags_are clean will user password = omega (arith, will_bits_are will)

mqtt_is : IsString (string (codes "MQTT")) (codes "MQTT")
mqtt_is = string_is (codes "MQTT") (plain_string (codes "MQTT") (omega arith) refl)

-- the parts of a CONNECT, one behind the other
grouped : (front : List ℕ) (flags : ℕ) (seconds client behind : List ℕ) → front ++ 4 ∷ flags ∷ (seconds ++ (client ++ behind)) ≡ front ++ 4 ∷ [] ++ flags ∷ [] ++ seconds ++ client ++ behind
grouped front flags seconds client behind = simp append_assoc refl

connect_one : (clean : Bool) (keep_alive : ℕ) (client : List ℕ) (will : Option Will) (user password : Option (List ℕ)) (bytes : List ℕ) → IsConnect clean keep_alive client will user password bytes
    → (bytes ≡ connect_body clean keep_alive client will user password) × ((are_credentials user password && (is_will will && is_string client)) ≡ true) × (keep_alive < 65536)
connect_one clean keep_alive client will user password bytes (name, flags, seconds, own, wills, users, passwords, e, mqtt, f, k, c, w, u, x, h) =
    let name_is = (string_one name (codes "MQTT") mqtt).0 in
    let seconds_are = number_one seconds keep_alive k in
    let own_is = string_one own client c in
    let wills_are = will_one will wills w in
    let both = credentials_one user password users passwords u x h in
    let flags_is = f ∙ flags_are clean will user password in (
      e ∙ ap (λ (t : List ℕ). t ++ 4 ∷ flags ∷ (seconds ++ (own ++ (wills ++ (users ++ passwords))))) name_is
          ∙ ap (λ (n : ℕ). string (codes "MQTT") ++ 4 ∷ n ∷ (seconds ++ (own ++ (wills ++ (users ++ passwords))))) flags_is
          ∙ ap (λ (t : List ℕ). string (codes "MQTT") ++ 4 ∷ connect_flags clean will user password ∷ (t ++ (own ++ (wills ++ (users ++ passwords))))) seconds_are.0
          ∙ ap (λ (t : List ℕ). string (codes "MQTT") ++ 4 ∷ connect_flags clean will user password ∷ (number keep_alive ++ (t ++ (wills ++ (users ++ passwords))))) own_is.0
          ∙ ap (λ (t : List ℕ). string (codes "MQTT") ++ 4 ∷ connect_flags clean will user password ∷ (number keep_alive ++ (string client ++ (t ++ (users ++ passwords))))) wills_are.0
          ∙ ap (λ (t : List ℕ). string (codes "MQTT") ++ 4 ∷ connect_flags clean will user password ∷ (number keep_alive ++ (string client ++ (will_part will ++ (t ++ passwords))))) both.0
          ∙ ap (λ (t : List ℕ). string (codes "MQTT") ++ 4 ∷ connect_flags clean will user password ∷ (number keep_alive ++ (string client ++ (will_part will ++ (optional user ++ t))))) both.1
          ∙ grouped (string (codes "MQTT")) (connect_flags clean will user password) (number keep_alive) (string client) (extras will user password),
      and_from _ _ both.2 (and_from _ _ wills_are.1 own_is.1),
      seconds_are.1,
    )

connect_is : (clean : Bool) (keep_alive : ℕ) (client : List ℕ) (will : Option Will) (user password : Option (List ℕ)) → (are_credentials user password && (is_will will && is_string client)) ≡ true → keep_alive < 65536
    → IsConnect clean keep_alive client will user password (connect_body clean keep_alive client will user password)
connect_is clean keep_alive client will user password e lt =
    let parts = and_parts (are_credentials user password) (is_will will && is_string client) e in
    let two = and_parts (is_will will) (is_string client) parts.1 in
    let both = credentials_are user password parts.0 in (
      string (codes "MQTT"),
      connect_flags clean will user password,
      number keep_alive,
      string client,
      will_part will,
      optional user,
      optional password,
      sym (grouped (string (codes "MQTT")) (connect_flags clean will user password) (number keep_alive) (string client) (extras will user password)),
      mqtt_is,
      sym (flags_are clean will user password),
      number_is keep_alive lt,
      string_is client two.1,
      will_is will two.0,
      both.0,
      both.1,
      both.2,
    )

-- ---- All packets

pub body_one : (packet : Packet) (bytes : List ℕ) → IsBody packet bytes → (bytes ≡ body packet) × (has_fields packet ≡ true) × IsOfItsTypes packet
body_one (p.Connect clean keep_alive client will user password) bytes h = connect_one clean keep_alive client will user password bytes h
body_one (p.ConnAck present code) bytes h = (h.0, and_from _ _ (le-leb code 5 h.1) (no_session present code h.2), tt)
body_one (p.Publish dup qos retain topic id payload) bytes h = publish_one dup qos topic id payload bytes h
body_one (p.PubAck id) bytes h = identifier_one bytes id h
body_one (p.PubRec id) bytes h = identifier_one bytes id h
body_one (p.PubRel id) bytes h = identifier_one bytes id h
body_one (p.PubComp id) bytes h = identifier_one bytes id h
body_one (p.Subscribe id asks) bytes h = list_one id asks (AreAsks asks) (flat_map ask_bytes asks) (list_all is_ask asks) bytes (asks_one asks) h
body_one (p.SubAck id return_codes) bytes h = list_one id return_codes (λ rest. (rest ≡ return_codes) × AreReturnCodes return_codes) return_codes (list_all is_return_code return_codes) bytes (λ rest are. (are.0, codes_one return_codes are.1)) h
body_one (p.Unsubscribe id filters) bytes h = list_one id filters (AreFilters filters) (flat_map string filters) (list_all is_string filters) bytes (filters_one filters) h
body_one (p.UnsubAck id) bytes h = identifier_one bytes id h
body_one p.PingReq bytes h = (h, refl, tt)
body_one p.PingResp bytes h = (h, refl, tt)
body_one p.Disconnect bytes h = (h, refl, tt)

pub body_is : (packet : Packet) → has_fields packet ≡ true → IsOfItsTypes packet → IsBody packet (body packet)
body_is (p.Connect clean keep_alive client will user password) e fits = connect_is clean keep_alive client will user password e fits
body_is (p.ConnAck present code) e fits =
    let parts = and_parts (nat_le code 5) (eqb code 0 || not present) e in
    (refl, leb-true code 5 parts.0, may_be_present present code parts.1)
body_is (p.Publish dup qos retain topic id payload) e fits = publish_is dup qos topic id payload e fits
body_is (p.PubAck id) e fits = identifier_is id e fits
body_is (p.PubRec id) e fits = identifier_is id e fits
body_is (p.PubRel id) e fits = identifier_is id e fits
body_is (p.PubComp id) e fits = identifier_is id e fits
body_is (p.Subscribe id asks) e fits = list_is id asks (AreAsks asks) (flat_map ask_bytes asks) (list_all is_ask asks) (asks_are asks) e fits
body_is (p.SubAck id return_codes) e fits = list_is id return_codes (λ rest. (rest ≡ return_codes) × AreReturnCodes return_codes) return_codes (list_all is_return_code return_codes) (λ e. (refl, codes_are return_codes e)) e fits
body_is (p.Unsubscribe id filters) e fits = list_is id filters (AreFilters filters) (flat_map string filters) (list_all is_string filters) (filters_are filters) e fits
body_is (p.UnsubAck id) e fits = identifier_is id e fits
body_is p.PingReq e fits = refl
body_is p.PingResp e fits = refl
body_is p.Disconnect e fits = refl
