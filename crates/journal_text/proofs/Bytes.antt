-- A spelling is of bytes.
use Rattle.std.proofs.Common.{◌≡◌, ℕ, zero, suc, ◌+◌, ◌/◌, ◌%◌, ◌≤◌, Bool, true, false, cond, List, [], ◌∷◌, ◌++◌, length, Option, Some, None, is_some, refl, arith}
use Rattle.std.specs.Prelude.{nat_lt, codes}
use Rattle.std.specs.List.{flat_map, AllByRecursion}
use Rattle.std.proofs.lemmas.Bool.{ltb-true}
use Rattle.mqtt_packet.specs.declared.packet.Packet.{Packet}
use Rattle.mqtt_packet.specs.declared.packet.Packet.TheVariants as p
use Rattle.mqtt_packet.specs.declared.qos.Qos.{Qos}
use Rattle.mqtt_packet.specs.declared.qos.Qos.TheVariants.{AtMostOnce, AtLeastOnce, ExactlyOnce}
use Rattle.mqtt_packet.specs.declared.will.Ask.{Ask}
use Rattle.mqtt_packet.specs.declared.will.Will.{Will}
use Rattle.mqtt_packet.specs.Flags.{bit, level}
use Rattle.mqtt_packet.specs.Spelling.{spelling, first, number, string, protocol, will_flags, connect_flags, will_part, optional, extras, connect_body, identifier_for, ask_bytes, body, groups, remaining}
use Rattle.agent_table.proofs.SoundRows.{all_both}
use Rattle.journal_text.specs.Typed.{IsByte, AreBytes, HasBytes, HasWillBytes, HasSomeBytes, HasFieldsOfBytes}

bit_low : (b : Bool) → bit b ≤ 1
bit_low true = omega arith
bit_low false = omega arith

level_low : (qos : Qos) → level qos ≤ 2
level_low AtMostOnce = omega arith
level_low AtLeastOnce = omega arith
level_low ExactlyOnce = omega arith

number_bytes : (n : ℕ) → AreBytes (number n)
number_bytes n = (omega arith, (omega arith, tt))

string_bytes : (bytes : List ℕ) → AreBytes bytes → AreBytes (string bytes)
string_bytes bytes all = all_both IsByte (number (length bytes)) bytes (number_bytes (length bytes)) all

protocol_bytes : AreBytes protocol
protocol_bytes = all_both IsByte (string (codes "MQTT")) (4 ∷ []) (string_bytes (codes "MQTT") (omega arith, (omega arith, (omega arith, (omega arith, tt))))) (omega arith, tt)

by_size : (low : Bool) (n k : ℕ) (rest : List ℕ) → nat_lt n 128 ≡ low → AreBytes rest → AreBytes (cond low (n ∷ []) ((n % 128 + 128) ∷ rest))
by_size true n k rest e all = let low = ltb-true n 128 e in (omega (arith, low), tt)
by_size false n k rest e all = (omega arith, all)

groups_bytes : (k n : ℕ) → AreBytes (groups k n)
unfolding groups
groups_bytes zero n = tt
groups_bytes (suc k) n = by_size (nat_lt n 128) n k (groups k (n / 128)) refl (groups_bytes k (n / 128))

will_flags_low : (will : Option Will) → will_flags will ≤ 52
will_flags_low None = omega arith
will_flags_low (Some will) = let a = level_low will.qos in let b = bit_low will.retain in omega (arith, a, b)

will_bytes : (will : Option Will) → HasWillBytes will → AreBytes (will_part will)
will_bytes None all = tt
will_bytes (Some will) all = all_both IsByte (string will.topic) (string will.message) (string_bytes will.topic all.0) (string_bytes will.message all.1)

some_bytes : (content : Option (List ℕ)) → HasSomeBytes content → AreBytes (optional content)
some_bytes None all = tt
some_bytes (Some bytes) all = string_bytes bytes all

identifier_bytes : (qos : Qos) (id : ℕ) → AreBytes (identifier_for qos id)
identifier_bytes AtMostOnce id = tt
identifier_bytes AtLeastOnce id = number_bytes id
identifier_bytes ExactlyOnce id = number_bytes id

asks_bytes : (asks : List Ask) → AllByRecursion HasBytes asks → AreBytes (flat_map ask_bytes asks)
asks_bytes [] all = tt
asks_bytes (ask ∷ asks) all =
    all_both IsByte (ask_bytes ask) (flat_map ask_bytes asks) (all_both IsByte (string ask.filter) (level ask.qos ∷ []) (string_bytes ask.filter all.0) (let low = level_low ask.qos in omega (arith, low), tt)) (asks_bytes asks all.1)

filters_bytes : (filters : List (List ℕ)) → AllByRecursion AreBytes filters → AreBytes (flat_map string filters)
filters_bytes [] all = tt
filters_bytes (filter ∷ filters) all = all_both IsByte (string filter) (flat_map string filters) (string_bytes filter all.0) (filters_bytes filters all.1)

connect_bytes : (clean : Bool) (keep_alive : ℕ) (client : List ℕ) (will : Option Will) (user password : Option (List ℕ)) → HasFieldsOfBytes (p.Connect clean keep_alive client will user password) → AreBytes (connect_body clean keep_alive client will user password)
connect_bytes clean keep_alive client will user password all =
    let a = bit_low clean in let b = will_flags_low will in let d = bit_low (is_some password) in let e = bit_low (is_some user) in
    let flags : IsByte (connect_flags clean will user password) = omega (arith, a, b, d, e) in
    let behind = all_both IsByte (will_part will) (optional user ++ optional password) (will_bytes will all.1) (all_both IsByte (optional user) (optional password) (some_bytes user all.2) (some_bytes password all.3)) in
    all_both IsByte (((protocol ++ connect_flags clean will user password ∷ []) ++ number keep_alive) ++ string client) (extras will user password)
    (all_both IsByte ((protocol ++ connect_flags clean will user password ∷ []) ++ number keep_alive) (string client)
    (all_both IsByte (protocol ++ connect_flags clean will user password ∷ []) (number keep_alive) (all_both IsByte protocol (connect_flags clean will user password ∷ []) protocol_bytes (flags, tt)) (number_bytes keep_alive)) (string_bytes client all.0)) behind

body_bytes : (packet : Packet) → HasFieldsOfBytes packet → AreBytes (body packet)
body_bytes (p.Connect clean keep_alive client will user password) all = connect_bytes clean keep_alive client will user password all
body_bytes (p.ConnAck present code) all = let low = bit_low present in (omega (arith, low), (all, tt))
body_bytes (p.Publish dup qos retain topic id payload) all = all_both IsByte (string topic ++ identifier_for qos id) payload (all_both IsByte (string topic) (identifier_for qos id) (string_bytes topic all.0) (identifier_bytes qos id)) all.1
body_bytes (p.PubAck id) all = number_bytes id
body_bytes (p.PubRec id) all = number_bytes id
body_bytes (p.PubRel id) all = number_bytes id
body_bytes (p.PubComp id) all = number_bytes id
body_bytes (p.Subscribe id asks) all = all_both IsByte (number id) (flat_map ask_bytes asks) (number_bytes id) (asks_bytes asks all)
body_bytes (p.SubAck id return_codes) all = all_both IsByte (number id) return_codes (number_bytes id) all
body_bytes (p.Unsubscribe id filters) all = all_both IsByte (number id) (flat_map string filters) (number_bytes id) (filters_bytes filters all)
body_bytes (p.UnsubAck id) all = number_bytes id
body_bytes p.PingReq all = tt
body_bytes p.PingResp all = tt
body_bytes p.Disconnect all = tt

first_byte : (packet : Packet) → IsByte (first packet)
first_byte (p.Publish dup qos retain topic id payload) = let a = bit_low dup in let b = level_low qos in let d = bit_low retain in omega (arith, a, b, d)
first_byte (p.Connect clean keep_alive client will user password) = omega arith
first_byte packet = omega arith

pub spelling_bytes : (packet : Packet) → HasFieldsOfBytes packet → AreBytes (spelling packet)
spelling_bytes packet all = (first_byte packet, all_both IsByte (remaining (length (body packet))) (body packet) (groups_bytes 4 (length (body packet))) (body_bytes packet all))
