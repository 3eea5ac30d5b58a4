-- Packets that the agent makes of valid requests have a spelling.
use Rattle.std.proofs.Common.{◌≡◌, ℕ, zero, suc, ◌*◌, ◌<◌, ◌≤◌, Bool, true, false, cond, List, [], ◌∷◌, ◌++◌, length, refl, ap, subst, arith, length-append}
use Rattle.std.specs.Prelude.{◌&&◌, ◌||◌, ◌==◌, ◌/◌, not, nat_lt, nat_le}
use Rattle.std.specs.List.{list_all, list_any, flat_map, onto_first, AllByRecursion}
use Rattle.std.specs.Str.{is_utf8, bytes_eq, IsAscii}
use Rattle.std.proofs.lemmas.Bool.{cases_Bool, le-leb, leb-true, lt-ltb, ne_eqb, eqb-true, and_parts, and_from, or_parts}
use Rattle.std.proofs.lemmas.Str.{is_utf8-from_IsUtf8, IsUtf8-from_ascii}
use mathlib.Core.Logic.{inl, inr}
use Rattle.std.proofs.lemmas.Slice.Eq.{bytes_eq-Decides}
use Rattle.mqtt_packet.specs.declared.qos.Qos.{Qos}
use Rattle.mqtt_packet.specs.declared.qos.Qos.TheVariants.{AtMostOnce, AtLeastOnce, ExactlyOnce}
use Rattle.mqtt_packet.specs.declared.packet.Packet.{Packet}
use Rattle.mqtt_packet.specs.declared.packet.Packet.TheVariants as p
use Rattle.mqtt_packet.specs.declared.will.Ask.{Ask}
use Rattle.mqtt_packet.specs.Spelling.{groups, spelling, body, has_fields, is_sound, is_string, is_identifier, is_delivery, is_ask, has_some, identifier_for, ask_bytes, string}
use Rattle.mqtt_packet.specs.Flags.{level}
use Rattle.topic_filter.specs.Levels.{levels_of, plus, hash}
use Rattle.topic_filter.specs.Texts as texts
use Rattle.topic_filter.proofs.Parts.{some_level}
use Rattle.agent_journal.specs.declared.request.Request.TheVariants as requests
use Rattle.agent_journal.specs.declared.setup.Setup.{Setup}
use Rattle.agent_journal.specs.Setups.{is_client, is_printed}
use Rattle.agent_table.specs.Breaks.{connect}
use Rattle.agent_journal.specs.Requests.{is_valid, is_topic, is_wanted, is_short}

-- ---- Packets

flag : (b : Bool) → (b ≡ true → ⊥) → b ≡ false
flag true not_true = absurd (not_true refl)
flag false not_true = refl

short_groups : (k n : ℕ) → length (groups k n) ≤ k
unfolding groups
short_groups zero n = omega arith
short_groups (suc k) n =
    let rest = short_groups k (n / 128) in
    elim (cases_Bool (nat_lt n 128)) [ inl small ↦ rw small (omega arith) | inr large ↦ rw large (omega arith) ]

fits : (packet : Packet) → has_fields packet ≡ true → length (body packet) ≤ 200000 → is_sound packet ≡ true
fits packet fields small =
    let head = short_groups 4 (length (body packet)) in
    and_from (has_fields packet) (nat_le (length (spelling packet)) 262144) fields
    (le-leb (length (spelling packet)) 262144 (omega (arith, length-append (groups 4 (length (body packet))) (body packet))))

-- no byte is 0 where each passes a test that 0 doesn't
no_zero : (test : ℕ → Bool) → (test 0 ≡ false) → (bytes : List ℕ) → list_all test bytes ≡ true → list_any (λ b. b == 0) bytes ≡ false
no_zero test fails [] e = refl
no_zero test fails (b ∷ bytes) e =
    let parts = and_parts (test b) (list_all test bytes) e in
    let here : (b == 0) ≡ false = flag (b == 0) (λ zero_is. let z : b ≡ 0 = eqb-true b 0 zero_is in let t : test 0 ≡ true = subst (λ (n : ℕ). test n ≡ true) z parts.0 in absurd (cc (fails, t))) in
    rw here (no_zero test fails bytes parts.1)

in_ascii : (bytes : List ℕ) → list_all is_printed bytes ≡ true → IsAscii bytes
in_ascii [] e i = omega arith
in_ascii (b ∷ bytes) e zero = let parts = and_parts (is_printed b) (list_all is_printed bytes) e in let high = leb-true b 126 (and_parts (nat_le 33 b) (nat_le b 126) parts.0).1 in omega arith
in_ascii (b ∷ bytes) e (suc i) = in_ascii bytes (and_parts (is_printed b) (list_all is_printed bytes) e).1 i

string_of : (bytes : List ℕ) → length bytes < 65536 → is_utf8 bytes ≡ true → list_any (λ b. b == 0) bytes ≡ false → is_string bytes ≡ true
string_of bytes short text none = and_from (nat_lt (length bytes) 65536 && is_utf8 bytes) (not (list_any (λ b. b == 0) bytes)) (and_from (nat_lt (length bytes) 65536) (is_utf8 bytes) (lt-ltb (length bytes) 65536 short) text) (ap not none)

pub connect_sound : (s : Setup) (clean : Bool) → is_client s.client ≡ true → is_sound (connect s clean) ≡ true
unfolding is_client
connect_sound s clean client =
    let front = and_parts (nat_lt 0 (length s.client) && nat_le (length s.client) 128) (list_all is_printed s.client) client in
    let small = leb-true (length s.client) 128 (and_parts (nat_lt 0 (length s.client)) (nat_le (length s.client) 128) front.0).1 in
    let text = is_utf8-from_IsUtf8 s.client (IsUtf8-from_ascii s.client (in_ascii s.client front.1)) in
    fits (connect s clean) (and_from true (is_string s.client) refl (string_of s.client (omega arith) text (no_zero is_printed refl s.client front.1))) (omega (arith, length-append s.client []))

-- ---- Texts

-- no byte is 0
abbrev IsFree : List ℕ → Type 0
IsFree text = list_any (λ b. b == 0) text ≡ false

free_by : (slash : Bool) (b : ℕ) (text : List ℕ) (parts : List (List ℕ)) → (b == 47) ≡ slash → 0 < length parts → (AllByRecursion IsFree parts → IsFree text) → AllByRecursion IsFree (cond slash ([] ∷ parts) (onto_first b parts)) → IsFree (b ∷ text)
free_by true b text parts e some others all =
    let b_is : b ≡ 47 = eqb-true b 47 e in
    rw b_is (others all.1)
free_by false b text [] e some others all = absurd (omega (arith, some))
free_by false b text (level ∷ parts) e some others all =
    let two = or_parts (b == 0) (list_any (λ c. c == 0) level) all.0 in
    rw two.0 (others (two.1, all.1))

-- a text whose levels have no byte 0
free_text : (text : List ℕ) → AllByRecursion IsFree (levels_of text) → IsFree text
free_text [] all = refl
free_text (b ∷ text) all = free_by (b == 47) b text (levels_of text) refl (some_level text) (free_text text) all

either : (wild : Bool) (level : List ℕ) (card : List ℕ) (others : Bool) → bytes_eq level card ≡ wild → IsFree card → (others ≡ true → IsFree level) → (wild || others) ≡ true → IsFree level
either true level card others e free rest h = let same : level ≡ card = (bytes_eq-Decides level card).0 e in rw same free
either false level card others e free rest h = rest h

free_level : (level : List ℕ) → texts.is_filter_level level ≡ true → IsFree level
free_level level h = either (bytes_eq level plus) level plus (list_all texts.is_name_byte level) refl refl (λ e. no_zero texts.is_name_byte refl level e) h

free_levels : (levels : List (List ℕ)) → texts.are_filter_levels levels ≡ true → AllByRecursion IsFree levels
free_levels [] h = tt
free_levels (level ∷ []) h = (either (bytes_eq level hash) level hash (texts.is_filter_level level) refl refl (free_level level) h, tt)
free_levels (level ∷ below ∷ levels) h =
    let two = and_parts (texts.is_filter_level level) (texts.are_filter_levels (below ∷ levels)) h in
    (free_level level two.0, free_levels (below ∷ levels) two.1)

-- a filter of a valid request
pub record Text (text : List ℕ) : Type 0 where
  pub is : is_string text ≡ true
  pub few : length text ≤ 1024

pub wanted_text : (text : List ℕ) → is_wanted text ≡ true → Text text
unfolding texts.is_filter
wanted_text text h =
    let two = and_parts (is_short text) (texts.is_filter text) h in
    let short = and_parts (is_utf8 text) (nat_le (length text) 1024) two.0 in
    let few = leb-true (length text) 1024 short.1 in
    let levels = and_parts (texts.has_length text) (texts.are_filter_levels (levels_of text)) two.1 in
    record { is = string_of text (omega (arith, few)) short.0 (free_text text (free_levels (levels_of text) levels.1)); few = few }

-- ---- Packets of an identifier

pub identifier : (id : ℕ) → 0 < id → is_identifier id ≡ true
identifier id low = ap not (ne_eqb id 0 (λ e. omega (arith, e, low)))

pub puback_sound : (id : ℕ) → is_identifier id ≡ true → is_sound (p.PubAck id) ≡ true
puback_sound id e = fits (p.PubAck id) e (omega arith)

pub pubrec_sound : (id : ℕ) → is_identifier id ≡ true → is_sound (p.PubRec id) ≡ true
pubrec_sound id e = fits (p.PubRec id) e (omega arith)

pub pubrel_sound : (id : ℕ) → is_identifier id ≡ true → is_sound (p.PubRel id) ≡ true
pubrel_sound id e = fits (p.PubRel id) e (omega arith)

pub pubcomp_sound : (id : ℕ) → is_identifier id ≡ true → is_sound (p.PubComp id) ≡ true
pubcomp_sound id e = fits (p.PubComp id) e (omega arith)

pub ping_sound : is_sound p.PingReq ≡ true
ping_sound = fits p.PingReq refl (omega arith)

pub disconnect_sound : is_sound p.Disconnect ≡ true
disconnect_sound = fits p.Disconnect refl (omega arith)

-- ---- Publishes

identifier_len : (qos : Qos) (id : ℕ) → length (identifier_for qos id) ≤ 2
identifier_len AtMostOnce id = omega arith
identifier_len AtLeastOnce id = omega arith
identifier_len ExactlyOnce id = omega arith

pub publish_sound : (dup : Bool) (qos : Qos) (topic : List ℕ) (id : ℕ) (payload : List ℕ) → is_valid (requests.Publish qos topic payload) ≡ true → is_delivery dup qos id ≡ true → is_sound (p.Publish dup qos false topic id payload) ≡ true
unfolding is_valid texts.is_name
publish_sound dup qos topic id payload valid delivery =
    let two = and_parts (is_topic topic) (nat_le (length payload) 131072) valid in
    let one = and_parts (is_short topic) (texts.is_name topic) two.0 in
    let short = and_parts (is_utf8 topic) (nat_le (length topic) 1024) one.0 in
    let name = and_parts (texts.has_length topic) (list_all texts.is_name_byte topic) one.1 in
    let few = leb-true (length topic) 1024 short.1 in
    let small = leb-true (length payload) 131072 two.1 in
    fits (p.Publish dup qos false topic id payload)
    (and_from (is_string topic) (is_delivery dup qos id) (string_of topic (omega (arith, few)) short.0 (no_zero texts.is_name_byte refl topic name.1)) delivery)
    (omega (arith, few, small, identifier_len qos id, length-append (string topic ++ identifier_for qos id) payload, length-append (string topic) (identifier_for qos id)))

-- ---- Subscribes and unsubscribes

abbrev pub IsWellAsk : Ask → Type 0
IsWellAsk ask = is_wanted ask.filter ≡ true

abbrev pub IsWellFilter : List ℕ → Type 0
IsWellFilter filter = is_wanted filter ≡ true

asks_are : (asks : List Ask) → AllByRecursion IsWellAsk asks → list_all is_ask asks ≡ true
asks_are [] all = refl
asks_are (ask ∷ asks) all = and_from (is_ask ask) (list_all is_ask asks) (wanted_text ask.filter all.0).is (asks_are asks all.1)

asks_len : (asks : List Ask) → AllByRecursion IsWellAsk asks → length (flat_map ask_bytes asks) ≤ 1027 * length asks
asks_len [] all = omega arith
asks_len (ask ∷ asks) all =
    let few = (wanted_text ask.filter all.0).few in
    omega (arith, few, asks_len asks all.1, length-append (ask_bytes ask) (flat_map ask_bytes asks), length-append (string ask.filter) (level ask.qos ∷ []))

some_asks : {X : Type 0} (xs : List X) → 0 < length xs → has_some xs ≡ true
some_asks xs low = ap not (ne_eqb (length xs) 0 (λ e. omega (arith, e, low)))

pub subscribe_sound : (id : ℕ) (asks : List Ask) → 0 < id → 0 < length asks → length asks ≤ 8 → AllByRecursion IsWellAsk asks → is_sound (p.Subscribe id asks) ≡ true
subscribe_sound id asks low some few all =
    fits (p.Subscribe id asks) (and_from (is_identifier id) (has_some asks && list_all is_ask asks) (identifier id low) (and_from (has_some asks) (list_all is_ask asks) (some_asks asks some) (asks_are asks all)))
    (omega (arith, few, asks_len asks all))

filters_are : (filters : List (List ℕ)) → AllByRecursion IsWellFilter filters → list_all is_string filters ≡ true
filters_are [] all = refl
filters_are (filter ∷ filters) all = and_from (is_string filter) (list_all is_string filters) (wanted_text filter all.0).is (filters_are filters all.1)

filters_len : (filters : List (List ℕ)) → AllByRecursion IsWellFilter filters → length (flat_map string filters) ≤ 1026 * length filters
filters_len [] all = omega arith
filters_len (filter ∷ filters) all =
    let few = (wanted_text filter all.0).few in
    omega (arith, few, filters_len filters all.1, length-append (string filter) (flat_map string filters))

pub unsubscribe_sound : (id : ℕ) (filters : List (List ℕ)) → 0 < id → 0 < length filters → length filters ≤ 8 → AllByRecursion IsWellFilter filters → is_sound (p.Unsubscribe id filters) ≡ true
unsubscribe_sound id filters low some few all =
    fits (p.Unsubscribe id filters)
    (and_from (is_identifier id) (has_some filters && list_all is_string filters) (identifier id low) (and_from (has_some filters) (list_all is_string filters) (some_asks filters some) (filters_are filters all)))
    (omega (arith, few, filters_len filters all))
