-- Lists and the parts of a CONNECT: what is spelled is read again, and what is read was spelled.
use Rattle.std.proofs.Common.{◌≡◌, ℕ, zero, suc, ◌+◌, ◌*◌, ◌/◌, ◌%◌, ◌<◌, ◌≤◌, Bool, true, false, cond, eqb, List, [], ◌∷◌, ◌++◌, length, Option, Some, None, refl, sym, ap, subst, ◌∙◌, append_assoc, arith, length-append}
use Rattle.std.specs.Prelude.{is_some}
use Rattle.std.specs.List.{list_all, flat_map}
use Rattle.std.proofs.lemmas.Bool.{eq-eqb, ne_eqb, lt-ltb, ltb-true, and_parts, and_from}
use Rattle.std.proofs.lemmas.List.Concat.{flat_map-cons}
use Rattle.mqtt_packet.specs.declared.qos.Qos.{Qos}
use Rattle.mqtt_packet.specs.declared.qos.Qos.TheVariants.{AtMostOnce, AtLeastOnce, ExactlyOnce}
use Rattle.mqtt_packet.specs.declared.will.Ask.{Ask}
use Rattle.mqtt_packet.specs.declared.will.Will.{Will}
use Rattle.mqtt_packet.specs.Flags.{bit, level}
use Rattle.mqtt_packet.specs.Spelling.{string, connect_flags, will_flags, will_part, optional, ask_bytes, is_string, is_data, is_will, is_ask, are_credentials}
use Rattle.mqtt_packet.specs.Reading.{◌>>=◌, byte_at, data_at, string_at, items_in, qos_of, ask_at, will_at, user_at, password_at, will_for, user_for, password_for, is_allowed}
use Rattle.mqtt_packet.specs.Stream.{AreBytes}
use Rattle.mqtt_packet.proofs.Numbers.{bind_some, some_is, Takes, takes_then, bytes_tail, data_read, data_took, string_read, string_took}

-- ---- One after another to the end

item_first : {A : Type 0} (item : List ℕ → Option (A × List ℕ)) (most : ℕ) (bytes : List ℕ) (x : A) (behind : List ℕ) → 0 < length bytes → item bytes ≡ Some (x, behind)
    → items_in item (suc most) bytes ≡ (items_in item most behind >>= λ others. Some (x ∷ others))
unfolding items_in
item_first item most [] x behind some e = absurd (omega (arith, some))
item_first item most (b ∷ bytes) x behind some e = rw e refl

pub items_read : {A : Type 0} (item : List ℕ → Option (A × List ℕ)) (text : A → List ℕ) (ok : A → Bool) → ((x : A) (rest : List ℕ) → ok x ≡ true → item (text x ++ rest) ≡ Some (x, rest)) → ((x : A) → 0 < length (text x))
    → (most : ℕ) (xs : List A) → length (flat_map text xs) ≤ most → list_all ok xs ≡ true → items_in item most (flat_map text xs) ≡ Some xs
unfolding items_in
items_read item text ok again some most [] room e = refl
items_read item text ok again some zero (x ∷ xs) room e = absurd (let s = some x in omega (arith, room, s, ap length (flat_map-cons text x xs), length-append (text x) (flat_map text xs)))
items_read item text ok again some (suc most) (x ∷ xs) room e =
    let parts = and_parts (ok x) (list_all ok xs) e in
    let s = some x in
    let len = ap length (flat_map-cons text x xs) ∙ length-append (text x) (flat_map text xs) in
    let rest = items_read item text ok again some most xs (omega (arith, room, s, len)) parts.1 in
    ap (items_in item (suc most)) (flat_map-cons text x xs)
    ∙ item_first item most (text x ++ flat_map text xs) x (flat_map text xs) (omega (arith, s, length-append (text x) (flat_map text xs))) (again x (flat_map text xs) parts.0)
    ∙ rw rest refl

pub items_took : {A : Type 0} (item : List ℕ → Option (A × List ℕ)) (text : A → List ℕ) (ok : A → Bool) → ((bytes : List ℕ) (x : A) (rest : List ℕ) → AreBytes bytes → item bytes ≡ Some (x, rest) → Takes bytes (text x) rest × (ok x ≡ true))
    → (most : ℕ) (bytes : List ℕ) (xs : List A) → AreBytes bytes → items_in item most bytes ≡ Some xs → (bytes ≡ flat_map text xs) × (list_all ok xs ≡ true)
unfolding items_in
items_took item text ok took most [] xs fits e = subst (λ (ys : List _). ([] ≡ flat_map text ys) × (list_all ok ys ≡ true)) (some_is [] xs e) (refl, refl)
items_took item text ok took zero (b ∷ bytes) xs fits e = absurd cc
items_took item text ok took (suc most) (b ∷ bytes) xs fits e =
    let f = bind_some (item (b ∷ bytes)) (λ first. items_in item most first.1 >>= λ others. Some (first.0 ∷ others)) xs e in
    let o = bind_some (items_in item most f.0.1) (λ others. Some (f.0.0 ∷ others)) xs f.2 in
    let t = took (b ∷ bytes) f.0.0 f.0.1 fits f.1 in
    let rest = items_took item text ok took most f.0.1 o.0 t.0.rest_fits o.1 in
    subst (λ (ys : List _). (b ∷ bytes ≡ flat_map text ys) × (list_all ok ys ≡ true)) (some_is (f.0.0 ∷ o.0) xs o.2)
    (t.0.parts ∙ ap (λ (r : List ℕ). text f.0.0 ++ r) rest.0 ∙ sym (flat_map-cons text f.0.0 o.0), and_from (ok f.0.0) (list_all ok o.0) t.1 rest.1)

-- ---- Single bytes

pub byte_took : (bytes : List ℕ) (b : ℕ) (rest : List ℕ) → AreBytes bytes → byte_at bytes ≡ Some (b, rest) → Takes bytes (b ∷ []) rest
unfolding byte_at
byte_took [] b rest fits e = absurd cc
byte_took (a ∷ bytes) b rest fits e =
    subst (λ (x : ℕ × List ℕ). Takes (a ∷ bytes) (x.0 ∷ []) x.1) (some_is (a, bytes) (b, rest) e) (record { parts = refl; rest_fits = bytes_tail a bytes fits })

pub qos_read : (qos : Qos) → qos_of (level qos) ≡ Some qos
unfolding qos_of
qos_read AtMostOnce = refl
qos_read AtLeastOnce = refl
qos_read ExactlyOnce = refl

pub qos_took : (n : ℕ) (qos : Qos) → qos_of n ≡ Some qos → n ≡ level qos
unfolding qos_of
qos_took zero qos e = subst (λ (q : Qos). 0 ≡ level q) (some_is AtMostOnce qos e) refl
qos_took (suc zero) qos e = subst (λ (q : Qos). 1 ≡ level q) (some_is AtLeastOnce qos e) refl
qos_took (suc (suc zero)) qos e = subst (λ (q : Qos). 2 ≡ level q) (some_is ExactlyOnce qos e) refl
qos_took (suc (suc (suc n))) qos e = absurd (let f : None ≡ Some qos = rw (ne_eqb (suc (suc (suc n))) 0 (λ z. omega (arith, z)), ne_eqb (suc (suc (suc n))) 1 (λ z. omega (arith, z)), ne_eqb (suc (suc (suc n))) 2 (λ z. omega (arith, z))) at e in cc)

-- ---- Asks (section 3.8.3)

pub ask_read : (ask : Ask) (rest : List ℕ) → is_ask ask ≡ true → ask_at (ask_bytes ask ++ rest) ≡ Some (ask, rest)
unfolding ask_at byte_at
ask_read ask rest e =
    ap ask_at (append_assoc (string ask.filter) (level ask.qos ∷ []) rest) ∙ rw (string_read ask.filter (level ask.qos ∷ rest) e, qos_read ask.qos) refl

pub ask_took : (bytes : List ℕ) (ask : Ask) (rest : List ℕ) → AreBytes bytes → ask_at bytes ≡ Some (ask, rest) → Takes bytes (ask_bytes ask) rest × (is_ask ask ≡ true)
unfolding ask_at
ask_took bytes ask rest fits e =
    let f = bind_some (string_at bytes) (λ filter. byte_at filter.1 >>= λ b. qos_of b.0 >>= λ qos. Some (record { filter = filter.0; qos = qos }, b.1)) (ask, rest) e in
    let b = bind_some (byte_at f.0.1) (λ b. qos_of b.0 >>= λ qos. Some (record { filter = f.0.0; qos = qos }, b.1)) (ask, rest) f.2 in
    let q = bind_some (qos_of b.0.0) (λ qos. Some (record { filter = f.0.0; qos = qos }, b.0.1)) (ask, rest) b.2 in
    let name = string_took bytes f.0.0 f.0.1 fits f.1 in
    let one = byte_took f.0.1 b.0.0 b.0.1 name.0.rest_fits b.1 in
    let both = takes_then bytes (string f.0.0) f.0.1 (b.0.0 ∷ []) b.0.1 name.0 one in
    let made : Ask × List ℕ = (record { filter = f.0.0; qos = q.0 }, b.0.1) in
    let taken : Takes bytes (string f.0.0 ++ level q.0 ∷ []) b.0.1 = subst (λ (n : ℕ). Takes bytes (string f.0.0 ++ n ∷ []) b.0.1) (qos_took b.0.0 q.0 q.1) both in
    subst (λ (x : Ask × List ℕ). Takes bytes (ask_bytes x.0) x.1 × (is_ask x.0 ≡ true)) (some_is made (ask, rest) q.2) (taken, name.1)

-- ---- The connect flags (section 3.1.2.3)

bit_small : (b : Bool) → bit b ≤ 1
bit_small true = omega arith
bit_small false = omega arith

level_small : (qos : Qos) → level qos ≤ 2
level_small AtMostOnce = omega arith
level_small AtLeastOnce = omega arith
level_small ExactlyOnce = omega arith

will_small : (will : Option Will) → will_flags will ≤ 52
will_small None = omega arith
will_small (Some will) = let l = level_small will.qos in let r = bit_small will.retain in omega (arith, l, r)

-- a test of a bit is the flag
pub bit_is : (b : Bool) (n : ℕ) → n ≡ bit b → eqb n 1 ≡ b
bit_is true n e = eq-eqb n 1 e
bit_is false n e = ne_eqb n 1 (λ z. omega (arith, e, z))

pub user_bit : (clean : Bool) (will : Option Will) (user password : Option (List ℕ)) → connect_flags clean will user password / 128 % 2 ≡ bit (is_some user)
user_bit clean will user password =
    let c = bit_small clean in let w = will_small will in let u = bit_small (is_some user) in let x = bit_small (is_some password) in omega (arith, c, w, u, x)

pub password_bit : (clean : Bool) (will : Option Will) (user password : Option (List ℕ)) → connect_flags clean will user password / 64 % 2 ≡ bit (is_some password)
password_bit clean will user password =
    let c = bit_small clean in let w = will_small will in let u = bit_small (is_some user) in let x = bit_small (is_some password) in omega (arith, c, w, u, x)

-- the bits of 2 c + w + 64 p + 128 u, where w has the will's
low_bits : (c w x u : ℕ) → c ≤ 1 → w % 4 ≡ 0 → (2 * c + w + 64 * x + 128 * u) / 2 % 2 ≡ c
low_bits c w x u small e = omega (arith, small, e)

will_even : (will : Option Will) → will_flags will % 4 ≡ 0
will_even None = refl
will_even (Some will) = omega arith

pub clean_bit : (clean : Bool) (will : Option Will) (user password : Option (List ℕ)) → connect_flags clean will user password / 2 % 2 ≡ bit clean
clean_bit clean will user password = low_bits (bit clean) (will_flags will) (bit (is_some password)) (bit (is_some user)) (bit_small clean) (will_even will)

-- what flags say of a will
abbrev pub SayWill : ℕ → Option Will → Type 0
SayWill flags None = flags / 4 % 2 ≡ 0
SayWill flags (Some will) = (flags / 4 % 2 ≡ 1) × (flags / 8 % 4 ≡ level will.qos) × (flags / 32 % 2 ≡ bit will.retain)

no_will : (c x u : ℕ) → c ≤ 1 → (2 * c + 0 + 64 * x + 128 * u) / 4 % 2 ≡ 0
no_will c x u small = omega (arith, small)

will_bit : (c l r x u : ℕ) → c ≤ 1 → (2 * c + (4 + 8 * l + 32 * r) + 64 * x + 128 * u) / 4 % 2 ≡ 1
will_bit c l r x u small = omega (arith, small)

level_bits : (c l r x u : ℕ) → c ≤ 1 → l ≤ 2 → (2 * c + (4 + 8 * l + 32 * r) + 64 * x + 128 * u) / 8 % 4 ≡ l
level_bits c l r x u small low = omega (arith, small, low)

retain_bit : (c l r x u : ℕ) → c ≤ 1 → l ≤ 2 → r ≤ 1 → (2 * c + (4 + 8 * l + 32 * r) + 64 * x + 128 * u) / 32 % 2 ≡ r
retain_bit c l r x u small low one = omega (arith, small, low, one)

pub will_said : (clean : Bool) (will : Option Will) (user password : Option (List ℕ)) → SayWill (connect_flags clean will user password) will
will_said clean None user password = no_will (bit clean) (bit (is_some password)) (bit (is_some user)) (bit_small clean)
will_said clean (Some will) user password =
    let c = bit clean in let l = level will.qos in let r = bit will.retain in let x = bit (is_some password) in let u = bit (is_some user) in
    (will_bit c l r x u (bit_small clean), level_bits c l r x u (bit_small clean) (level_small will.qos), retain_bit c l r x u (bit_small clean) (level_small will.qos) (bit_small will.retain))

-- ---- The parts of a CONNECT's payload (section 3.1.3)

pub will_read : (flags : ℕ) (will : Option Will) (rest : List ℕ) → SayWill flags will → is_will will ≡ true → will_for flags (will_part will ++ rest) ≡ Some (will, rest)
unfolding will_for will_at
will_read flags None rest say e = rw (ne_eqb (flags / 4 % 2) 1 (λ z. omega (arith, say, z))) refl
will_read flags (Some will) rest say e =
    let parts = and_parts (is_string will.topic) (is_data will.message) e in
    ap (will_for flags) (append_assoc (string will.topic) (string will.message) rest)
    ∙ rw (eq-eqb (flags / 4 % 2) 1 say.0, ap qos_of say.1, qos_read will.qos, string_read will.topic (string will.message ++ rest) parts.0, data_read will.message rest (ltb-true _ _ parts.1), bit_is will.retain (flags / 32 % 2) say.2) refl

pub user_read : (flags : ℕ) (user : Option (List ℕ)) (rest : List ℕ) → flags / 128 % 2 ≡ bit (is_some user) → ((text : List ℕ) → user ≡ Some text → is_string text ≡ true) → user_for flags (optional user ++ rest) ≡ Some (user, rest)
unfolding user_for user_at
user_read flags None rest say h = rw (ne_eqb (flags / 128 % 2) 1 (λ z. omega (arith, say, z))) refl
user_read flags (Some text) rest say h = rw (eq-eqb (flags / 128 % 2) 1 say, string_read text rest (h text refl)) refl

pub password_read : (flags : ℕ) (password : Option (List ℕ)) (rest : List ℕ) → flags / 64 % 2 ≡ bit (is_some password) → ((content : List ℕ) → password ≡ Some content → is_data content ≡ true) → password_for flags (optional password ++ rest) ≡ Some (password, rest)
unfolding password_for password_at
password_read flags None rest say h = rw (ne_eqb (flags / 64 % 2) 1 (λ z. omega (arith, say, z))) refl
password_read flags (Some content) rest say h = rw (eq-eqb (flags / 64 % 2) 1 say, data_read content rest (ltb-true _ _ (h content refl))) refl

-- a test that chooses between a reading and nothing
taken_where : {A : Type 0} (b : Bool) (o : Option (Option A × List ℕ)) (bytes rest : List ℕ) (x : Option A) → cond b o (Some (None, bytes)) ≡ Some (x, rest)
    → (P : Option A → List ℕ → Type 0) → (o ≡ Some (x, rest) → P x rest) → P None bytes → P x rest
taken_where true o bytes rest x e P some none = some e
taken_where false o bytes rest x e P some none = subst (λ (y : Option _ × List ℕ). P y.0 y.1) (some_is (None, bytes) (x, rest) e) none

nothing_taken : (bytes : List ℕ) → AreBytes bytes → Takes bytes [] bytes
nothing_taken bytes fits = record { parts = refl; rest_fits = fits }

some_will : (flags : ℕ) (bytes : List ℕ) (will : Option Will) (rest : List ℕ) → AreBytes bytes
    → will_at flags bytes ≡ Some (will, rest) → Takes bytes (will_part will) rest × (is_will will ≡ true)
unfolding will_at
some_will flags bytes will rest fits e =
    let q = bind_some (qos_of (flags / 8 % 4)) (λ qos. string_at bytes >>= λ topic. data_at topic.1 >>= λ message. Some (Some (record { topic = topic.0; message = message.0; qos = qos; retain = eqb (flags / 32 % 2) 1 }), message.1)) (will, rest) e in
    let t = bind_some (string_at bytes) (λ topic. data_at topic.1 >>= λ message. Some (Some (record { topic = topic.0; message = message.0; qos = q.0; retain = eqb (flags / 32 % 2) 1 }), message.1)) (will, rest) q.2 in
    let m = bind_some (data_at t.0.1) (λ message. Some (Some (record { topic = t.0.0; message = message.0; qos = q.0; retain = eqb (flags / 32 % 2) 1 }), message.1)) (will, rest) t.2 in
    let topic = string_took bytes t.0.0 t.0.1 fits t.1 in
    let message = data_took t.0.1 m.0.0 m.0.1 topic.0.rest_fits m.1 in
    let made : Option Will × List ℕ = (Some (record { topic = t.0.0; message = m.0.0; qos = q.0; retain = eqb (flags / 32 % 2) 1 }), m.0.1) in
    subst (λ (x : Option Will × List ℕ). Takes bytes (will_part x.0) x.1 × (is_will x.0 ≡ true)) (some_is made (will, rest) m.2)
    (takes_then bytes (string t.0.0) t.0.1 (string m.0.0) m.0.1 topic.0 message.0, and_from (is_string t.0.0) (is_data m.0.0) topic.1 (lt-ltb _ _ message.1))

pub will_took : (flags : ℕ) (bytes : List ℕ) (will : Option Will) (rest : List ℕ) → AreBytes bytes → will_for flags bytes ≡ Some (will, rest) → Takes bytes (will_part will) rest × (is_will will ≡ true)
unfolding will_for
will_took flags bytes will rest fits e =
    taken_where (eqb (flags / 4 % 2) 1) (will_at flags bytes) bytes rest will e (λ x r. Takes bytes (will_part x) r × (is_will x ≡ true)) (some_will flags bytes will rest fits) (nothing_taken bytes fits, refl)

-- what is there passes
abbrev pub Passes : (List ℕ → Bool) → Option (List ℕ) → Type 0
Passes test None = Unit {0}
Passes test (Some x) = test x ≡ true

some_text : (bytes : List ℕ) (user : Option (List ℕ)) (rest : List ℕ) → AreBytes bytes → user_at bytes ≡ Some (user, rest) → Takes bytes (optional user) rest × Passes is_string user
unfolding user_at
some_text bytes user rest fits e =
    let t = bind_some (string_at bytes) (λ text. Some (Some text.0, text.1)) (user, rest) e in
    let text = string_took bytes t.0.0 t.0.1 fits t.1 in
    subst (λ (x : Option (List ℕ) × List ℕ). Takes bytes (optional x.0) x.1 × Passes is_string x.0) (some_is (Some t.0.0, t.0.1) (user, rest) t.2) (text.0, text.1)

pub user_took : (flags : ℕ) (bytes : List ℕ) (user : Option (List ℕ)) (rest : List ℕ) → AreBytes bytes → user_for flags bytes ≡ Some (user, rest) → Takes bytes (optional user) rest × Passes is_string user
unfolding user_for
user_took flags bytes user rest fits e =
    taken_where (eqb (flags / 128 % 2) 1) (user_at bytes) bytes rest user e (λ x r. Takes bytes (optional x) r × Passes is_string x) (some_text bytes user rest fits) (nothing_taken bytes fits, tt)

some_data : (bytes : List ℕ) (password : Option (List ℕ)) (rest : List ℕ) → AreBytes bytes → password_at bytes ≡ Some (password, rest) → Takes bytes (optional password) rest × Passes is_data password
unfolding password_at
some_data bytes password rest fits e =
    let t = bind_some (data_at bytes) (λ content. Some (Some content.0, content.1)) (password, rest) e in
    let content = data_took bytes t.0.0 t.0.1 fits t.1 in
    subst (λ (x : Option (List ℕ) × List ℕ). Takes bytes (optional x.0) x.1 × Passes is_data x.0) (some_is (Some t.0.0, t.0.1) (password, rest) t.2) (content.0, lt-ltb _ _ content.1)

pub password_took : (flags : ℕ) (bytes : List ℕ) (password : Option (List ℕ)) (rest : List ℕ) → AreBytes bytes → password_for flags bytes ≡ Some (password, rest) → Takes bytes (optional password) rest × Passes is_data password
unfolding password_for
password_took flags bytes password rest fits e =
    taken_where (eqb (flags / 64 % 2) 1) (password_at bytes) bytes rest password e (λ x r. Takes bytes (optional x) r × Passes is_data x) (some_data bytes password rest fits) (nothing_taken bytes fits, tt)

pub credentials_from : (user password : Option (List ℕ)) → Passes is_string user → Passes is_data password → is_allowed user password ≡ true → are_credentials user password ≡ true
credentials_from None None u w e = refl
credentials_from None (Some password) u w e = absurd cc
credentials_from (Some user) None u w e = u
credentials_from (Some user) (Some password) u w e = and_from (is_string user) (is_data password) u w

pub user_passes : (user password : Option (List ℕ)) → are_credentials user password ≡ true → (text : List ℕ) → user ≡ Some text → is_string text ≡ true
user_passes None password e text h = absurd cc
user_passes (Some user) None e text h = subst (λ (t : List ℕ). is_string t ≡ true) (some_is user text h) e
user_passes (Some user) (Some password) e text h = subst (λ (t : List ℕ). is_string t ≡ true) (some_is user text h) (and_parts (is_string user) (is_data password) e).0

pub password_passes : (user password : Option (List ℕ)) → are_credentials user password ≡ true → (content : List ℕ) → password ≡ Some content → is_data content ≡ true
password_passes user None e content h = absurd cc
password_passes None (Some password) e content h = absurd cc
password_passes (Some user) (Some password) e content h = subst (λ (t : List ℕ). is_data t ≡ true) (some_is password content h) (and_parts (is_string user) (is_data password) e).1

pub allowed_from : (user password : Option (List ℕ)) → are_credentials user password ≡ true → is_allowed user password ≡ true
allowed_from None None e = refl
allowed_from None (Some password) e = absurd cc
allowed_from (Some user) password e = refl
