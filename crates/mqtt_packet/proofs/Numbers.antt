-- Numbers, data and strings: what the grammar says of their bytes, how they are written, and how they are read.
use Rattle.std.proofs.Common.{◌≡◌, ℕ, zero, suc, ◌+◌, ◌/◌, ◌%◌, ◌<◌, ◌≤◌, Bool, true, false, cond, eqb, ltb, List, [], ◌∷◌, ◌++◌, length, take, drop, Option, Some, None, refl, sym, ap, subst, ◌∙◌, append_assoc, arith, inl, inr}
use Rattle.std.specs.Prelude.{◌&&◌, ◌==◌, not, nat_lt}
use Rattle.std.specs.Int.{to_be_bytes, from_be_bytes}
use mir.Syntax.{w16}
use Rattle.std.specs.List.{list_all, list_any, Contains}
use Rattle.std.specs.Str.{is_utf8, IsAscii}
use Rattle.std.proofs.lemmas.Bool.{ltb-false, ltb-true, le-ltb, lt-ltb, eqb-true, eq-eqb, and_parts, and_from, not-true, not_from_false, false_from_ne_true, cases_lt, both_ways, or_from}
use Rattle.std.proofs.lemmas.List.{take_at, drop_at, take-append-drop, length-append, length-take, get_or-drop, get_or-take, get_or_past}
use Rattle.std.proofs.lemmas.Nat.{be_bytes_2, from_be_bytes-to_be_bytes_2}
use Rattle.std.proofs.lemmas.Str.{is_utf8-from_IsUtf8, IsUtf8-from_is_utf8, IsUtf8-from_ascii}
use Rattle.std.proofs.lemmas.Map.Views.{Contains-from_any}
use Rattle.std.proofs.lemmas.List.Folds.{list_any_at}
use Rattle.mqtt_packet.specs.Grammar.{IsNumber, IsData, IsString}
use Rattle.mqtt_packet.specs.Spelling.{number, string, is_string}
use Rattle.mqtt_packet.specs.Reading.{◌>>=◌, number_at, data_at, string_at}
use Rattle.mqtt_packet.specs.Stream.{AreBytes}

-- ---- Lists of bytes

pub bytes_drop : (n : ℕ) (bytes : List ℕ) → AreBytes bytes → AreBytes (drop n bytes)
bytes_drop n bytes h i = rw get_or-drop (h (n + i))

pub bytes_take : (n : ℕ) (bytes : List ℕ) → AreBytes bytes → AreBytes (take n bytes)
bytes_take n bytes h i =
    elim (cases_lt i n) [
      | inl lt ↦ rw (get_or-take n bytes i 0 lt) (h i)
      | inr le ↦ rw (get_or_past (take n bytes) i 0 (omega (arith, length-take n bytes))) (omega arith)
    ]

pub bytes_tail : (b : ℕ) (bytes : List ℕ) → AreBytes (b ∷ bytes) → AreBytes bytes
bytes_tail b bytes h i = h (suc i)

-- ---- Readings step by step

pub bind_some : {A B : Type 0} (r : Option A) (f : A → Option B) (y : B) → (r >>= f) ≡ Some y → (x : A) × (r ≡ Some x) × (f x ≡ Some y)
bind_some (Some x) f y e = (x, refl, e)
bind_some None f y e = absurd cc

abbrev some_of : {A : Type 0} → A → Option A
some_of x = Some x

pub some_is : {A : Type 0} (x y : A) → some_of x ≡ some_of y → x ≡ y
some_is x y e = cc

-- a test that must fail, and one that must pass
pub not_refused : {A : Type 0} (b : Bool) (x y : A) → cond b None (Some x) ≡ Some y → (b ≡ false) × (x ≡ y)
not_refused true x y e = absurd cc
not_refused false x y e = (refl, cc)

pub accepted : {A : Type 0} (b : Bool) (x y : A) → cond b (Some x) None ≡ Some y → (b ≡ true) × (x ≡ y)
accepted true x y e = (refl, cc)
accepted false x y e = absurd cc

-- what a reader took from the front
pub record Takes (bytes text rest : List ℕ) : Type 0 where
  pub parts : bytes ≡ text ++ rest
  pub rest_fits : AreBytes rest

pub takes_then : (a x b y c : List ℕ) → Takes a x b → Takes b y c → Takes a (x ++ y) c
takes_then a x b y c p q = record { parts = p.parts ∙ ap (λ (t : List ℕ). x ++ t) q.parts ∙ sym (append_assoc x y c); rest_fits = q.rest_fits }

-- ---- Numbers (section 1.5.2)

pub number_one : (bytes : List ℕ) (n : ℕ) → IsNumber bytes n → (bytes ≡ number n) × (n < 65536)
number_one [] n h = absurd h
number_one (a ∷ []) n h = absurd h
number_one (high ∷ low ∷ []) n h =
    let first : high ≡ n / 256 % 256 = omega (arith, h.0, h.1, h.2) in
    let second : low ≡ n % 256 = omega (arith, h.0, h.1, h.2) in
    (ap (λ (b : ℕ). b ∷ low ∷ []) first ∙ ap (λ (b : ℕ). (n / 256 % 256) ∷ b ∷ []) second, omega (arith, h.0, h.1, h.2))
number_one (a ∷ b ∷ c ∷ bytes) n h = absurd h

pub number_is : (n : ℕ) → n < 65536 → IsNumber (number n) n
number_is n lt = (omega arith, omega arith, omega (arith, lt))

pub number_read : (n : ℕ) (rest : List ℕ) → n < 65536 → number_at (number n ++ rest) ≡ Some (n, rest)
unfolding number_at
number_read n rest lt = ap (λ (k : ℕ). some_of (k, rest)) (from_be_bytes-to_be_bytes_2 n lt)

below_two : (high low n : ℕ) → high < 256 → low < 256 → n ≡ from_be_bytes w16 (high ∷ low ∷ []) → n < 65536
below_two high low n a b e = omega (arith, e, a, b)

pub number_took : (bytes : List ℕ) (n : ℕ) (rest : List ℕ) → AreBytes bytes → number_at bytes ≡ Some (n, rest) → Takes bytes (number n) rest × (n < 65536)
unfolding number_at
number_took [] n rest fits e = absurd cc
number_took (a ∷ []) n rest fits e = absurd cc
number_took (high ∷ low ∷ behind) n rest fits e =
    let pair : (from_be_bytes w16 (high ∷ low ∷ []), behind) ≡ (n, rest) = some_is (from_be_bytes w16 (high ∷ low ∷ []), behind) (n, rest) e in
    let value : n ≡ from_be_bytes w16 (high ∷ low ∷ []) = sym (ap (λ (p : ℕ × List ℕ). p.0) pair) in
    let behind_is : behind ≡ rest = ap (λ (p : ℕ × List ℕ). p.1) pair in
    let small : n < 65536 = below_two high low n (fits 0) (fits 1) value in
    let two : to_be_bytes w16 n ≡ high ∷ low ∷ [] = be_bytes_2 (high ∷ low ∷ []) n refl (λ i. bytes_take 2 (high ∷ low ∷ behind) fits i) value in (
      record {
        parts = ap (λ (t : List ℕ). high ∷ low ∷ t) behind_is ∙ ap (λ (t : List ℕ). t ++ rest) (sym two);
        rest_fits = subst (λ (t : List ℕ). AreBytes t) behind_is (λ i. fits (suc (suc i)));
      },
      small,
    )

-- ---- Binary data

pub data_one : (bytes content : List ℕ) → IsData bytes content → (bytes ≡ string content) × (length content < 65536)
data_one bytes content h =
    let len = number_one h.0 (length content) h.1 in
    (h.2 ∙ ap (λ (t : List ℕ). t ++ content) len.0, len.1)

pub data_is : (content : List ℕ) → length content < 65536 → IsData (string content) content
data_is content lt = (number (length content), number_is (length content) lt, refl)

pub data_read : (content rest : List ℕ) → length content < 65536 → data_at (string content ++ rest) ≡ Some (content, rest)
unfolding data_at
data_read content rest lt =
    let long : ltb (length (content ++ rest)) (length content) ≡ false = le-ltb _ _ (omega (arith, length-append content rest)) in
    rw (number_read (length content) (content ++ rest) lt, long, take_at content rest (length content) refl, drop_at content rest (length content) refl) refl

pub data_took : (bytes content rest : List ℕ) → AreBytes bytes → data_at bytes ≡ Some (content, rest) → Takes bytes (string content) rest × (length content < 65536)
unfolding data_at
data_took bytes content rest fits e =
    let b = bind_some (number_at bytes) (λ n. cond (ltb (length n.1) n.0) None (Some (take n.0 n.1, drop n.0 n.1))) (content, rest) e in
    let n = b.0 in
    let t = number_took bytes n.0 n.1 fits b.1 in
    let g = not_refused (ltb (length n.1) n.0) (take n.0 n.1, drop n.0 n.1) (content, rest) b.2 in
    let long : n.0 ≤ length n.1 = ltb-false _ _ g.0 in
    let len : length (take n.0 n.1) ≡ n.0 = omega (arith, length-take n.0 n.1) in
    let second : Takes n.1 (take n.0 n.1) (drop n.0 n.1) = record { parts = sym (take-append-drop n.0 n.1); rest_fits = bytes_drop n.0 n.1 t.0.rest_fits } in
    let both = takes_then bytes (number n.0) n.1 (take n.0 n.1) (drop n.0 n.1) t.0 second in
    let whole : Takes bytes (string (take n.0 n.1)) (drop n.0 n.1) = subst (λ (k : ℕ). Takes bytes (number k ++ take n.0 n.1) (drop n.0 n.1)) (sym len) both in
    subst (λ (p : List ℕ × List ℕ). Takes bytes (string p.0) p.1 × (length p.0 < 65536)) g.1 (whole, omega (arith, t.1, len))

-- ---- Strings (section 1.5.3)

same_zero : (x y : ℕ) → eqb y x ≡ true → x ≡ y
same_zero x y e = sym (eqb-true y x e)

no_zero : (text : List ℕ) → (Contains text 0 → ⊥) → list_any (λ b. b == 0) text ≡ false
no_zero text none = false_from_ne_true (list_any (λ b. b == 0) text) (λ e. none (Contains-from_any {eq = λ q b. eqb b q} same_zero 0 text e))

never_zero : (text : List ℕ) → list_any (λ b. b == 0) text ≡ false → Contains text 0 → ⊥
never_zero text none c = both_ways (list_any (λ b. b == 0) text) none (list_any_at (λ b. b == 0) text c.0 0 c.1 (eq-eqb _ 0 c.2))

pub string_one : (bytes text : List ℕ) → IsString bytes text → (bytes ≡ string text) × (is_string text ≡ true)
string_one bytes text h =
    let d = data_one bytes text h.0 in
    (d.0, and_from _ _ (and_from _ _ (lt-ltb (length text) 65536 d.1) (is_utf8-from_IsUtf8 text h.1.0)) (not_from_false _ (no_zero text h.1.1)))

pub short_string : (text : List ℕ) → is_string text ≡ true → length text < 65536
short_string text e = ltb-true _ _ (and_parts (nat_lt (length text) 65536) (is_utf8 text) (and_parts (nat_lt (length text) 65536 && is_utf8 text) _ e).0).0

pub string_is : (text : List ℕ) → is_string text ≡ true → IsString (string text) text
string_is text e =
    let parts = and_parts (nat_lt (length text) 65536 && is_utf8 text) (not (list_any (λ b. b == 0) text)) e in
    let front = and_parts (nat_lt (length text) 65536) (is_utf8 text) parts.0 in
    (data_is text (ltb-true _ _ front.0), (IsUtf8-from_is_utf8 text front.1, never_zero text (not-true _ parts.1)))

pub string_read : (text rest : List ℕ) → is_string text ≡ true → string_at (string text ++ rest) ≡ Some (text, rest)
unfolding string_at
string_read text rest e = rw (data_read text rest (short_string text e), e) refl

pub string_took : (bytes text rest : List ℕ) → AreBytes bytes → string_at bytes ≡ Some (text, rest) → Takes bytes (string text) rest × (is_string text ≡ true)
unfolding string_at
string_took bytes text rest fits e =
    let b = bind_some (data_at bytes) (λ t. cond (is_string t.0) (Some t) None) (text, rest) e in
    let t = data_took bytes b.0.0 b.0.1 fits b.1 in
    let g = accepted (is_string b.0.0) b.0 (text, rest) b.2 in
    subst (λ (p : List ℕ × List ℕ). Takes bytes (string p.0) p.1 × (is_string p.0 ≡ true)) g.1 (t.0, g.0)

-- ---- Written-out bytes

-- neither U+0000 nor above 127
abbrev pub is_plain : ℕ → Bool
is_plain b = not (eqb b 0) && ltb b 128

plain_ascii : (text : List ℕ) → list_all is_plain text ≡ true → IsAscii text
plain_ascii [] e i = omega arith
plain_ascii (b ∷ text) e zero = ltb-true b 128 (and_parts (not (eqb b 0)) (ltb b 128) (and_parts (is_plain b) (list_all is_plain text) e).0).1
plain_ascii (b ∷ text) e (suc i) = plain_ascii text (and_parts (is_plain b) (list_all is_plain text) e).1 i

plain_not_zero : (text : List ℕ) → list_all is_plain text ≡ true → list_any (λ b. b == 0) text ≡ false
plain_not_zero [] e = refl
plain_not_zero (b ∷ text) e =
    let parts = and_parts (is_plain b) (list_all is_plain text) e in
    or_from (eqb b 0) (list_any (λ c. c == 0) text) (not-true (eqb b 0) (and_parts (not (eqb b 0)) (ltb b 128) parts.0).0) (plain_not_zero text parts.1)

pub plain_string : (text : List ℕ) → length text < 65536 → list_all is_plain text ≡ true → is_string text ≡ true
plain_string text short e =
    and_from _ _ (and_from _ _ (lt-ltb (length text) 65536 short) (is_utf8-from_IsUtf8 text (IsUtf8-from_ascii text (plain_ascii text e)))) (not_from_false _ (plain_not_zero text e))

pub bytes_are : (bytes : List ℕ) → list_all (λ b. ltb b 256) bytes ≡ true → AreBytes bytes
bytes_are [] e i = omega arith
bytes_are (b ∷ bytes) e zero = ltb-true b 256 (and_parts (ltb b 256) (list_all (λ b. ltb b 256) bytes) e).0
bytes_are (b ∷ bytes) e (suc i) = bytes_are bytes (and_parts (ltb b 256) (list_all (λ b. ltb b 256) bytes) e).1 i
