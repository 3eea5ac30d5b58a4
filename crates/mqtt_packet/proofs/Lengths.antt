-- The remaining length (section 2.2.3): what the grammar says of its bytes, how it is written, and how it is read.
use Rattle.std.proofs.Common.{◌≡◌, ℕ, zero, suc, ◌+◌, ◌-◌, ◌*◌, ◌/◌, ◌%◌, ◌<◌, ◌≤◌, Bool, true, false, cond, ltb, List, [], ◌∷◌, ◌++◌, length, take, refl, sym, ap, subst, ◌∙◌, arith, inl, inr}
use Rattle.std.proofs.lemmas.Bool.{ltb-false, ltb-true, le-ltb, lt-ltb, ne_eqb, cases_Bool, cases_lt}
use Rattle.mqtt_packet.specs.declared.remaining.Remaining.{Remaining}
use Rattle.mqtt_packet.specs.declared.remaining.Remaining.TheVariants.{Is, Part, Wrong}
use Rattle.mqtt_packet.specs.Grammar.{IsLengthIn}
use Rattle.mqtt_packet.specs.Spelling.{groups}
use Rattle.mqtt_packet.specs.Reading.{behind, remaining_in}
use Rattle.mqtt_packet.specs.Stream.{AreBytes}
use Rattle.mqtt_packet.proofs.Numbers.{bytes_tail}

-- a byte from 128 on in front of a length that isn't 0
longer : (k b high n : ℕ) (bytes : List ℕ) → 128 ≤ b → b < 256 → 0 < high → n + 128 ≡ b + 128 * high → IsLengthIn k bytes high → IsLengthIn (suc k) (b ∷ bytes) n
longer zero b high n bytes low small some e h = absurd h
longer (suc k) b high n [] low small some e h = absurd h
longer (suc k) b high n (c ∷ bytes) low small some e h = (low, small, high, some, e, h)

-- ---- Grammar and writing

pub length_one : (k : ℕ) (bytes : List ℕ) (n : ℕ) → IsLengthIn k bytes n → bytes ≡ groups k n
unfolding groups
length_one zero bytes n h = absurd h
length_one (suc k) [] n h = absurd h
length_one (suc k) (b ∷ []) n h =
    let small : ltb n 128 ≡ true = lt-ltb n 128 (omega (arith, h.0, h.1)) in
    rw small (ap (λ (x : ℕ). x ∷ []) (sym h.1))
length_one (suc k) (b ∷ c ∷ bytes) n h =
    let large : ltb n 128 ≡ false = le-ltb n 128 (omega (arith, h.0, h.3, h.4)) in
    let first : b ≡ n % 128 + 128 = omega (arith, h.0, h.1, h.4) in
    let high : h.2 ≡ n / 128 = omega (arith, h.0, h.1, h.4) in
    let rest = length_one k (c ∷ bytes) h.2 h.5 in
    rw large (ap (λ (x : ℕ). x ∷ c ∷ bytes) first ∙ ap (λ (t : List ℕ). (n % 128 + 128) ∷ t) (rest ∙ ap (λ (x : ℕ). groups k x) high))

grow : (k limit : ℕ) → ((n : ℕ) → n < limit → IsLengthIn k (groups k n) n) → (n : ℕ) → n < 128 * limit → IsLengthIn (suc k) (groups (suc k) n) n
unfolding groups
grow k limit h n lt =
    elim (cases_lt n 128) [
      | inl small ↦ let e : ltb n 128 ≡ true = lt-ltb n 128 small in rw e (small, refl)
      | inr large ↦
          let e : ltb n 128 ≡ false = le-ltb n 128 large in
          rw e (longer k (n % 128 + 128) (n / 128) n (groups k (n / 128)) (omega arith) (omega arith) (omega (arith, large)) (omega arith) (h (n / 128) (omega (arith, lt))))
    ]

is_1 : (n : ℕ) → n < 128 → IsLengthIn 1 (groups 1 n) n
unfolding groups
is_1 n lt = let e : ltb n 128 ≡ true = lt-ltb n 128 lt in rw e (lt, refl)

is_2 : (n : ℕ) → n < 16384 → IsLengthIn 2 (groups 2 n) n
is_2 n lt = grow 1 128 is_1 n lt

is_3 : (n : ℕ) → n < 2097152 → IsLengthIn 3 (groups 3 n) n
is_3 n lt = grow 2 16384 is_2 n lt

pub length_is : (n : ℕ) → n < 268435456 → IsLengthIn 4 (groups 4 n) n
length_is n lt = grow 3 2097152 is_3 n lt

-- ---- Grammar and reading

pub length_read : (k : ℕ) (bytes more : List ℕ) (n : ℕ) → IsLengthIn k bytes n → remaining_in k (bytes ++ more) ≡ Is n (length bytes)
unfolding remaining_in
length_read zero bytes more n h = absurd h
length_read (suc k) [] more n h = absurd h
length_read (suc k) (b ∷ []) more n h = rw (lt-ltb b 128 h.0) (ap (λ (x : ℕ). Is x 1) (sym h.1))
length_read (suc k) (b ∷ c ∷ bytes) more n h =
    let e : b - 128 + 128 * h.2 ≡ n = omega (arith, h.0, h.4) in
    rw (le-ltb b 128 h.0, length_read k (c ∷ bytes) more h.2 h.5, ne_eqb h.2 0 (λ z. omega (arith, h.3, z)), e) (ap (λ (count : ℕ). Is n count) (omega arith))

abbrev value_of : Remaining → ℕ
value_of (Is n count) = n
value_of Part = 0
value_of Wrong = 0

abbrev count_of : Remaining → ℕ
count_of (Is n count) = count
count_of Part = 0
count_of Wrong = 0

-- a rest above 0
open_behind : (b high less : ℕ) (r : Remaining) → behind b (Is (suc high) less) ≡ r → Is (b - 128 + 128 * suc high) (less + 1) ≡ r
open_behind b high less r e = subst (λ (x : Bool). cond x Wrong (Is (b - 128 + 128 * suc high) (less + 1)) ≡ r) (ne_eqb (suc high) 0 (λ z. omega (arith, z))) e

-- what stood behind a byte from 128 on
is_behind : (b : ℕ) (r : Remaining) (n count : ℕ) → behind b r ≡ Is n count → (high less : ℕ) × (r ≡ Is high less) × (0 < high) × (n ≡ b - 128 + 128 * high) × (count ≡ less + 1)
is_behind b (Is zero less) n count e = absurd cc
is_behind b (Is (suc high) less) n count e =
    let e : Is (b - 128 + 128 * suc high) (less + 1) ≡ Is n count = open_behind b high less (Is n count) e in
    (suc high, less, refl, omega arith, sym (ap value_of e), sym (ap count_of e))
is_behind b Part n count e = absurd cc
is_behind b Wrong n count e = absurd cc

pub length_took : (k : ℕ) (bytes : List ℕ) (n count : ℕ) → AreBytes bytes → remaining_in k bytes ≡ Is n count → IsLengthIn k (take count bytes) n × (count ≤ length bytes)
unfolding remaining_in
length_took zero bytes n count fits e = absurd cc
length_took (suc k) [] n count fits e = absurd cc
length_took (suc k) (b ∷ bytes) n count fits e =
    elim (cases_Bool (ltb b 128)) [
      | inl small ↦
          let e : Is b 1 ≡ Is n count = subst (λ (x : Bool). cond x (Is b 1) (behind b (remaining_in k bytes)) ≡ Is n count) small e in
          let n_is : b ≡ n = ap value_of e in
          let count_is : 1 ≡ count = ap count_of e in
          subst (λ (c : ℕ). IsLengthIn (suc k) (take c (b ∷ bytes)) n × (c ≤ length (b ∷ bytes))) count_is ((ltb-true b 128 small, sym n_is), omega arith)
      | inr large ↦
          let e : behind b (remaining_in k bytes) ≡ Is n count = subst (λ (x : Bool). cond x (Is b 1) (behind b (remaining_in k bytes)) ≡ Is n count) large e in
          let i = is_behind b (remaining_in k bytes) n count e in
          let low : 128 ≤ b = ltb-false b 128 large in
          let rest = length_took k bytes i.0 i.1 (bytes_tail b bytes fits) i.2 in
          let first : b < 256 = fits 0 in
          let one : count ≡ suc i.1 = omega (arith, i.5) in
          subst (λ (c : ℕ). IsLengthIn (suc k) (take c (b ∷ bytes)) n × (c ≤ length (b ∷ bytes))) (sym one) (longer k b i.0 n (take i.1 bytes) low first i.3 (omega (arith, low, i.4)) rest.0, omega (arith, rest.1))
    ]

pub length_fits : (k : ℕ) (bytes : List ℕ) (n : ℕ) → IsLengthIn k bytes n → length bytes ≤ k
length_fits zero bytes n h = absurd h
length_fits (suc k) [] n h = absurd h
length_fits (suc k) (b ∷ []) n h = omega arith
length_fits (suc k) (b ∷ c ∷ bytes) n h = let rest = length_fits k (c ∷ bytes) h.2 h.5 in omega (arith, rest)

-- a length that is wrong stays wrong
wrong_behind : (b : ℕ) (r s : Remaining) → (r ≡ Wrong → s ≡ Wrong) → ((n count : ℕ) → r ≡ Is n count → s ≡ Is n count) → behind b r ≡ Wrong → behind b s ≡ Wrong
wrong_behind b (Is zero count) s wrong is e = rw (is 0 count refl) refl
wrong_behind b (Is (suc n) count) s wrong is e = absurd (let e : Is (b - 128 + 128 * suc n) (count + 1) ≡ Wrong = open_behind b n count Wrong e in cc)
wrong_behind b Part s wrong is e = absurd cc
wrong_behind b Wrong s wrong is e = rw (wrong refl) refl

pub is_on : (k : ℕ) (bytes more : List ℕ) (n count : ℕ) → remaining_in k bytes ≡ Is n count → remaining_in k (bytes ++ more) ≡ Is n count
unfolding remaining_in
is_on zero bytes more n count e = absurd cc
is_on (suc k) [] more n count e = absurd cc
is_on (suc k) (b ∷ bytes) more n count e =
    elim (cases_Bool (ltb b 128)) [
      | inl small ↦ rw small (subst (λ (x : Bool). cond x (Is b 1) (behind b (remaining_in k bytes)) ≡ Is n count) small e)
      | inr large ↦
          let e : behind b (remaining_in k bytes) ≡ Is n count = subst (λ (x : Bool). cond x (Is b 1) (behind b (remaining_in k bytes)) ≡ Is n count) large e in
          let i = is_behind b (remaining_in k bytes) n count e in
          let on = is_on k bytes more i.0 i.1 i.2 in
          rw large (ap (behind b) (on ∙ sym i.2) ∙ e)
    ]

pub wrong_on : (k : ℕ) (bytes more : List ℕ) → remaining_in k bytes ≡ Wrong → remaining_in k (bytes ++ more) ≡ Wrong
unfolding remaining_in
wrong_on zero bytes more e = refl
wrong_on (suc k) [] more e = absurd cc
wrong_on (suc k) (b ∷ bytes) more e =
    elim (cases_Bool (ltb b 128)) [
      | inl small ↦ absurd (let e : Is b 1 ≡ Wrong = subst (λ (x : Bool). cond x (Is b 1) (behind b (remaining_in k bytes)) ≡ Wrong) small e in cc)
      | inr large ↦
          let e : behind b (remaining_in k bytes) ≡ Wrong = subst (λ (x : Bool). cond x (Is b 1) (behind b (remaining_in k bytes)) ≡ Wrong) large e in
          rw large (wrong_behind b (remaining_in k bytes) (remaining_in k (bytes ++ more)) (wrong_on k bytes more) (is_on k bytes more) e)
    ]

part_behind : (b : ℕ) (r : Remaining) → behind b r ≡ Part → r ≡ Part
part_behind b (Is zero count) e = absurd cc
part_behind b (Is (suc n) count) e = absurd (let e : Is (b - 128 + 128 * suc n) (count + 1) ≡ Part = open_behind b n count Part e in cc)
part_behind b Part e = refl
part_behind b Wrong e = absurd cc

-- what may go on does so to a length, and a short one
pub part_on : (k : ℕ) (bytes : List ℕ) → AreBytes bytes → remaining_in k bytes ≡ Part → (n : ℕ) × (0 < n) × IsLengthIn k (bytes ++ 1 ∷ []) n
unfolding remaining_in
part_on zero bytes fits e = absurd cc
part_on (suc k) [] fits e = (1, omega arith, (omega arith, refl))
part_on (suc k) (b ∷ bytes) fits e =
    elim (cases_Bool (ltb b 128)) [
      | inl small ↦ absurd (let e : Is b 1 ≡ Part = subst (λ (x : Bool). cond x (Is b 1) (behind b (remaining_in k bytes)) ≡ Part) small e in cc)
      | inr large ↦
          let e : behind b (remaining_in k bytes) ≡ Part = subst (λ (x : Bool). cond x (Is b 1) (behind b (remaining_in k bytes)) ≡ Part) large e in
          let rest = part_on k bytes (bytes_tail b bytes fits) (part_behind b (remaining_in k bytes) e) in
          let low : 128 ≤ b = ltb-false b 128 large in
          let first : b < 256 = fits 0 in
          (b - 128 + 128 * rest.0, omega (arith, rest.1), longer k b rest.0 (b - 128 + 128 * rest.0) (bytes ++ 1 ∷ []) low first rest.1 (omega (arith, low)) rest.2)
    ]

pub part_fits : (k : ℕ) (bytes : List ℕ) → remaining_in k bytes ≡ Part → length bytes < k
unfolding remaining_in
part_fits zero bytes e = absurd cc
part_fits (suc k) [] e = omega arith
part_fits (suc k) (b ∷ bytes) e =
    elim (cases_Bool (ltb b 128)) [
      | inl small ↦ absurd (let e : Is b 1 ≡ Part = subst (λ (x : Bool). cond x (Is b 1) (behind b (remaining_in k bytes)) ≡ Part) small e in cc)
      | inr large ↦
          let e : behind b (remaining_in k bytes) ≡ Part = subst (λ (x : Bool). cond x (Is b 1) (behind b (remaining_in k bytes)) ≡ Part) large e in
          let rest = part_fits k bytes (part_behind b (remaining_in k bytes) e) in
          omega (arith, rest)
    ]
