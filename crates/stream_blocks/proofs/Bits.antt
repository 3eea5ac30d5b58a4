-- Flags that are the bits of words.
use Rattle.std.proofs.Common.{◌≡◌, ◌≢◌, ℕ, zero, suc, ◌+◌, ◌-◌, ◌*◌, ◌/◌, ◌%◌, ◌^◌, ◌<◌, ◌≤◌, min, Bool, true, false, cond, List, [], ◌∷◌, ◌++◌, length, take, drop, set, get_or, replicate, Option, Some, None, refl, sym, ap, ◌∙◌, ⊎_elim, bit_and, count_ones, arith, length-append}
use Rattle.std.specs.Prelude.{◌==◌, nat_lt, IfSome, IfNone}
use Rattle.std.specs.Int.{bit_at, bit_not, trailing_zeros, w64}
use Rattle.std.specs.List.{sum_by}
use lib.Count.{ones, ones_step}
use native.Mathlib.Nat.{pow-suc}
use Rattle.std.proofs.lemmas.Bool.{cases_eq, cases_lt, lt-ltb, le-ltb}
use Rattle.std.proofs.lemmas.List.{get_or_append_left, get_or-append_right, get_or-take, get_or_past, get_or-set_same, get_or-set_other, get_or-replicate, get_or-drop, length-set, length-take-le, length-replicate, ext_get_or, get_or_push}
use Rattle.std.proofs.lemmas.List.Sums.{sum_by-cons, sum_by-append, sum_by-take-drop, count_by-le-length}
use Rattle.std.proofs.lemmas.Nat.Bits.{bit_at_lowest, bit_at-suc, bit_at-zero, bit_at_ones, bit_at_ones_above, bit_at-trailing_zeros, bit_at_clear_same, bit_at_clear_other}
use Rattle.stream_blocks.specs.Sets.{bits, all_bits, count, first_from, first, IsFirst, HasNone, IsKept}

pub bits_len : (k word : ℕ) → length (bits k word) ≡ k
bits_len zero word = refl
bits_len (suc k) word = ap suc (bits_len k (word / 2))

pub all_bits_len : (words : List ℕ) → length (all_bits words) ≡ 64 * length words
all_bits_len [] = refl
all_bits_len (w ∷ words) = length-append (bits 64 w) (all_bits words) ∙ omega (arith, bits_len 64 w, all_bits_len words)

flag_same : (a b : ℕ) → a ≡ b → (a == 1) ≡ (b == 1)
flag_same a b e = ap (λ (n : ℕ). n == 1) e

bits_at : (k word i : ℕ) → i < k → get_or (bits k word) i false ≡ (bit_at word i == 1)
bits_at zero word i lt = absurd (omega (arith, lt))
bits_at (suc k) word zero lt = sym (flag_same (bit_at word 0) (word % 2) (bit_at_lowest word))
bits_at (suc k) word (suc i) lt = bits_at k (word / 2) i (omega (arith, lt)) ∙ sym (flag_same (bit_at word (suc i)) (bit_at (word / 2) i) (bit_at-suc word i))

flag_here : (w : ℕ) (words : List ℕ) (i : ℕ) → i < 64 → get_or (all_bits (w ∷ words)) i false ≡ (bit_at (get_or (w ∷ words) (i / 64) 0) (i % 64) == 1)
flag_here w words i lt =
    let p : i / 64 ≡ 0 = omega (arith, lt) in
    let q : i % 64 ≡ i = omega (arith, lt) in
    get_or_append_left (bits 64 w) (all_bits words) false i (omega (arith, lt, bits_len 64 w)) ∙ bits_at 64 w i lt ∙ rw (p, q) refl

flag_there : (w : ℕ) (words : List ℕ) (i : ℕ) → 64 ≤ i → get_or (all_bits words) (i - 64) false ≡ (bit_at (get_or words ((i - 64) / 64) 0) ((i - 64) % 64) == 1)
    → get_or (all_bits (w ∷ words)) i false ≡ (bit_at (get_or (w ∷ words) (i / 64) 0) (i % 64) == 1)
flag_there w words i le so_far =
    let p : i / 64 ≡ suc ((i - 64) / 64) = omega (arith, le) in
    let q : i % 64 ≡ (i - 64) % 64 = omega (arith, le) in
    get_or-append_right (bits 64 w) (all_bits words) 64 i false (bits_len 64 w) le ∙ so_far ∙ rw (p, q) refl

-- a flag is a bit of its word
pub flag_at : (words : List ℕ) (i : ℕ) → get_or (all_bits words) i false ≡ (bit_at (get_or words (i / 64) 0) (i % 64) == 1)
flag_at [] i = sym (flag_same (bit_at 0 (i % 64)) 0 (bit_at-zero (i % 64)))
flag_at (w ∷ words) i = ⊎_elim (flag_here w words i) (λ le. flag_there w words i le (flag_at words (i - 64))) (cases_lt i 64)

-- ---- One flag is cleared

cleared_at : (words : List ℕ) (i j : ℕ) → i < 64 * length words → j < 64 * length words
    → get_or (all_bits (set words (i / 64) (bit_and (get_or words (i / 64) 0) (bit_not w64 (1 * 2 ^ (i % 64) % 2 ^ 64))))) j false ≡ get_or (set (all_bits words) i false) j false
cleared_at words i j lt low = flag_at cleared j ∙ ⊎_elim same other (cases_eq j i)
  where
    at : ℕ
    at = i / 64

    word : ℕ
    word = get_or words at 0

    new : ℕ
    new = bit_and word (bit_not w64 (1 * 2 ^ (i % 64) % 2 ^ 64))

    cleared : List ℕ
    cleared = set words at new

    old_flag : j ≢ i → get_or (set (all_bits words) i false) j false ≡ (bit_at (get_or words (j / 64) 0) (j % 64) == 1)
    old_flag apart = get_or-set_other (all_bits words) i j false false apart ∙ flag_at words j

    in_word : get_or cleared at 0 ≡ new
    in_word = get_or-set_same words at new 0 (omega (arith, lt))

    same : j ≡ i → (bit_at (get_or cleared (j / 64) 0) (j % 64) == 1) ≡ get_or (set (all_bits words) i false) j false
    same e =
        let bit : bit_at new (i % 64) ≡ 0 = bit_at_clear_same w64 word (i % 64) (omega arith) in
        rw (e, in_word) (flag_same (bit_at new (i % 64)) 0 bit ∙ sym (get_or-set_same (all_bits words) i false false (omega (arith, lt, all_bits_len words))))

    other : j ≢ i → (bit_at (get_or cleared (j / 64) 0) (j % 64) == 1) ≡ get_or (set (all_bits words) i false) j false
    other apart = ⊎_elim in_same elsewhere (cases_eq (j / 64) at)
      where
        in_same : j / 64 ≡ at → (bit_at (get_or cleared (j / 64) 0) (j % 64) == 1) ≡ get_or (set (all_bits words) i false) j false
        in_same e =
            let bit : bit_at new (j % 64) ≡ bit_at word (j % 64) = bit_at_clear_other w64 word (i % 64) (omega arith) (j % 64) (omega arith) (λ f. apart (omega (arith, e, f))) in
            rw (old_flag apart, e, in_word) (flag_same (bit_at new (j % 64)) (bit_at word (j % 64)) bit)

        elsewhere : j / 64 ≢ at → (bit_at (get_or cleared (j / 64) 0) (j % 64) == 1) ≡ get_or (set (all_bits words) i false) j false
        elsewhere apart_words = rw (old_flag apart, get_or-set_other words at (j / 64) new 0 apart_words) refl

pub cleared_is : (words : List ℕ) (i : ℕ) → i < 64 * length words
    → all_bits (set words (i / 64) (bit_and (get_or words (i / 64) 0) (bit_not w64 (1 * 2 ^ (i % 64) % 2 ^ 64)))) ≡ set (all_bits words) i false
cleared_is words i lt =
    let new = set words (i / 64) (bit_and (get_or words (i / 64) 0) (bit_not w64 (1 * 2 ^ (i % 64) % 2 ^ 64))) in
    let len : length (all_bits new) ≡ 64 * length words = all_bits_len new ∙ ap (λ (n : ℕ). 64 * n) (length-set words (i / 64) _) in
    ext_get_or false (all_bits new) (set (all_bits words) i false) (len ∙ sym (all_bits_len words) ∙ sym (length-set (all_bits words) i false)) (λ j low. cleared_at words i j lt (omega (arith, low, len)))

-- ---- The first flag that is set

flag_is : (words : List ℕ) (i n : ℕ) → bit_at (get_or words (i / 64) 0) (i % 64) ≡ n → get_or (all_bits words) i false ≡ (n == 1)
flag_is words i n e = flag_at words i ∙ flag_same (bit_at (get_or words (i / 64) 0) (i % 64)) n e

pub lowest_set : (words : List ℕ) (at : ℕ) → 0 < get_or words at 0 → get_or words at 0 < 2 ^ 64
    → (trailing_zeros w64 (get_or words at 0) < 64) × (get_or (all_bits words) (64 * at + trailing_zeros w64 (get_or words at 0)) false ≡ true)
    × ((j : ℕ) → 64 * at ≤ j → j < 64 * at + trailing_zeros w64 (get_or words at 0) → get_or (all_bits words) j false ≡ false)
lowest_set words at some fits = (low.0, set_there, none_before)
  where
    word : ℕ
    word = get_or words at 0

    place : ℕ
    place = trailing_zeros w64 word

    low : (place < 64) × (bit_at word place ≡ 1) × ((i : ℕ) → i < place → bit_at word i ≡ 0)
    low = bit_at-trailing_zeros w64 word some fits

    set_there : get_or (all_bits words) (64 * at + place) false ≡ true
    set_there =
        let p : (64 * at + place) / 64 ≡ at = omega (arith, low.0) in
        let q : (64 * at + place) % 64 ≡ place = omega (arith, low.0) in
        flag_is words (64 * at + place) 1 (rw (p, q) low.1)

    none_before : (j : ℕ) → 64 * at ≤ j → j < 64 * at + place → get_or (all_bits words) j false ≡ false
    none_before j from to =
        let p : j / 64 ≡ at = omega (arith, low.0, from, to) in
        let q : j % 64 ≡ j - 64 * at = omega (arith, low.0, from, to) in
        flag_is words j 0 (rw (p, q) (low.2 (j - 64 * at) (omega (arith, from, to))))

pub no_flag : (words : List ℕ) (at j : ℕ) → get_or words at 0 ≡ 0 → 64 * at ≤ j → j < 64 * at + 64 → get_or (all_bits words) j false ≡ false
no_flag words at j zero_word from to =
    let p : j / 64 ≡ at = omega (arith, from, to) in
    flag_is words j 0 (rw (p, zero_word) (bit_at-zero (j % 64)))

pub none_on : (words : List ℕ) (at : ℕ) → get_or words at 0 ≡ 0 → ((j : ℕ) → j < 64 * at → get_or (all_bits words) j false ≡ false) → (j : ℕ) → j < 64 * (at + 1) → get_or (all_bits words) j false ≡ false
none_on words at zero_word before j lt = ⊎_elim (before j) (λ le. no_flag words at j zero_word le (omega (arith, lt))) (cases_lt j (64 * at))

pub none_at_all : (words : List ℕ) (at : ℕ) → length words ≤ at → ((j : ℕ) → j < 64 * at → get_or (all_bits words) j false ≡ false) → HasNone (all_bits words)
none_at_all words at all before j = ⊎_elim (before j) (λ le. get_or_past (all_bits words) j false (omega (arith, all, le, all_bits_len words))) (cases_lt j (64 * at))

pub is_first : (words : List ℕ) (at : ℕ) → 0 < get_or words at 0 → get_or words at 0 < 2 ^ 64 → ((j : ℕ) → j < 64 * at → get_or (all_bits words) j false ≡ false)
    → IsFirst (64 * at + trailing_zeros w64 (get_or words at 0)) (all_bits words)
is_first words at some fits before =
    let low = lowest_set words at some fits in
    (low.1, λ j lt. ⊎_elim (before j) (λ le. low.2 j le lt) (cases_lt j (64 * at)))

first_is : (flags : List Bool) (i at : ℕ) → IsFirst i flags → first_from at flags ≡ Some (at + i)
first_is [] i at h = absurd cc
first_is (true ∷ flags) zero at h = ap (λ (n : ℕ). Some n) (omega arith)
first_is (false ∷ flags) zero at h = absurd (let e = h.0 in cc)
first_is (true ∷ flags) (suc i) at h = absurd (let e = h.1 zero (omega arith) in cc)
first_is (false ∷ flags) (suc i) at h = first_is flags i (suc at) (h.0, λ j lt. h.1 (suc j) (omega (arith, lt))) ∙ ap (λ (n : ℕ). Some n) (omega arith)

first_not : (flags : List Bool) (at : ℕ) → HasNone flags → first_from at flags ≡ None
first_not [] at h = refl
first_not (true ∷ flags) at h = absurd (let e = h zero in cc)
first_not (false ∷ flags) at h = first_not flags (suc at) (λ j. h (suc j))

below_blocks : (blocks : ℕ) (words : List ℕ) (i : ℕ) → IsKept blocks words → get_or (all_bits words) i false ≡ true → i < blocks
below_blocks blocks words i kept set = ⊎_elim (λ lt. lt) (λ le. absurd (let e = kept.3 i le in cc)) (cases_lt i blocks)

pub small_places : (blocks : ℕ) (words : List ℕ) → IsKept blocks words → (i : ℕ) → get_or (all_bits words) i false ≡ true → i < 2 ^ 32
small_places blocks words kept i set = omega (arith, kept.2, below_blocks blocks words i kept set)

pub first_some : (blocks : ℕ) (words : List ℕ) (i : ℕ) → IsKept blocks words → IsFirst i (all_bits words) → Some i ≡ first (take blocks (all_bits words))
first_some blocks words i kept h =
    let lt = below_blocks blocks words i kept h.0 in
    sym (first_is (take blocks (all_bits words)) i 0 (get_or-take blocks (all_bits words) i false lt ∙ h.0, λ j low. get_or-take blocks (all_bits words) j false (omega (arith, lt, low)) ∙ h.1 j low) ∙ ap (λ (n : ℕ). Some n) (omega arith))

pub flags_len : (blocks : ℕ) (words : List ℕ) → IsKept blocks words → length (take blocks (all_bits words)) ≡ blocks
flags_len blocks words kept = length-take-le blocks (all_bits words) (omega (arith, kept.1, all_bits_len words))

pub first_none : (blocks : ℕ) (words : List ℕ) → IsKept blocks words → HasNone (all_bits words) → None ≡ first (take blocks (all_bits words))
first_none blocks words kept h =
    sym (first_not (take blocks (all_bits words)) 0 (λ j. ⊎_elim (λ lt. get_or-take blocks (all_bits words) j false lt ∙ h j) (λ le. get_or_past (take blocks (all_bits words)) j false (omega (arith, le, flags_len blocks words kept))) (cases_lt j blocks)))

pub first_by : (blocks : ℕ) (words : List ℕ) (place : Option ℕ) → IsKept blocks words → IfSome place (λ i. IsFirst i (all_bits words)) → IfNone place (HasNone (all_bits words)) → place ≡ first (take blocks (all_bits words))
first_by blocks words (Some i) kept some none = first_some blocks words i kept some
first_by blocks words None kept some none = first_none blocks words kept none

-- ---- How many are set

parity : (d : ℕ) → d < 2 → cond (d == 1) 1 0 ≡ d
parity zero lt = refl
parity (suc zero) lt = refl
parity (suc (suc d)) lt = absurd (omega (arith, lt))

ones_zero : count_ones 0 ≡ 0
unfolding ones
ones_zero = refl

-- as many flags are set as bits of the word
pub ones_bits : (k w : ℕ) → w < 2 ^ k → sum_by (λ b. cond b 1 0) (bits k w) ≡ count_ones w
ones_bits zero w lt =
    let none : w ≡ 0 = omega (arith, lt) in
    rw none (sym ones_zero)
ones_bits (suc k) w lt =
    let half : w / 2 < 2 ^ k = omega (arith, lt, pow-suc 2 k) in
    sum_by-cons (λ b. cond b 1 0) (w % 2 == 1) (bits k (w / 2)) ∙ rw (parity (w % 2) (omega arith), ones_bits k (w / 2) half) (sym (ones_step w))

pub all_ones : (words : List ℕ) → ((k : ℕ) → get_or words k 0 < 2 ^ 64) → sum_by (λ b. cond b 1 0) (all_bits words) ≡ sum_by count_ones words
all_ones [] fits = refl
all_ones (w ∷ words) fits =
    sum_by-append (λ b. cond b 1 0) (bits 64 w) (all_bits words) ∙ rw (ones_bits 64 w (fits zero), all_ones words (λ k. fits (suc k))) (sym (sum_by-cons count_ones w words))

pub none_counted : (flags : List Bool) → HasNone flags → sum_by (λ b. cond b 1 0) flags ≡ 0
none_counted [] h = refl
none_counted (true ∷ flags) h = absurd (let e = h zero in cc)
none_counted (false ∷ flags) h = sum_by-cons (λ b. cond b 1 0) false flags ∙ rw (none_counted flags (λ j. h (suc j))) refl

pub count_is : (blocks : ℕ) (words : List ℕ) → IsKept blocks words → count (all_bits words) ≡ count (take blocks (all_bits words))
count_is blocks words kept =
    let rest : sum_by (λ b. cond b 1 0) (drop blocks (all_bits words)) ≡ 0 = none_counted (drop blocks (all_bits words)) (λ j. get_or-drop blocks (all_bits words) j false ∙ kept.3 (blocks + j) (omega arith)) in
    omega (arith, rest, sum_by-take-drop (λ b. cond b 1 0) (all_bits words) blocks)

pub count_fits : (blocks : ℕ) (words : List ℕ) → IsKept blocks words → count (all_bits words) < 2 ^ 32
count_fits blocks words kept =
    omega (arith, count_is blocks words kept, flags_len blocks words kept, kept.2, count_by-le-length (λ b. b) (take blocks (all_bits words)))

-- ---- All are set at first

first_bits : (blocks : ℕ) (words : List ℕ) (i : ℕ) → ((k : ℕ) → k < length words → get_or words k 0 ≡ 2 ^ min (blocks - 64 * k) 64 - 1) → i < 64 * length words → get_or (all_bits words) i false ≡ nat_lt i blocks
first_bits blocks words i are low = ⊎_elim there beyond (cases_lt i blocks)
  where
    word : get_or words (i / 64) 0 ≡ 2 ^ min (blocks - 64 * (i / 64)) 64 - 1
    word = are (i / 64) (omega (arith, low))

    there : i < blocks → get_or (all_bits words) i false ≡ nat_lt i blocks
    there lt = flag_is words i 1 (rw word (bit_at_ones (min (blocks - 64 * (i / 64)) 64) (i % 64) (omega (arith, lt)))) ∙ sym (lt-ltb i blocks lt)

    beyond : blocks ≤ i → get_or (all_bits words) i false ≡ nat_lt i blocks
    beyond le = flag_is words i 0 (rw word (bit_at_ones_above (min (blocks - 64 * (i / 64)) 64) (i % 64) (omega (arith, le)))) ∙ sym (le-ltb i blocks le)

pub kept_first : (blocks : ℕ) (words : List ℕ) → 0 < blocks → blocks ≤ 64 * length words → blocks < 2 ^ 32 → ((k : ℕ) → k < length words → get_or words k 0 ≡ 2 ^ min (blocks - 64 * k) 64 - 1) → IsKept blocks words
kept_first blocks words some room small are = (some, room, small, λ i le. ⊎_elim (λ low. first_bits blocks words i are low ∙ le-ltb i blocks le) (λ high. get_or_past (all_bits words) i false (omega (arith, high, all_bits_len words))) (cases_lt i (64 * length words)))

pub all_missing : (blocks : ℕ) (words : List ℕ) → blocks ≤ 64 * length words → ((k : ℕ) → k < length words → get_or words k 0 ≡ 2 ^ min (blocks - 64 * k) 64 - 1) → take blocks (all_bits words) ≡ replicate blocks true
all_missing blocks words room are =
    let len : length (take blocks (all_bits words)) ≡ blocks = length-take-le blocks (all_bits words) (omega (arith, room, all_bits_len words)) in
    ext_get_or false (take blocks (all_bits words)) (replicate blocks true) (len ∙ sym (length-replicate blocks true))
    (λ i lt. let low : i < blocks = omega (arith, lt, len) in
    get_or-take blocks (all_bits words) i false low ∙ first_bits blocks words i are (omega (arith, low, room)) ∙ lt-ltb i blocks low ∙ sym (get_or-replicate blocks i true false low))

pub first_word : (blocks left at word : ℕ) (words : List ℕ) → length words ≡ at → left ≡ blocks - 64 * at → word ≡ 2 ^ min left 64 - 1 → ((k : ℕ) → k < length words → get_or words k 0 ≡ 2 ^ min (blocks - 64 * k) 64 - 1)
    → (k : ℕ) → k < length (words ++ word ∷ []) → get_or (words ++ word ∷ []) k 0 ≡ 2 ^ min (blocks - 64 * k) 64 - 1
first_word blocks left at word words len is new are k lt =
    ⊎_elim (λ low. get_or_append_left words (word ∷ []) 0 k low ∙ are k low)
    (λ high. let e : k ≡ at = omega (arith, high, lt, len, length-append words (word ∷ [])) in
    ap (λ (n : ℕ). get_or (words ++ word ∷ []) n 0) e ∙ get_or_push words word 0 at len ∙ new ∙ ap (λ (n : ℕ). 2 ^ min n 64 - 1) (is ∙ ap (λ (n : ℕ). blocks - 64 * n) (sym e)))
    (cases_lt k (length words))

-- ---- A mark

pub marked_view : (blocks i : ℕ) (words new : List ℕ) → IsKept blocks words → i < blocks → all_bits new ≡ set (all_bits words) i false → take blocks (all_bits new) ≡ set (take blocks (all_bits words)) i false
marked_view blocks i words new kept lt is =
    let len : length (take blocks (all_bits new)) ≡ blocks = ap (λ (t : List Bool). length (take blocks t)) is ∙ length-take-le blocks (set (all_bits words) i false) (omega (arith, kept.1, all_bits_len words, length-set (all_bits words) i false)) in
    let old : length (take blocks (all_bits words)) ≡ blocks = flags_len blocks words kept in
    ext_get_or false (take blocks (all_bits new)) (set (take blocks (all_bits words)) i false) (len ∙ sym old ∙ sym (length-set (take blocks (all_bits words)) i false))
    (λ j low. let below : j < blocks = omega (arith, low, len) in
    get_or-take blocks (all_bits new) j false below ∙ ap (λ (t : List Bool). get_or t j false) is
    ∙ ⊎_elim (λ e. rw e (get_or-set_same (all_bits words) i false false (omega (arith, lt, kept.1, all_bits_len words)) ∙ sym (get_or-set_same (take blocks (all_bits words)) i false false (omega (arith, lt, old)))))
    (λ apart. get_or-set_other (all_bits words) i j false false apart ∙ sym (get_or-set_other (take blocks (all_bits words)) i j false false apart ∙ get_or-take blocks (all_bits words) j false below)) (cases_eq j i))

pub marked_kept : (blocks i : ℕ) (words new : List ℕ) → IsKept blocks words → i < blocks → length new ≡ length words → all_bits new ≡ set (all_bits words) i false → IsKept blocks new
marked_kept blocks i words new kept lt len is = (
  kept.0,
  omega (arith, kept.1, len),
  kept.2,
  λ j le. ap (λ (t : List Bool). get_or t j false) is
      ∙ ⊎_elim (λ e. rw e (get_or-set_same (all_bits words) i false false (omega (arith, lt, kept.1, all_bits_len words))))
      (λ apart. get_or-set_other (all_bits words) i j false false apart ∙ kept.3 j le) (cases_eq j i),
)
