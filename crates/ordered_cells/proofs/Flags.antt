-- What a write to a word does to the flags, and where the first flag is that isn't set.
use Rattle.std.proofs.Common.{◌≡◌, ◌≢◌, ℕ, ◌+◌, ◌-◌, ◌*◌, ◌/◌, ◌%◌, ◌^◌, ◌<◌, ◌≤◌, true, false, not, List, length, set, get_or, replicate, refl, ap, ◌∙◌, ⊎_elim, ◌⊎◌, inl, inr, bit_and, bit_or, arith}
use Rattle.std.specs.Prelude.{◌==◌, ◌||◌, ◌&&◌}
use Rattle.std.specs.Int.{bit_at, bit_not, trailing_zeros, w64}
use Rattle.std.proofs.lemmas.Bool.{cases_eq, cases_lt, eq-eqb, ne_eqb}
use Rattle.std.proofs.lemmas.List.{get_or-set_same, get_or-set_other, get_or_past, get_or-replicate, length-replicate}
use Rattle.std.proofs.lemmas.Nat.Bits.{bit_at_set_same, bit_at_set_other, bit_at_clear_same, bit_at_clear_other, bit_at-trailing_zeros, bit_at_not, bit_at-lt, bit_at_ones, bit_at-zero}
use Rattle.ordered_cells.specs.Words.{flag}

flag_is : (words : List ℕ) (j word bit : ℕ) → get_or words (j / 64) 0 ≡ word → bit_at word (j % 64) ≡ bit → flag words j ≡ (bit == 1)
flag_is words j word bit at is = rw (at, is) refl

-- a word with one bit changed to b changes one flag
changed : (words : List ℕ) (i new bit : ℕ) → i < 64 * length words → bit_at new (i % 64) ≡ bit → ((k : ℕ) → k < 64 → k ≢ i % 64 → bit_at new k ≡ bit_at (get_or words (i / 64) 0) k)
    → (j : ℕ) → ((j ≡ i) × (flag (set words (i / 64) new) j ≡ (bit == 1))) ⊎ ((j ≢ i) × (flag (set words (i / 64) new) j ≡ flag words j))
changed words i new bit lt is others j = ⊎_elim same other (cases_eq j i)
  where
    there : get_or (set words (i / 64) new) (i / 64) 0 ≡ new
    there = get_or-set_same words (i / 64) new 0 (omega (arith, lt))

    same : j ≡ i → ((j ≡ i) × (flag (set words (i / 64) new) j ≡ (bit == 1))) ⊎ ((j ≢ i) × (flag (set words (i / 64) new) j ≡ flag words j))
    same e = inl (e, rw e (flag_is (set words (i / 64) new) i new bit there is))

    in_word : j ≢ i → j / 64 ≡ i / 64 → flag (set words (i / 64) new) j ≡ flag words j
    in_word apart e = rw (e, there) (ap (λ (n : ℕ). n == 1) (others (j % 64) (omega arith) (λ f. apart (omega (arith, e, f)))))

    other : j ≢ i → ((j ≡ i) × (flag (set words (i / 64) new) j ≡ (bit == 1))) ⊎ ((j ≢ i) × (flag (set words (i / 64) new) j ≡ flag words j))
    other apart = inr (apart, ⊎_elim (in_word apart) (λ elsewhere. rw (get_or-set_other words (i / 64) (j / 64) new 0 elsewhere) refl) (cases_eq (j / 64) (i / 64)))

pub set_flags : (words : List ℕ) (i : ℕ) → i < 64 * length words
    → (j : ℕ) → flag (set words (i / 64) (bit_or (get_or words (i / 64) 0) (1 * 2 ^ (i % 64) % 2 ^ 64))) j ≡ (j == i || flag words j)
set_flags words i lt j = elim (changed words i (bit_or (get_or words (i / 64) 0) (1 * 2 ^ (i % 64) % 2 ^ 64)) 1 lt
    (bit_at_set_same w64 (get_or words (i / 64) 0) (i % 64) (omega arith))
    (λ k low apart. bit_at_set_other w64 (get_or words (i / 64) 0) (i % 64) (omega arith) k apart) j) [
      | inl h ↦ h.1 ∙ rw (eq-eqb j i h.0) refl
      | inr h ↦ h.1 ∙ rw (ne_eqb j i h.0) refl
    ]

pub cleared_flags : (words : List ℕ) (i : ℕ) → i < 64 * length words
    → (j : ℕ) → flag (set words (i / 64) (bit_and (get_or words (i / 64) 0) (bit_not w64 (1 * 2 ^ (i % 64) % 2 ^ 64)))) j ≡ (not (j == i) && flag words j)
cleared_flags words i lt j = elim (changed words i (bit_and (get_or words (i / 64) 0) (bit_not w64 (1 * 2 ^ (i % 64) % 2 ^ 64))) 0 lt
    (bit_at_clear_same w64 (get_or words (i / 64) 0) (i % 64) (omega arith))
    (λ k low apart. bit_at_clear_other w64 (get_or words (i / 64) 0) (i % 64) (omega arith) k low apart) j) [
      | inl h ↦ h.1 ∙ rw (eq-eqb j i h.0) refl
      | inr h ↦ h.1 ∙ rw (ne_eqb j i h.0) refl
    ]

-- the lowest flag of a word that isn't set
pub lowest_clear : (words : List ℕ) (at : ℕ) → get_or words at 0 ≢ 2 ^ 64 - 1 → get_or words at 0 < 2 ^ 64
    → (flag words (at * 64 + trailing_zeros w64 (bit_not w64 (get_or words at 0))) ≡ false)
    × ((j : ℕ) → 64 * at ≤ j → j < at * 64 + trailing_zeros w64 (bit_not w64 (get_or words at 0)) → flag words j ≡ true)
lowest_clear words at some fits = (clear_there, set_before)
  where
    word : ℕ
    word = get_or words at 0

    place : ℕ
    place = trailing_zeros w64 (bit_not w64 word)

    low : (place < 64) × (bit_at (bit_not w64 word) place ≡ 1) × ((i : ℕ) → i < place → bit_at (bit_not w64 word) i ≡ 0)
    low = bit_at-trailing_zeros w64 (bit_not w64 word) (omega (arith, some, fits)) (omega arith)

    clear_there : flag words (at * 64 + place) ≡ false
    clear_there =
        let p : (at * 64 + place) / 64 ≡ at = omega (arith, low.0) in
        let q : (at * 64 + place) % 64 ≡ place = omega (arith, low.0) in
        let bit : bit_at word place ≡ 0 = omega (arith, low.1, bit_at_not w64 word place fits low.0, bit_at-lt word place) in
        flag_is words (at * 64 + place) word 0 (rw p refl) (rw q bit)

    set_before : (j : ℕ) → 64 * at ≤ j → j < at * 64 + place → flag words j ≡ true
    set_before j from to =
        let p : j / 64 ≡ at = omega (arith, low.0, from, to) in
        let q : j % 64 ≡ j - at * 64 = omega (arith, low.0, from, to) in
        let k : ℕ = j - at * 64 in
        let inside : k < 64 = omega (arith, low.0, from, to) in
        let bit : bit_at word k ≡ 1 = omega (arith, low.2 k (omega (arith, from, to)), bit_at_not w64 word k fits inside, bit_at-lt word k) in
        flag_is words j word 1 (rw p refl) (rw q bit)

-- a word with all bits set
pub all_set : (words : List ℕ) (at : ℕ) → get_or words at 0 ≡ 2 ^ 64 - 1 → ((j : ℕ) → j < 64 * at → flag words j ≡ true)
    → (j : ℕ) → j < 64 * (at + 1) → flag words j ≡ true
all_set words at full before j lt = ⊎_elim (before j) here (cases_lt j (64 * at))
  where
    here : 64 * at ≤ j → flag words j ≡ true
    here le =
        let p : j / 64 ≡ at = omega (arith, le, lt) in
        flag_is words j (2 ^ 64 - 1) 1 (rw p full) (bit_at_ones 64 (j % 64) (omega arith))

pub first_of_all : (words : List ℕ) (at place : ℕ) → ((j : ℕ) → j < 64 * at → flag words j ≡ true) → ((j : ℕ) → 64 * at ≤ j → j < place → flag words j ≡ true)
    → (j : ℕ) → j < place → flag words j ≡ true
first_of_all words at place before here j lt = ⊎_elim (before j) (λ le. here j le lt) (cases_lt j (64 * at))

-- words of zeros
pub none_flagged : (n : ℕ) (j : ℕ) → flag (replicate n 0) j ≡ false
none_flagged n j = flag_is (replicate n 0) j 0 0 (⊎_elim (λ lt. get_or-replicate n (j / 64) 0 0 lt) (λ past. get_or_past (replicate n 0) (j / 64) 0 (omega (arith, past, length-replicate {A = ℕ} n 0))) (cases_lt (j / 64) n)) (bit_at-zero (j % 64))
