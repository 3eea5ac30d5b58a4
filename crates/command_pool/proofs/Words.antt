-- The bits of a word behind a step on one of them.
use Rattle.std.proofs.Common.{◌≡◌, ◌≢◌, ℕ, ◌-◌, ◌/◌, ◌^◌, ◌<◌, ◌≤◌, refl, sym, ap, ◌∙◌, ⊎_elim, bit_and, bit_or, arith}
use mir.Syntax.{w64}
use Rattle.std.specs.Int.{bit_at}
use Rattle.std.proofs.lemmas.Bool.{cases_eq, cases_lt, lt-ltb, le-ltb}
use Rattle.std.proofs.lemmas.Nat.{pow_below}
use Rattle.std.proofs.lemmas.Nat.Bits.{bit_at_and, bit_at_or, bit_at_not, bit_at-pow_same, bit_at-pow_other, bit_at_above, bit_at-lt, bit_at_ones, bit_at_ones_above, ones_shr}
use Rattle.command_pool.specs.Kinds.{only, all_but}
use Rattle.command_pool.specs.Rule.{once_below}

all_but_bits : (x y : ℕ) → x < 64 → y < 64 → bit_at (all_but x) y ≡ 1 - bit_at (2 ^ x) y
all_but_bits x y small low = bit_at_not w64 (2 ^ x) y (pow_below x 64 small) low

pub cleared_same : (n x : ℕ) → x < 64 → bit_at (bit_and n (all_but x)) x ≡ 0
cleared_same n x small = omega (arith, bit_at_and n (all_but x) x, all_but_bits x x small small, bit_at-pow_same x)

pub cleared_other : (n x y : ℕ) → n < 2 ^ 64 → x < 64 → y ≢ x → bit_at (bit_and n (all_but x)) y ≡ bit_at n y
cleared_other n x y fits small apart = ⊎_elim below above (cases_lt y 64)
  where
    below : y < 64 → bit_at (bit_and n (all_but x)) y ≡ bit_at n y
    below low = omega (arith, bit_at_and n (all_but x) y, all_but_bits x y small low, bit_at-pow_other x y apart, bit_at-lt n y)

    above : 64 ≤ y → bit_at (bit_and n (all_but x)) y ≡ bit_at n y
    above high = omega (arith, bit_at_and n (all_but x) y, bit_at_above n 64 y fits high)

pub set_same : (n x : ℕ) → bit_at (bit_or n (only x)) x ≡ 1
set_same n x = omega (arith, bit_at_or n (only x) x, bit_at-pow_same x, bit_at-lt n x)

pub set_other : (n x y : ℕ) → y ≢ x → bit_at (bit_or n (only x)) y ≡ bit_at n y
set_other n x y apart = omega (arith, bit_at_or n (only x) y, bit_at-pow_other x y apart)

-- a word names one number
pub only-injective : (x y : ℕ) → only x ≡ only y → y ≡ x
only-injective x y same = ⊎_elim (λ e. e) (λ apart. absurd (omega (arith, ap (λ n. bit_at n y) same, bit_at-pow_other x y apart, bit_at-pow_same y))) (cases_eq y x)

pub all_but-injective : (x y : ℕ) → x < 64 → y < 64 → all_but x ≡ all_but y → y ≡ x
all_but-injective x y small low same =
    ⊎_elim (λ e. e) (λ apart. absurd (omega (arith, ap (λ n. bit_at n y) same, all_but_bits x y small low, all_but_bits y y low low, bit_at-pow_other x y apart, bit_at-pow_same y))) (cases_eq y x)

pub once-below : (pool x : ℕ) → x < pool → once_below pool x ≡ 1
once-below pool x low = rw (lt-ltb x pool low) refl

pub once-above : (pool x : ℕ) → pool ≤ x → once_below pool x ≡ 0
once-above pool x high = rw (le-ltb x pool high) refl

pub once-le : (pool x : ℕ) → once_below pool x ≤ 1
once-le pool x = ⊎_elim (λ low. omega (arith, once-below pool x low)) (λ high. omega (arith, once-above pool x high)) (cases_lt x pool)

-- the word of a pool whose numbers are all free
pub all_free : (pool x : ℕ) → pool ≤ 64 → bit_at ((2 ^ 64 - 1) / 2 ^ (64 - pool)) x ≡ once_below pool x
all_free pool x small =
    let word : (2 ^ 64 - 1) / 2 ^ (64 - pool) ≡ 2 ^ pool - 1 = ones_shr 64 (64 - pool) (omega arith) ∙ ap (λ k. 2 ^ k - 1) (omega arith) in
    ap (λ n. bit_at n x) word ∙ ⊎_elim (λ low. bit_at_ones pool x low ∙ sym (once-below pool x low)) (λ high. bit_at_ones_above pool x high ∙ sym (once-above pool x high)) (cases_lt x pool)
