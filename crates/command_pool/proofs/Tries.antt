-- The numbers of a word, tried from the lowest up.
use Rattle.std.proofs.Common.{◌≡◌, ◌≢◌, ℕ, zero, suc, Bool, true, false, ◌+◌, ◌-◌, ◌^◌, ◌<◌, ◌≤◌, if◌then◌else◌, List, [], ◌∷◌, ◌++◌, length, sym, ap, subst, ◌∙◌, ⊎_elim, bit_and, length-append, append_assoc, refl, eq-eqb, ne_eqb, arith}
use mir.Syntax.{w64}
use Rattle.std.specs.Prelude.{◌==◌}
use Rattle.std.specs.Int.{bit_at, trailing_zeros}
use Rattle.std.proofs.lemmas.Bool.{cases_eq, cases_lt}
use Rattle.std.proofs.lemmas.Nat.{and_le_l}
use Rattle.std.proofs.lemmas.Nat.Bits.{bit_at-trailing_zeros, bit_at-zero}
use Rattle.command_pool.specs.declared.hand.PoolStep.{PoolStep}
use Rattle.command_pool.specs.declared.hand.PoolStep.TheVariants as steps
use Rattle.command_pool.specs.Kinds.{all_but, FitsPool}
use Rattle.command_pool.specs.Takes.{misses, IsOnward, empties}
use Rattle.command_pool.proofs.Words.{cleared_same, cleared_other}

-- what is left of a word has its numbers from n on
abbrev pub HasFrom : ℕ → ℕ → ℕ → Type 0
HasFrom n word left = (x : ℕ) → (x < n → bit_at left x ≡ 0) × (n ≤ x → bit_at left x ≡ bit_at word x)

pub missed : (word x : ℕ) → bit_at word x ≡ 1 → misses word (suc x) ≡ steps.Missed x ∷ misses word x
missed word x set = ap (λ b. if b then steps.Missed x ∷ misses word x else misses word x) (eq-eqb (bit_at word x) 1 set)

pub skipped : (word x : ℕ) → bit_at word x ≢ 1 → misses word (suc x) ≡ misses word x
skipped word x clear = ap (λ b. if b then steps.Missed x ∷ misses word x else misses word x) (ne_eqb (bit_at word x) 1 clear)

-- numbers that the word doesn't have aren't tried
skipped_over : (word n k : ℕ) → ((x : ℕ) → n ≤ x → x < n + k → bit_at word x ≡ 0) → misses word (k + n) ≡ misses word n
skipped_over word n zero clear = ap (misses word) {y = n} (omega arith)
skipped_over word n (suc k) clear =
    ap (misses word) {y = suc (k + n)} (omega arith) ∙ skipped word (k + n) (λ set. absurd (omega (arith, clear (k + n) (omega arith) (omega arith))))
    ∙ skipped_over word n k (λ x from below. clear x from (omega arith))

same_up_to : (word n m : ℕ) → n ≤ m → ((x : ℕ) → n ≤ x → x < m → bit_at word x ≡ 0) → misses word m ≡ misses word n
same_up_to word n m le clear = ap (misses word) {y = m - n + n} (omega arith) ∙ skipped_over word n (m - n) (λ x from below. clear x from (omega arith))

pub at_most : (word n : ℕ) → length (misses word n) ≤ n
at_most word zero = omega arith
at_most word (suc n) = ⊎_elim
    (λ set. omega (arith, at_most word n, ap length (missed word n set)))
    (λ clear. omega (arith, at_most word n, ap length (skipped word n clear)))
    (cases_eq (bit_at word n) 1)

-- the lowest number of what is left
abbrev pub IsLowest : ℕ → ℕ → Type 0
IsLowest left id = (id < 64) × (bit_at left id ≡ 1) × ((x : ℕ) → x < id → bit_at left x ≡ 0)

pub lowest : (left : ℕ) → left < 2 ^ 64 → left ≢ 0 → IsLowest left (trailing_zeros w64 left)
lowest left fits some = bit_at-trailing_zeros w64 left (omega arith) fits

module _ (seen left n id : ℕ) (from : HasFrom n seen left) (low : IsLowest left id) where
  not_before : n ≤ id
  not_before = ⊎_elim (λ before. absurd (omega (arith, (from id).0 before, low.1))) (λ le. le) (cases_lt id n)

  pub is_seen : bit_at seen id ≡ 1
  is_seen = sym ((from id).1 not_before) ∙ low.1

  -- between n and the lowest number that is left nothing is to be tried
  pub tried_below : misses seen id ≡ misses seen n
  tried_below = same_up_to seen n id not_before (λ x le lt. sym ((from x).1 le) ∙ low.2 x lt)

  pub of_pool : (pool : ℕ) → FitsPool pool seen → id < pool
  of_pool pool fits = ⊎_elim (λ lt. lt) (λ high. absurd (omega (arith, fits id high, is_seen))) (cases_lt id pool)

  -- the steps so far, and the step on the lowest number
  pub behind_hit : (old so_far new : List PoolStep) → so_far ≡ misses seen n ++ old → new ≡ steps.Taken id ∷ so_far → new ≡ steps.Taken id ∷ misses seen id ++ old
  behind_hit old so_far new are is = is ∙ ap (λ l. steps.Taken id ∷ l) (are ∙ ap (λ l. l ++ old) (sym tried_below))

  pub behind_miss : (old so_far new : List PoolStep) → so_far ≡ misses seen n ++ old → new ≡ steps.Missed id ∷ so_far → new ≡ misses seen (suc id) ++ old
  behind_miss old so_far new are is = is ∙ ap (λ l. steps.Missed id ∷ l) (are ∙ ap (λ l. l ++ old) (sym tried_below)) ∙ ap (λ l. l ++ old) (sym (missed seen id is_seen))

  pub onward : left < 2 ^ 64 → HasFrom (suc id) seen (bit_and left (all_but id))
  onward fits x = (below, above)
    where
      below : x < suc id → bit_at (bit_and left (all_but id)) x ≡ 0
      below lt = ⊎_elim (λ e. subst (λ y. bit_at (bit_and left (all_but id)) y ≡ 0) (sym e) (cleared_same left id low.0))
          (λ apart. cleared_other left id x fits low.0 apart ∙ low.2 x (omega arith)) (cases_eq x id)

      above : suc id ≤ x → bit_at (bit_and left (all_but id)) x ≡ bit_at seen x
      above le = let le' = not_before in cleared_other left id x fits low.0 (λ e. omega arith) ∙ (from x).1 (omega arith)

  pub smaller : bit_and left (all_but id) < left
  smaller = ⊎_elim (λ e. absurd (omega (arith, ap (λ w. bit_at w id) e, cleared_same left id low.0, low.1))) (λ apart. omega (arith, and_le_l left (all_but id))) (cases_eq (bit_and left (all_but id)) left)

-- where nothing is left, all was tried
pub all_tried : (pool seen n : ℕ) → HasFrom n seen 0 → FitsPool pool seen → misses seen n ≡ misses seen pool
all_tried pool seen n from fits = ⊎_elim
    (λ lt. sym (same_up_to seen n pool (omega arith) (λ x le _. sym ((from x).1 le) ∙ bit_at-zero x)))
    (λ le. same_up_to seen pool n le (λ x high _. fits x high))
    (cases_lt n pool)

-- how many steps a take makes
pub taken_within : (pool seen id : ℕ) (old new : List PoolStep) → id < pool → new ≡ steps.Taken id ∷ misses seen id ++ steps.Loaded seen ∷ old → length new ≤ length old + (1 + pool)
taken_within pool seen id old new low is = omega (arith, ap length is, length-append (misses seen id) (steps.Loaded seen ∷ old), at_most seen id)

pub missed_within : (pool seen : ℕ) (old new : List PoolStep) → new ≡ misses seen pool ++ steps.Loaded seen ∷ old → length new ≤ length old + (1 + pool)
missed_within pool seen old new is = omega (arith, ap length is, length-append (misses seen pool) (steps.Loaded seen ∷ old), at_most seen pool)

-- ---- Over several calls

-- tries that missed are no loads
empties-misses : (word n : ℕ) (rest : List PoolStep) → empties (misses word n ++ rest) ≡ empties rest
empties-misses word zero rest = refl
empties-misses word (suc n) rest = by_bit (bit_at word n == 1) (empties-misses word n rest)
  where
    by_bit : (is : Bool) → empties (misses word n ++ rest) ≡ empties rest → empties ((if is then steps.Missed n ∷ misses word n else misses word n) ++ rest) ≡ empties rest
    by_bit true e = e
    by_bit false e = e

some_found : (seen : ℕ) (old : List PoolStep) → seen ≢ 0 → empties (steps.Loaded seen ∷ old) ≡ empties old
some_found seen old some = let same : 0 + empties old ≡ empties old = omega arith in ap (λ b. (if b then 1 else 0) + empties old) (ne_eqb seen 0 some) ∙ same

pub empties_taken : (seen id : ℕ) (old new : List PoolStep) → seen ≢ 0 → new ≡ steps.Taken id ∷ misses seen id ++ steps.Loaded seen ∷ old → empties new ≡ empties old + 0
empties_taken seen id old new some is = omega (arith, ap empties is, empties-misses seen id (steps.Loaded seen ∷ old), some_found seen old some)

pub empties_missed : (pool seen : ℕ) (old new : List PoolStep) → seen ≢ 0 → new ≡ misses seen pool ++ steps.Loaded seen ∷ old → empties new ≡ empties old + 0
empties_missed pool seen old new some is = omega (arith, ap empties is, empties-misses seen pool (steps.Loaded seen ∷ old), some_found seen old some)

pub onward_empty : (seen : ℕ) (old new : List PoolStep) → new ≡ steps.Loaded seen ∷ old → IsOnward old new
onward_empty seen old new is = (steps.Loaded seen ∷ [], is)

pub onward_taken : (seen id : ℕ) (old new : List PoolStep) → new ≡ steps.Taken id ∷ misses seen id ++ steps.Loaded seen ∷ old → IsOnward old new
onward_taken seen id old new is = (steps.Taken id ∷ misses seen id ++ steps.Loaded seen ∷ [], is ∙ ap (λ l. steps.Taken id ∷ l) (sym (append_assoc (misses seen id) (steps.Loaded seen ∷ []) old)))

pub onward_missed : (pool seen : ℕ) (old new : List PoolStep) → new ≡ misses seen pool ++ steps.Loaded seen ∷ old → IsOnward old new
onward_missed pool seen old new is = (misses seen pool ++ steps.Loaded seen ∷ [], is ∙ sym (append_assoc (misses seen pool) (steps.Loaded seen ∷ []) old))
