-- The fresh identifier isn't in use: so many numbers that differ can't all be in use.
use Rattle.std.proofs.Common.{◌≡◌, ◌⊎◌, ℕ, zero, suc, ◌+◌, ◌<◌, ◌≤◌, Bool, true, false, List, [], ◌∷◌, length, refl, ap, subst, inl, inr, arith}
use Rattle.std.specs.Prelude.{◌==◌, if◌then◌else◌}
use Rattle.std.specs.Cmp.{IsEquivalence}
use Rattle.std.specs.List.{AllByRecursion, IsDistinct, list_any}
use Rattle.std.proofs.lemmas.Bool.{cases_Bool, eqb-true, eq-eqb}
use Rattle.std.proofs.lemmas.Bool.Decides.{nat_tests}
use Rattle.std.proofs.lemmas.Map.Keys.{IsDistinct-cons, IsDistinct-from_apart}
use Rattle.std.proofs.lemmas.Map.Made.{length-le_from_is_member}
use Rattle.agent_table.specs.Deliveries.{is_among}
use Rattle.agent_table.specs.Identifiers.{behind, first_free, fresh}

-- the numbers that are tried
abbrev candidates : ℕ → ℕ → List ℕ
candidates zero n = n ∷ []
candidates (suc k) n = n ∷ candidates k (behind n)

count : (k n : ℕ) → length (candidates k n) ≡ suc k
count zero n = refl
count (suc k) n = ap suc (count k (behind n))

-- ---- They differ

-- from n on, k numbers further at most, cyclically
abbrev Within : ℕ → ℕ → ℕ → Type 0
Within n k x = ((n ≤ x) × (x ≤ n + k)) ⊎ (x + 65535 ≤ n + k)

within_more : (n k x : ℕ) → 0 < n → n ≤ 65535 → Within (behind n) k x → Within n (suc k) x
within_more n k x low high h =
    elim (cases_Bool (n == 65535)) [
      | inl last ↦ from_last (eqb-true n 65535 last) (rw last at h)
      | inr other ↦ further (rw other at h)
    ]
  where
    from_last : n ≡ 65535 → Within 1 k x → Within n (suc k) x
    from_last is (inl w) = inr (omega arith)
    from_last is (inr w) = inr (omega arith)

    further : Within (n + 1) k x → Within n (suc k) x
    further (inl w) = inl (omega arith, omega arith)
    further (inr w) = inr (omega arith)

behind_range : (n : ℕ) → n ≤ 65535 → (0 < behind n) × (behind n ≤ 65535)
behind_range n high = elim (cases_Bool (n == 65535)) [
  | inl last ↦ rw last (omega arith, omega arith)
  | inr other ↦ rw other (omega arith, let e = eq-eqb n 65535 in grind (arith, nat_tests))
]

all_more : (n k : ℕ) (xs : List ℕ) → 0 < n → n ≤ 65535 → AllByRecursion (Within (behind n) k) xs → AllByRecursion (Within n (suc k)) xs
all_more n k [] low high h = tt
all_more n k (x ∷ xs) low high h = (within_more n k x low high h.0, all_more n k xs low high h.1)

all_within : (k n : ℕ) → 0 < n → n ≤ 65535 → AllByRecursion (Within n k) (candidates k n)
all_within zero n low high = (inl (omega arith, omega arith), tt)
all_within (suc k) n low high =
    (inl (omega arith, omega arith), all_more n k (candidates k (behind n)) low high (all_within k (behind n) (behind_range n high).0 (behind_range n high).1))

abbrev same : ℕ → ℕ → Bool
same q x = x == q

apart : (n k x : ℕ) → 0 < n → n ≤ 65535 → k < 65534 → Within (behind n) k x → same n x ≡ false
apart n k x low high few h =
    elim (cases_Bool (n == 65535)) [
      | inl last ↦ from_last (eqb-true n 65535 last) (rw last at h)
      | inr other ↦ further (rw other at h)
    ]
  where
    from_last : n ≡ 65535 → Within 1 k x → same n x ≡ false
    from_last is (inl w) = grind (arith, nat_tests)
    from_last is (inr w) = grind (arith, nat_tests)

    further : Within (n + 1) k x → same n x ≡ false
    further (inl w) = grind (arith, nat_tests)
    further (inr w) = grind (arith, nat_tests)

all_apart : (n k : ℕ) (xs : List ℕ) → 0 < n → n ≤ 65535 → k < 65534 → AllByRecursion (Within (behind n) k) xs → AllByRecursion (λ x. same n x ≡ false) xs
all_apart n k [] low high few h = tt
all_apart n k (x ∷ xs) low high few h = (apart n k x low high few h.0, all_apart n k xs low high few h.1)

none_differ : IsDistinct same []
none_differ = IsDistinct-from_apart same [] (λ i j d before within. absurd (omega arith))

differ : (k n : ℕ) → 0 < n → n ≤ 65535 → k < 65535 → IsDistinct same (candidates k n)
differ zero n low high few = IsDistinct-cons same n [] tt none_differ
differ (suc k) n low high few =
    let range = behind_range n high in
    IsDistinct-cons same n (candidates k (behind n)) (all_apart n k (candidates k (behind n)) low high (omega arith) (all_within k (behind n) range.0 range.1)) (differ k (behind n) range.0 range.1 (omega arith))

-- ---- One is free

all_used : (k n : ℕ) (used : List ℕ) → is_among used (first_free k n used) ≡ true → AllByRecursion (λ x. is_among used x ≡ true) (candidates k n)
all_used zero n used taken = (taken, tt)
all_used (suc k) n used taken = go (is_among used n) refl (all_used k (behind n) used)
  where
    go : (b : Bool) → is_among used n ≡ b → (is_among used (first_free k (behind n) used) ≡ true → AllByRecursion (λ x. is_among used x ≡ true) (candidates k (behind n)))
        → AllByRecursion (λ x. is_among used x ≡ true) (candidates (suc k) n)
    go true here rest = (here, rest (rw here at taken))
    go false free rest = absurd (cc (free, rw free at taken))

laws : IsEquivalence same
laws = record {
  refl = λ x. grind (arith, nat_tests);
  symm = λ x y. grind (arith, nat_tests);
  congr = λ x y z e. grind (arith, nat_tests);
}

member : (xs used : List ℕ) (q : ℕ) → AllByRecursion (λ x. is_among used x ≡ true) xs → list_any (same q) xs ≡ true → list_any (same q) used ≡ true
member [] used q all here = absurd (cc here)
member (x ∷ xs) used q all here = elim (cases_Bool (x == q)) [
  | inl is ↦ let e : x ≡ q = eqb-true x q is in subst (λ (n : ℕ). is_among used n ≡ true) e all.0
  | inr other ↦ member xs used q all.1 (rw other at here)
]

free : (n : ℕ) (used : List ℕ) → 0 < n → n ≤ 65535 → length used < 65535 → is_among used (first_free (length used) n used) ≡ false
free n used low high few = go (is_among used (first_free (length used) n used)) refl
  where
    go : (b : Bool) → is_among used (first_free (length used) n used) ≡ b → b ≡ false
    go false e = refl
    go true e =
        let all = all_used (length used) n used e in
        let most : length (candidates (length used) n) ≤ length used = length-le_from_is_member laws (candidates (length used) n) used (differ (length used) n low high few) (λ q here. member (candidates (length used) n) used q all here) in
        let size = count (length used) n in
        absurd (omega arith)

pub fresh_is_free : (last : ℕ) (used : List ℕ) → last ≤ 65535 → length used < 65535 → is_among used (fresh last used) ≡ false
unfolding fresh
fresh_is_free last used high few = free (behind last) used (behind_range last high).0 (behind_range last high).1 few

in_range : (k n : ℕ) (used : List ℕ) → 0 < n → n ≤ 65535 → (0 < first_free k n used) × (first_free k n used ≤ 65535)
in_range zero n used low high = (low, high)
in_range (suc k) n used low high = let range = behind_range n high in go (is_among used n) (in_range k (behind n) used range.0 range.1)
  where
    go : (b : Bool) → (0 < first_free k (behind n) used) × (first_free k (behind n) used ≤ 65535)
        → (0 < (if b then first_free k (behind n) used else n)) × ((if b then first_free k (behind n) used else n) ≤ 65535)
    go true rest = rest
    go false rest = (low, high)

pub fresh_in_range : (last : ℕ) (used : List ℕ) → last ≤ 65535 → (0 < fresh last used) × (fresh last used ≤ 65535)
unfolding fresh
fresh_in_range last used high = in_range (length used) (behind last) used (behind_range last high).0 (behind_range last high).1

pub fresh_is_fresh : (last : ℕ) (used : List ℕ) → last ≤ 65535 → length used < 65535 → (0 < fresh last used) × (fresh last used ≤ 65535) × (is_among used (fresh last used) ≡ false)
fresh_is_fresh last used high few = let range = fresh_in_range last used high in (range.0, range.1, fresh_is_free last used high few)
