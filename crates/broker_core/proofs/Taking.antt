-- What the first place of a client says of its session, and of the sessions without it.
use Rattle.std.proofs.Common.{sym, ◌∙◌, ◌≡◌, ◌<◌, ℕ, zero, suc, Bool, true, false, List, [], ◌∷◌, length, Some, None, refl, ap, inl, inr, arith, get_or, set}
use Rattle.std.specs.List.{position, position_or_len, remove, find}
use Rattle.std.proofs.lemmas.Bool.{lt-ltb}
use Rattle.std.proofs.lemmas.List.Folds.{find_at}
use Rattle.std.proofs.lemmas.List.Quantifiers.{position-Some}
use Rattle.std.proofs.lemmas.Option.{slice_get_cases}
use Rattle.broker_core.specs.Rules.{without_first}

some≢none : {X : Type 0} (x : X) → Some x ≡ None → ⊥
some≢none x e = cc

module _ {X : Type 0} (p : X → Bool) where
  pub none_found : (xs : List X) → position p xs ≡ None → find p xs ≡ None
  none_found xs none = elim (slice_get_cases xs (position_or_len p xs)).1 [
    | inl h ↦ absurd (some≢none (position_or_len p xs) (rw (lt-ltb (position_or_len p xs) (length xs) h.1) at none))
    | inr h ↦ find_at p xs ∙ h.1
  ]

  at_first : (xs : List X) (i : ℕ) (d : X) → i < length xs → p (get_or xs i d) ≡ true → ((k : ℕ) → k < i → p (get_or xs k d) ≡ false) → (find p xs ≡ Some (get_or xs i d)) × (remove xs i ≡ without_first p xs)
  at_first [] i d inside hit before = absurd (omega (arith, inside))
  at_first (x ∷ xs) zero d inside hit before = rw hit (refl, refl)
  at_first (x ∷ xs) (suc i) d inside hit before =
      let miss : p x ≡ false = before 0 (omega arith) in
      let rest = at_first xs i d (omega (arith, inside)) hit (λ k low. before (suc k) (omega (arith, low))) in
      rw miss (rest.0, ap (λ ys. x ∷ ys) rest.1)

  pub first_found : (xs : List X) (i : ℕ) (x : X) → position p xs ≡ Some i → x ≡ get_or xs i x → find p xs ≡ Some x
  first_found xs i x place at = let first = position-Some p xs i x place in (at_first xs i x first.0 first.1 first.2).0 ∙ ap Some (sym at)

  pub first_taken : (xs : List X) (i : ℕ) (x : X) → position p xs ≡ Some i → remove xs i ≡ without_first p xs
  first_taken xs i x place = let first = position-Some p xs i x place in (at_first xs i x first.0 first.1 first.2).1

  pub found_at : (xs : List X) (i : ℕ) (d : X) → position p xs ≡ Some i → find p xs ≡ Some (get_or xs i d)
  found_at xs i d place = let first = position-Some p xs i d place in (at_first xs i d first.0 first.1 first.2).0

  all_stay : (xs : List X) → find p xs ≡ None → without_first p xs ≡ xs
  all_stay [] none = refl
  all_stay (x ∷ xs) none = go (p x) refl (all_stay xs)
    where
      go : (t : Bool) → p x ≡ t → (find p xs ≡ None → without_first p xs ≡ xs) → without_first p (x ∷ xs) ≡ x ∷ xs
      go true e rest = absurd (some≢none x (rw e at none))
      go false e rest = rw e (ap (λ ys. x ∷ ys) (rest (rw e at none)))

  pub none_taken : (xs : List X) → position p xs ≡ None → xs ≡ without_first p xs
  none_taken xs none = sym (all_stay xs (none_found xs none))

pub same_at : {X : Type 0} (xs : List X) (i : ℕ) (d e : X) → i < length xs → get_or xs i d ≡ get_or xs i e
same_at [] i d e inside = absurd (omega (arith, inside))
same_at (x ∷ xs) zero d e inside = refl
same_at (x ∷ xs) (suc i) d e inside = same_at xs i d e (omega (arith, inside))

pub removed_set : {X : Type 0} (xs : List X) (i : ℕ) (y : X) → remove (set xs i y) i ≡ remove xs i
removed_set [] i y = refl
removed_set (x ∷ xs) zero y = refl
removed_set (x ∷ xs) (suc i) y = ap (λ ys. x ∷ ys) (removed_set xs i y)
