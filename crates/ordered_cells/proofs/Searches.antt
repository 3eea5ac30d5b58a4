-- One step of a search along a list.
use Rattle.std.proofs.Common.{◌≡◌, ◌<◌, ℕ, zero, suc, ◌+◌, Bool, true, false, cond, List, [], ◌∷◌, length, drop, Some, None, refl, arith, sym, ap, ◌∙◌}
use Rattle.std.specs.Prelude.{find, slice_get}
use Rattle.std.proofs.lemmas.List.{drop_more}
use Rattle.std.proofs.lemmas.Option.{slice_get_within, get_or_from_slice_get}

-- what is left begins with the element at its place
front : {X : Type 0} (p : X → Bool) (xs : List X) (k : ℕ) (x : X) → slice_get xs k ≡ Some x → find p (drop k xs) ≡ cond (p x) (Some x) (find p (drop (k + 1) xs))
front p xs k x at = ap (find p) (drop_more xs k x (slice_get_within xs k x at)) ∙ ap (λ y. cond (p y) (Some y) (find p (drop (k + 1) xs))) (get_or_from_slice_get xs k x x at)

pub found_here : {X : Type 0} (p : X → Bool) (xs : List X) (k : ℕ) (x : X) → slice_get xs k ≡ Some x → p x ≡ true → find p (drop k xs) ≡ find p xs → Some x ≡ find p xs
found_here p xs k x at hit so_far = sym (front p xs k x at ∙ rw hit refl) ∙ so_far

pub found_later : {X : Type 0} (p : X → Bool) (xs : List X) (k : ℕ) (x : X) → slice_get xs k ≡ Some x → p x ≡ false → find p (drop k xs) ≡ find p xs → find p (drop (k + 1) xs) ≡ find p xs
found_later p xs k x at miss so_far = sym (front p xs k x at ∙ rw miss refl) ∙ so_far

pub never_past : {X : Type 0} (xs : List X) (k : ℕ) → k < length xs → slice_get xs k ≡ None → ⊥
never_past [] k inside none = omega arith
never_past (x ∷ xs) zero inside none = cc
never_past (x ∷ xs) (suc k) inside none = never_past xs k (omega arith) none
