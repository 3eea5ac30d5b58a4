-- What keeps one list to be the other in another order.
use Rattle.std.proofs.Common.{◌≡◌, ℕ, ◌+◌, Bool, true, false, cond, List, [], ◌∷◌, ◌++◌, map, refl, ap, sym, ◌∙◌, arith}
use Rattle.std.specs.Prelude.{◌==◌, not, filter}
use Rattle.std.specs.List.{sum_by, list_any, flat_map}
use Rattle.std.proofs.lemmas.List.Sums.{sum_by-append}
use Rattle.agent_table.proofs.Counts.{any_count}
use Rattle.agent_core.specs.Reordered.{IsReordered}

more : {X : Type 0} (w : X → ℕ) (x : X) (xs : List X) → sum_by w (x ∷ xs) ≡ w x + sum_by w xs
more w x xs = sum_by-append w (x ∷ []) xs ∙ omega arith

sum_flat : {X Y : Type 0} (w : Y → ℕ) (g : X → List Y) (xs : List X) → sum_by w (flat_map g xs) ≡ sum_by (λ x. sum_by w (g x)) xs
sum_flat w g [] = refl
sum_flat w g (x ∷ xs) = sum_by-append w (g x) (flat_map g xs) ∙ ap (λ n. sum_by w (g x) + n) (sum_flat w g xs) ∙ sym (more (λ y. sum_by w (g y)) x xs)

sum_map : {X Y : Type 0} (w : Y → ℕ) (g : X → Y) (xs : List X) → sum_by w (map g xs) ≡ sum_by (λ x. w (g x)) xs
sum_map w g [] = refl
sum_map w g (x ∷ xs) = more w (g x) (map g xs) ∙ ap (λ n. w (g x) + n) (sum_map w g xs) ∙ sym (more (λ y. w (g y)) x xs)

one_kept : {X : Type 0} (w : X → ℕ) (b : Bool) (x : X) (rest : List X) → sum_by w (cond b (x ∷ rest) rest) ≡ cond b (w x) 0 + sum_by w rest
one_kept w true x rest = more w x rest
one_kept w false x rest = omega arith

sum_filter : {X : Type 0} (w : X → ℕ) (p : X → Bool) (xs : List X) → sum_by w (filter p xs) ≡ sum_by (λ x. cond (p x) (w x) 0) xs
sum_filter w p [] = refl
sum_filter w p (x ∷ xs) = one_kept w (p x) x (filter p xs) ∙ ap (λ n. cond (p x) (w x) 0 + n) (sum_filter w p xs) ∙ sym (more (λ y. cond (p y) (w y) 0) x xs)

pub flat_reordered : {X Y : Type 0} (g : X → List Y) (xs ys : List X) → IsReordered xs ys → IsReordered (flat_map g xs) (flat_map g ys)
flat_reordered g xs ys same = λ w. sum_flat w g xs ∙ same (λ x. sum_by w (g x)) ∙ sym (sum_flat w g ys)

pub map_reordered : {X Y : Type 0} (g : X → Y) (xs ys : List X) → IsReordered xs ys → IsReordered (map g xs) (map g ys)
map_reordered g xs ys same = λ w. sum_map w g xs ∙ same (λ x. w (g x)) ∙ sym (sum_map w g ys)

pub filter_reordered : {X : Type 0} (p : X → Bool) (xs ys : List X) → IsReordered xs ys → IsReordered (filter p xs) (filter p ys)
filter_reordered p xs ys same = λ w. sum_filter w p xs ∙ same (λ x. cond (p x) (w x) 0) ∙ sym (sum_filter w p ys)

pub append_reordered : {X : Type 0} (zs xs ys : List X) → IsReordered xs ys → IsReordered (xs ++ zs) (ys ++ zs)
append_reordered zs xs ys same = λ w. sum_by-append w xs zs ∙ ap (λ n. n + sum_by w zs) (same w) ∙ sym (sum_by-append w ys zs)

-- a test that one of them passes is passed by one of the others
pub any_reordered : {X : Type 0} (p : X → Bool) (xs ys : List X) → IsReordered xs ys → list_any p xs ≡ list_any p ys
any_reordered p xs ys same = any_count p xs ∙ ap (λ n. not (n == 0)) (same (λ x. cond (p x) 1 0)) ∙ sym (any_count p ys)
