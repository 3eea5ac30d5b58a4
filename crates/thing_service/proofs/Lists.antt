-- Lists that are changed in place.
use Rattle.std.proofs.Common.{◌≡◌, ◌<◌, ◌+◌, ℕ, zero, suc, List, [], ◌∷◌, ◌++◌, map, take, drop, length, refl, ap, ◌∙◌, arith, get_or, set, add-one}

unchanged_at : {X : Type 0} (f : X → X) (xs : List X) (i : ℕ) (d : X) → i < length xs → get_or (map f (take i xs) ++ drop i xs) i d ≡ get_or xs i d
unchanged_at f [] i d inside = absurd (omega arith)
unchanged_at f (x ∷ xs) zero d inside = refl
unchanged_at f (x ∷ xs) (suc i) d inside = unchanged_at f xs i d (omega arith)

changed_at : {X : Type 0} (f : X → X) (xs : List X) (i : ℕ) (d : X) → i < length xs → set (map f (take i xs) ++ drop i xs) i (f (get_or xs i d)) ≡ map f (take (suc i) xs) ++ drop (suc i) xs
changed_at f [] i d inside = absurd (omega arith)
changed_at f (x ∷ xs) zero d inside = refl
changed_at f (x ∷ xs) (suc i) d inside = ap (λ rest. f x ∷ rest) (changed_at f xs i d (omega arith))

-- one more element of a list that is changed from the front
pub changed : {X : Type 0} (f : X → X) (xs ys : List X) (i : ℕ) (d y : X) → i < length xs → ys ≡ map f (take i xs) ++ drop i xs → y ≡ f (get_or ys i d) → set ys i y ≡ map f (take (i + 1) xs) ++ drop (i + 1) xs
changed {X = X} f xs ys i d y inside e is =
    let same : get_or ys i d ≡ get_or xs i d = rw e (unchanged_at f xs i d inside) in
    let to : y ≡ f (get_or xs i d) = is ∙ ap f same in
    rw (to, e, add-one) (changed_at f xs i d inside)
