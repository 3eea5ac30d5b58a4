-- Lists that are changed in place, and tests over mapped lists.
use Rattle.std.proofs.Common.{◌∙◌, ◌≡◌, ◌<◌, ◌+◌, ℕ, zero, suc, Bool, true, false, cond, ◌||◌, List, [], ◌∷◌, ◌++◌, map, take, drop, length, refl, ap, arith, get_or, set, add-one}
use Rattle.std.specs.Prelude.{Some, None, not, if◌then◌else◌}
use Rattle.std.specs.List.{list_any, list_all, filter, filter_map}
use Rattle.subscriptions.proofs.Bools.{left_true, right_true}

-- an element that isn't changed yet
unchanged_at : {X : Type 0} (f : X → X) (xs : List X) (i : ℕ) (d : X) → i < length xs → get_or (map f (take i xs) ++ drop i xs) i d ≡ get_or xs i d
unchanged_at f [] i d inside = absurd (omega arith)
unchanged_at f (x ∷ xs) zero d inside = refl
unchanged_at f (x ∷ xs) (suc i) d inside = unchanged_at f xs i d (omega arith)

pub unchanged : {X : Type 0} (f : X → X) (xs ys : List X) (i : ℕ) (d : X) → i < length xs → ys ≡ map f (take i xs) ++ drop i xs → get_or ys i d ≡ get_or xs i d
unchanged f xs ys i d inside e = rw e (unchanged_at f xs i d inside)

-- one more element of a list that is changed from the front
changed_at : {X : Type 0} (f : X → X) (xs : List X) (i : ℕ) (d : X) → i < length xs → set (map f (take i xs) ++ drop i xs) i (f (get_or xs i d)) ≡ map f (take (suc i) xs) ++ drop (suc i) xs
changed_at f [] i d inside = absurd (omega arith)
changed_at f (x ∷ xs) zero d inside = refl
changed_at f (x ∷ xs) (suc i) d inside = ap (λ rest. f x ∷ rest) (changed_at f xs i d (omega arith))

pub changed : {X : Type 0} (f : X → X) (xs ys : List X) (i : ℕ) (d y : X) → i < length xs → ys ≡ map f (take i xs) ++ drop i xs → y ≡ f (get_or ys i d) → set ys i y ≡ map f (take (i + 1) xs) ++ drop (i + 1) xs
changed {X = X} f xs ys i d y inside e is =
    let to : y ≡ f (get_or xs i d) = is ∙ ap f (unchanged f xs ys i d inside e) in
    rw (to, e, add-one) (changed_at f xs i d inside)

pub any-map : {X Y : Type 0} (p : Y → Bool) (f : X → Y) (xs : List X) → list_any p (map f xs) ≡ list_any (λ x. p (f x)) xs
any-map p f [] = refl
any-map p f (x ∷ xs) = ap (λ rest. p (f x) || rest) (any-map p f xs)

pub filter-same : {X : Type 0} (p q : X → Bool) (xs : List X) → ((x : X) → p x ≡ q x) → filter p xs ≡ filter q xs
filter-same p q [] same = refl
filter-same p q (x ∷ xs) same = rw (same x) (go (q x) (filter-same p q xs same))
  where
    go : (b : Bool) → filter p xs ≡ filter q xs → cond b (x ∷ filter p xs) (filter p xs) ≡ cond b (x ∷ filter q xs) (filter q xs)
    go true rest = ap (λ others. x ∷ others) rest
    go false rest = rest

pub all_at : {X : Type 0} (p : X → Bool) (xs : List X) (i : ℕ) (d : X) → list_all p xs ≡ true → i < length xs → p (get_or xs i d) ≡ true
all_at p [] i d all inside = absurd (omega arith)
all_at p (x ∷ xs) zero d all inside = left_true (p x) (list_all p xs) all
all_at p (x ∷ xs) (suc i) d all inside = all_at p xs i d (right_true (p x) (list_all p xs) all) (omega arith)

-- ---- Elements that are given to a function which answers some or none

pub some_of_each : {X : Type 0} (f : X → X) (xs : List X) → filter_map (λ x. Some (f x)) xs ≡ map f xs
some_of_each f [] = refl
some_of_each f (x ∷ xs) = ap (λ ys. f x ∷ ys) (some_of_each f xs)

-- those of which a test holds are dropped
pub none_where : {X : Type 0} (p : X → Bool) (xs : List X) → filter_map (λ x. if p x then None else Some x) xs ≡ filter (λ x. not (p x)) xs
none_where p [] = refl
none_where p (x ∷ xs) = go (p x) refl (none_where p xs)
  where
    go : (b : Bool) → p x ≡ b → filter_map (λ y. if p y then None else Some y) xs ≡ filter (λ y. not (p y)) xs
        → filter_map (λ y. if p y then None else Some y) (x ∷ xs) ≡ filter (λ y. not (p y)) (x ∷ xs)
    go true e rest = rw e rest
    go false e rest = rw e (ap (λ ys. x ∷ ys) rest)
