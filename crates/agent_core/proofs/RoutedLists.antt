-- What holds of each element of a list, and of two lists place by place.
use Rattle.std.proofs.Common.{◌≡◌, Bool, true, false, cond, List, [], ◌∷◌, ◌++◌, map, Some, refl, ap, sym, ◌∙◌, subst}
use Rattle.std.specs.Prelude.{◌&&◌, filter, find}
use Rattle.std.specs.List.{AllByRecursion, flat_map}
use Rattle.agent_core.specs.Routed.{Matched}

-- ---- Each element

pub all_filter : {X : Type 0} (P : X → Type 0) (p : X → Bool) (xs : List X) → AllByRecursion P xs → AllByRecursion P (filter p xs)
all_filter P p [] all = tt
all_filter {X = X} P p (x ∷ xs) all = go (p x) (all_filter P p xs all.1)
  where
    go : (b : Bool) → AllByRecursion P (filter p xs) → AllByRecursion P (cond b (x ∷ filter p xs) (filter p xs))
    go true rest = (all.0, rest)
    go false rest = rest

pub all_append : {X : Type 0} (P : X → Type 0) (xs ys : List X) → AllByRecursion P xs → AllByRecursion P ys → AllByRecursion P (xs ++ ys)
all_append P [] ys one two = two
all_append P (x ∷ xs) ys one two = (one.0, all_append P xs ys one.1 two)

pub all_first : {X : Type 0} (P : X → Type 0) (xs ys : List X) → AllByRecursion P (xs ++ ys) → AllByRecursion P xs
all_first P [] ys all = tt
all_first P (x ∷ xs) ys all = (all.0, all_first P xs ys all.1)

pub all_map : {X : Type 0} (P Q : X → Type 0) (xs : List X) → ((x : X) → P x → Q x) → AllByRecursion P xs → AllByRecursion Q xs
all_map P Q [] to all = tt
all_map P Q (x ∷ xs) to all = (to x all.0, all_map P Q xs to all.1)

pub all_over : {X Y : Type 0} (P : X → Type 0) (Q : Y → Type 0) (f : X → Y) (xs : List X) → ((x : X) → P x → Q (f x)) → AllByRecursion P xs → AllByRecursion Q (map f xs)
all_over P Q f [] to all = tt
all_over P Q f (x ∷ xs) to all = (to x all.0, all_over P Q f xs to all.1)

pub all_of : {X : Type 0} (P : X → Type 0) (xs : List X) → ((x : X) → P x) → AllByRecursion P xs
all_of P [] all = tt
all_of P (x ∷ xs) all = (all x, all_of P xs all)

-- what is found is one of them, and passes the test
pub all_found : {X : Type 0} (P : X → Type 0) (p : X → Bool) (xs : List X) (found : X) → AllByRecursion P xs → find p xs ≡ Some found → P found × (p found ≡ true)
all_found P p [] found all e = absurd (cc e)
all_found {X = X} P p (x ∷ xs) found all e = go (p x) refl (all_found P p xs found all.1)
  where
    go : (b : Bool) → p x ≡ b → (find p xs ≡ Some found → P found × (p found ≡ true)) → P found × (p found ≡ true)
    go true is rest = let same : x ≡ found = cc (rw is at e) in (subst P same all.0, ap p (sym same) ∙ is)
    go false is rest = rest (rw is at e)

-- ---- Filters

pub filter_all : {X : Type 0} (p : X → Bool) (xs : List X) → AllByRecursion (λ x. p x ≡ true) xs → filter p xs ≡ xs
filter_all p [] all = refl
filter_all p (x ∷ xs) all = rw all.0 (ap (λ rest. x ∷ rest) (filter_all p xs all.1))

pub filter_none : {X : Type 0} (p : X → Bool) (xs : List X) → AllByRecursion (λ x. p x ≡ false) xs → filter p xs ≡ []
filter_none p [] all = refl
filter_none p (x ∷ xs) all = rw all.0 (filter_none p xs all.1)

pub filter_as : {X : Type 0} (p q : X → Bool) (xs : List X) → AllByRecursion (λ x. p x ≡ q x) xs → filter p xs ≡ filter q xs
filter_as p q [] all = refl
filter_as p q (x ∷ xs) all = rw all.0 (ap (λ rest. cond (q x) (x ∷ rest) rest) (filter_as p q xs all.1))

pub filter_append : {X : Type 0} (p : X → Bool) (xs ys : List X) → filter p (xs ++ ys) ≡ filter p xs ++ filter p ys
filter_append p [] ys = refl
filter_append {X = X} p (x ∷ xs) ys = go (p x) (filter_append p xs ys)
  where
    go : (b : Bool) → filter p (xs ++ ys) ≡ filter p xs ++ filter p ys → cond b (x ∷ filter p (xs ++ ys)) (filter p (xs ++ ys)) ≡ cond b (x ∷ filter p xs) (filter p xs) ++ filter p ys
    go true rest = ap (λ zs. x ∷ zs) rest
    go false rest = rest

-- one behind the other is both at once
pub filter_twice : {X : Type 0} (p q : X → Bool) (xs : List X) → filter p (filter q xs) ≡ filter (λ x. q x && p x) xs
filter_twice p q [] = refl
filter_twice {X = X} p q (x ∷ xs) = go (q x) refl (filter_twice p q xs)
  where
    go : (b : Bool) → q x ≡ b → filter p (filter q xs) ≡ filter (λ x. q x && p x) xs → filter p (filter q (x ∷ xs)) ≡ filter (λ x. q x && p x) (x ∷ xs)
    go true e rest = rw e (ap (λ zs. cond (p x) (x ∷ zs) zs) rest)
    go false e rest = rw e rest

pub filter_swapped : {X : Type 0} (p q : X → Bool) (xs : List X) → filter p (filter q xs) ≡ filter q (filter p xs)
filter_swapped {X = X} p q xs = filter_twice p q xs ∙ filter_as (λ x. q x && p x) (λ x. p x && q x) xs (all_of (λ x. (q x && p x) ≡ (p x && q x)) xs (λ x. swapped (q x) (p x))) ∙ sym (filter_twice q p xs)
  where
    swapped : (a b : Bool) → (a && b) ≡ (b && a)
    swapped true true = refl
    swapped true false = refl
    swapped false true = refl
    swapped false false = refl

pub filter_map : {X Y : Type 0} (p : Y → Bool) (f : X → Y) (xs : List X) → filter p (map f xs) ≡ map f (filter (λ x. p (f x)) xs)
filter_map p f [] = refl
filter_map {X = X} {Y = Y} p f (x ∷ xs) = go (p (f x)) (filter_map p f xs)
  where
    go : (b : Bool) → filter p (map f xs) ≡ map f (filter (λ x. p (f x)) xs) → cond b (f x ∷ filter p (map f xs)) (filter p (map f xs)) ≡ map f (cond b (x ∷ filter (λ x. p (f x)) xs) (filter (λ x. p (f x)) xs))
    go true rest = ap (λ zs. f x ∷ zs) rest
    go false rest = rest

pub flat_none : {X Y : Type 0} (f : X → List Y) (xs : List X) → AllByRecursion (λ x. f x ≡ []) xs → flat_map f xs ≡ []
flat_none f [] all = refl
flat_none f (x ∷ xs) all = rw all.0 (flat_none f xs all.1)

-- ---- Place by place

pub matched_map : {X Y : Type 0} (P Q : X → Y → Type 0) (xs : List X) (ys : List Y) → ((x : X) (y : Y) → P x y → Q x y) → Matched P xs ys → Matched Q xs ys
matched_map P Q [] [] to m = tt
matched_map P Q [] (y ∷ ys) to m = absurd m
matched_map P Q (x ∷ xs) [] to m = absurd m
matched_map P Q (x ∷ xs) (y ∷ ys) to m = (to x y m.0, matched_map P Q xs ys to m.1)

pub matched_filter : {X Y : Type 0} (P : X → Y → Type 0) (p : X → Bool) (q : Y → Bool) (xs : List X) (ys : List Y) → ((x : X) (y : Y) → P x y → p x ≡ q y) → Matched P xs ys → Matched P (filter p xs) (filter q ys)
matched_filter P p q [] [] same m = tt
matched_filter P p q [] (y ∷ ys) same m = absurd m
matched_filter P p q (x ∷ xs) [] same m = absurd m
matched_filter {X = X} {Y = Y} P p q (x ∷ xs) (y ∷ ys) same m = go (p x) (q y) (same x y m.0) (matched_filter P p q xs ys same m.1)
  where
    go : (a b : Bool) → a ≡ b → Matched P (filter p xs) (filter q ys) → Matched P (cond a (x ∷ filter p xs) (filter p xs)) (cond b (y ∷ filter q ys) (filter q ys))
    go true true e rest = (m.0, rest)
    go true false e rest = absurd (cc e)
    go false true e rest = absurd (cc e)
    go false false e rest = rest

pub matched_behind : {X Y : Type 0} (P : X → Y → Type 0) (xs : List X) (ys : List Y) (x : X) (y : Y) → Matched P xs ys → P x y → Matched P (xs ++ x ∷ []) (ys ++ y ∷ [])
matched_behind P [] [] x y m last = (last, tt)
matched_behind P [] (b ∷ ys) x y m last = absurd m
matched_behind P (a ∷ xs) [] x y m last = absurd m
matched_behind P (a ∷ xs) (b ∷ ys) x y m last = (m.0, matched_behind P xs ys x y m.1 last)
