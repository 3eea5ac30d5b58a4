-- Copies for all sessions, one by one, and taken back.
use Rattle.std.proofs.Common.{◌∙◌, ◌≡◌, ◌<◌, ◌≤◌, ◌+◌, ℕ, zero, suc, List, [], ◌∷◌, ◌++◌, map, take, drop, length, refl, ap, arith, get_or, set, add-one, append-nil}
use Rattle.std.proofs.lemmas.List.{take_all, at_drop_all, length-map}

-- ---- Elements that are changed from the front

same_at : {X : Type 0} (f : X → X) (xs : List X) (i : ℕ) (d : X) → i < length xs → get_or (map f (take i xs) ++ drop i xs) i d ≡ get_or xs i d
same_at f [] i d inside = absurd (omega (arith, inside))
same_at f (x ∷ xs) zero d inside = refl
same_at f (x ∷ xs) (suc i) d inside = same_at f xs i d (omega (arith, inside))

set_at : {X : Type 0} (f : X → X) (xs : List X) (i : ℕ) (y : X) → i < length xs → set (map f (take i xs) ++ drop i xs) i (f y) ≡ map f (take i xs) ++ f y ∷ drop (suc i) xs
set_at f [] i y inside = absurd (omega (arith, inside))
set_at f (x ∷ xs) zero y inside = refl
set_at f (x ∷ xs) (suc i) y inside = ap (λ rest. f x ∷ rest) (set_at f xs i y (omega (arith, inside)))

step_at : {X : Type 0} (f : X → X) (xs : List X) (i : ℕ) (d : X) → i < length xs → map f (take i xs) ++ f (get_or xs i d) ∷ drop (suc i) xs ≡ map f (take (suc i) xs) ++ drop (suc i) xs
step_at f [] i d inside = absurd (omega (arith, inside))
step_at f (x ∷ xs) zero d inside = refl
step_at f (x ∷ xs) (suc i) d inside = ap (λ rest. f x ∷ rest) (step_at f xs i d (omega (arith, inside)))

pub changed : {X : Type 0} (f : X → X) (xs now : List X) (i : ℕ) (d y : X) → i < length xs → now ≡ map f (take i xs) ++ drop i xs → y ≡ f (get_or now i d) → set now i y ≡ map f (take (i + 1) xs) ++ drop (i + 1) xs
changed f xs now i d y inside e to =
    let at : get_or now i d ≡ get_or xs i d = ap (λ ys. get_or ys i d) e ∙ same_at f xs i d inside in
    rw (to ∙ ap f at, e, add-one) (set_at f xs i (get_or xs i d) inside ∙ step_at f xs i d inside)

pub changed_all : {X : Type 0} (f : X → X) (xs now : List X) (i : ℕ) → length xs ≤ i → now ≡ map f (take i xs) ++ drop i xs → now ≡ map f xs
changed_all f xs now i past e = e ∙ ap (λ ys. map f (take i xs) ++ ys) (at_drop_all (λ ys. ys) xs i past) ∙ append-nil (map f (take i xs)) ∙ ap (map f) (take_all i xs past)

-- ---- Elements that are taken back from the front

back_at : {X : Type 0} (f : X → X) (before : List X) (i : ℕ) (d y : X) → i < length before → ((b : X) → get_or (take i before ++ drop i (map f before)) i d ≡ f b → y ≡ b)
    → set (take i before ++ drop i (map f before)) i y ≡ take (suc i) before ++ drop (suc i) (map f before)
back_at f [] i d y inside back = absurd (omega (arith, inside))
back_at f (b ∷ before) zero d y inside back = ap (λ z. z ∷ map f before) (back b refl)
back_at f (b ∷ before) (suc i) d y inside back = ap (λ rest. b ∷ rest) (back_at f before i d y (omega (arith, inside)) back)

pub taken_back : {X : Type 0} (f : X → X) (old now before : List X) (i : ℕ) (d y : X) → i < length old → ((b : X) → get_or now i d ≡ f b → y ≡ b) → old ≡ map f before → now ≡ take i before ++ drop i old
    → set now i y ≡ take (i + 1) before ++ drop (i + 1) old
taken_back f old now before i d y inside back e so_far =
    let at : now ≡ take i before ++ drop i (map f before) = so_far ∙ ap (λ ys. take i before ++ drop i ys) e in
    let within : i < length before = omega (arith, inside, ap length e, length-map before f) in
    rw (e, at, add-one) (back_at f before i d y within (λ b is. back b (ap (λ ys. get_or ys i d) at ∙ is)))

pub all_back : {X : Type 0} (f : X → X) (old now before : List X) (i : ℕ) → length old ≤ i → old ≡ map f before → now ≡ take i before ++ drop i old → now ≡ before
all_back f old now before i past e so_far =
    let same : length old ≡ length before = ap length e ∙ length-map before f in
    so_far ∙ ap (λ ys. take i before ++ ys) (at_drop_all (λ ys. ys) old i past) ∙ append-nil (take i before) ∙ take_all i before (omega (arith, same, past))
