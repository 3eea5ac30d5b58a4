-- Lists of routes as sets: what `with_routes` holds, and how long it is.
use Rattle.std.proofs.Common.{sym, ◌∙◌, ◌≡◌, ◌≤◌, ◌+◌, Bool, true, false, not, ◌||◌, ◌==◌, List, [], ◌∷◌, ◌++◌, length, refl, ap, subst, arith}
use Rattle.std.specs.List.{list_any, filter}
use Rattle.std.specs.Str.{bytes_eq}
use Rattle.std.proofs.lemmas.Bool.Decides.{Decides-eqb}
use Rattle.std.proofs.lemmas.List.Folds.{list_any-append}
use Rattle.std.proofs.lemmas.Slice.Eq.{bytes_eq-Decides}
use Rattle.agent_table.specs.Routes.{Route, is_route, has_route, with_route, with_routes}
use Rattle.subscriptions.specs.Rooms.{each_once}
use Rattle.subscriptions.proofs.Bools.{left_true, right_true, both_true, either, or_left, or_right, or_assoc, or_false, not_true, not_false, same_tests}

-- ---- Routes

pub same_route : (a b : Route) → is_route a b ≡ true → a ≡ b
same_route a b e =
    let task : a.task ≡ b.task = (Decides-eqb a.task b.task).0 (left_true (a.task == b.task) (bytes_eq a.topics b.topics) e) in
    let topics : a.topics ≡ b.topics = (bytes_eq-Decides a.topics b.topics).0 (right_true (a.task == b.task) (bytes_eq a.topics b.topics) e) in
    λ i. record { task = task i; topics = topics i }

pub itself : (a : Route) → is_route a a ≡ true
itself a = both_true (a.task == a.task) (bytes_eq a.topics a.topics) ((Decides-eqb a.task a.task).1 refl) ((bytes_eq-Decides a.topics a.topics).1 refl)

pub turned : (a b : Route) → is_route a b ≡ is_route b a
turned a b =
    same_tests (is_route a b) (is_route b a)
    (λ e. subst (λ (c : Route). is_route c a ≡ true) (same_route a b e) (itself a))
    (λ e. subst (λ (c : Route). is_route c b ≡ true) (same_route b a e) (itself b))

-- what holds of a route of a list holds of one of them
pub any_has : (p : Route → Bool) (rs : List Route) (r : Route) → has_route rs r ≡ true → p r ≡ true → list_any p rs ≡ true
any_has p [] r has holds = absurd (cc has)
any_has p (other ∷ rs) r has holds =
    either (is_route other r) (has_route rs r) has
    (λ e. or_left (p other) (list_any p rs) (subst (λ (c : Route). p c ≡ true) (sym (same_route other r e)) holds))
    (λ e. or_right (p other) (list_any p rs) (any_has p rs r e holds))

-- a route of one list of which something holds, where all routes of it are in another
pub any_within : (p : Route → Bool) (xs ys : List Route) → ((r : Route) → has_route xs r ≡ true → has_route ys r ≡ true) → list_any p xs ≡ true → list_any p ys ≡ true
any_within p [] ys within any = absurd (cc any)
any_within p (x ∷ xs) ys within any =
    either (p x) (list_any p xs) any
    (λ e. any_has p ys x (within x (or_left (is_route x x) (has_route xs x) (itself x))) e)
    (λ e. any_within p xs ys (λ r has. within r (or_right (is_route x r) (has_route xs r) has)) e)

-- ---- What `with_routes` holds

pub any_with : (p : Route → Bool) (xs : List Route) (y : Route) → list_any p (with_route xs y) ≡ (list_any p xs || p y)
any_with p xs y = go (has_route xs y) refl (list_any-append p xs (y ∷ []))
  where
    go : (b : Bool) → has_route xs y ≡ b → list_any p (xs ++ y ∷ []) ≡ (list_any p xs || list_any p (y ∷ [])) → list_any p (with_route xs y) ≡ (list_any p xs || p y)
    go true e ends = rw e (same_tests (list_any p xs) (list_any p xs || p y) (or_left (list_any p xs) (p y))
        (λ any. either (list_any p xs) (p y) any (λ t. t) (any_has p xs y e)))
    go false e ends = rw (e, ends) (or_false (list_any p xs) (p y))

pub any_with_all : (p : Route → Bool) (xs ys : List Route) → list_any p (with_routes xs ys) ≡ (list_any p xs || list_any p ys)
any_with_all p xs [] = same_tests (list_any p xs) (list_any p xs || false) (or_left (list_any p xs) false) (λ any. either (list_any p xs) false any (λ t. t) (λ f. absurd (cc f)))
any_with_all p xs (y ∷ ys) = any_with_all p (with_route xs y) ys ∙ ap (λ b. b || list_any p ys) (any_with p xs y) ∙ or_assoc (list_any p xs) (p y) (list_any p ys)

-- ---- Each once

pub once_more : (xs : List Route) (y : Route) → each_once xs ≡ true → has_route xs y ≡ false → each_once (xs ++ y ∷ []) ≡ true
once_more [] y once new = refl
once_more (x ∷ xs) y once new = go (is_route x y) refl (once_more xs y (right_true (not (has_route xs x)) (each_once xs) once)) (list_any-append (λ o. is_route o x) xs (y ∷ []))
  where
    go : (b : Bool) → is_route x y ≡ b → (has_route xs y ≡ false → each_once (xs ++ y ∷ []) ≡ true) → has_route (xs ++ y ∷ []) x ≡ (has_route xs x || has_route (y ∷ []) x) → each_once (x ∷ xs ++ y ∷ []) ≡ true
    go true e rest ends = absurd (cc (e, new))
    go false e rest ends =
        let other : is_route y x ≡ false = turned y x ∙ e in
        let first : has_route xs x ≡ false = not_true (has_route xs x) (left_true (not (has_route xs x)) (each_once xs) once) in
        both_true (not (has_route (xs ++ y ∷ []) x)) (each_once (xs ++ y ∷ [])) (not_false (has_route (xs ++ y ∷ []) x) (ends ∙ rw (first, other) refl)) (rest (rw e at new))

pub once_with : (xs : List Route) (y : Route) → each_once xs ≡ true → each_once (with_route xs y) ≡ true
once_with xs y once = go (has_route xs y) refl
  where
    go : (b : Bool) → has_route xs y ≡ b → each_once (with_route xs y) ≡ true
    go true e = rw e once
    go false e = rw e (once_more xs y once e)

pub once_with_all : (xs ys : List Route) → each_once xs ≡ true → each_once (with_routes xs ys) ≡ true
once_with_all xs [] once = once
once_with_all xs (y ∷ ys) once = once_with_all (with_route xs y) ys (once_with xs y once)

-- ---- Lengths

abbrev others : Route → List Route → List Route
others r rs = filter (λ other. not (is_route other r)) rs

-- the list without one of its routes
no_longer : (r : Route) (rs : List Route) → length (others r rs) ≤ length rs
no_longer r [] = omega arith
no_longer r (other ∷ rs) = go (is_route other r) refl (no_longer r rs)
  where
    go : (b : Bool) → is_route other r ≡ b → length (others r rs) ≤ length rs → length (others r (other ∷ rs)) ≤ length (other ∷ rs)
    go true e rest = rw e (omega (arith, rest))
    go false e rest = rw e (omega (arith, rest))

shorter : (r : Route) (rs : List Route) → has_route rs r ≡ true → length (others r rs) + 1 ≤ length rs
shorter r [] has = absurd (cc has)
shorter r (other ∷ rs) has = go (is_route other r) refl (shorter r rs) (no_longer r rs)
  where
    go : (b : Bool) → is_route other r ≡ b → (has_route rs r ≡ true → length (others r rs) + 1 ≤ length rs) → length (others r rs) ≤ length rs → length (others r (other ∷ rs)) + 1 ≤ length (other ∷ rs)
    go true e rest most = rw e (omega (arith, most))
    go false e rest most = rw e (let less = rest (rw e at has) in omega (arith, less))

kept_without : (x r : Route) (rs : List Route) → is_route x r ≡ false → has_route rs r ≡ true → has_route (others x rs) r ≡ true
kept_without x r [] differ has = absurd (cc has)
kept_without x r (other ∷ rs) differ has = go (is_route other x) refl (kept_without x r rs differ)
  where
    go : (b : Bool) → is_route other x ≡ b → (has_route rs r ≡ true → has_route (others x rs) r ≡ true) → has_route (others x (other ∷ rs)) r ≡ true
    go true e rest =
        let no : is_route other r ≡ false = subst (λ (c : Route). is_route c r ≡ false) (sym (same_route other x e)) differ in
        rw e (rest (rw no at has))
    go false e rest = rw e (either (is_route other r) (has_route rs r) has (or_left (is_route other r) (has_route (others x rs) r)) (λ h. or_right (is_route other r) (has_route (others x rs) r) (rest h)))

-- a list of which each stands once is no longer than one that has them all
pub no_more : (xs ys : List Route) → each_once xs ≡ true → ((r : Route) → has_route xs r ≡ true → has_route ys r ≡ true) → length xs ≤ length ys
no_more [] ys once within = omega arith
no_more (x ∷ xs) ys once within =
    let new : has_route xs x ≡ false = not_true (has_route xs x) (left_true (not (has_route xs x)) (each_once xs) once) in
    let less : length (others x ys) + 1 ≤ length ys = shorter x ys (within x (or_left (is_route x x) (has_route xs x) (itself x))) in
    let rest : length xs ≤ length (others x ys) =
    no_more xs (others x ys) (right_true (not (has_route xs x)) (each_once xs) once)
    (λ r has. kept_without x r ys (differs r has new) (within r (or_right (is_route x r) (has_route xs r) has)))
    in
    omega (arith, less, rest)
  where
    differs : (r : Route) → has_route xs r ≡ true → has_route xs x ≡ false → is_route x r ≡ false
    differs r has new = not_true (is_route x r) (go (is_route x r) refl)
      where
        go : (b : Bool) → is_route x r ≡ b → not (is_route x r) ≡ true
        go true e = absurd (cc (subst (λ (c : Route). has_route xs c ≡ true) (sym (same_route x r e)) has, new))
        go false e = rw e refl
