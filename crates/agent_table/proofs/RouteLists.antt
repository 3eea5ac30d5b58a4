-- Lists of routes: what they have, that each stands once, and how long they are then.
use Rattle.std.proofs.Common.{◌≡◌, ◌⊎◌, ◌≤◌, Bool, true, false, cond, List, [], ◌∷◌, ◌++◌, filter, length, refl, sym, ap, ◌∙◌, subst, arith}
use Rattle.std.specs.Prelude.{◌||◌, ◌==◌}
use Rattle.std.specs.Cmp.{IsEquivalence}
use Rattle.std.specs.List.{IsDistinct}
use Rattle.std.specs.Str.{bytes_eq}
use Rattle.std.proofs.lemmas.Bool.Decides.{Decides-eqb}
use Rattle.std.proofs.lemmas.Map.Keys.{IsDistinct-cons, IsDistinct-head, IsDistinct-tail, IsDistinct-from_apart}
use Rattle.std.proofs.lemmas.Map.Made.{length-le_from_is_member}
use Rattle.std.proofs.lemmas.Slice.Eq.{bytes_eq-Decides}
use mathlib.Core.Logic.{inl, inr}
use Rattle.std.proofs.lemmas.Bool.{and_parts}
use Rattle.agent_table.specs.Routes.{Route, is_route, has_route, with_route, with_routes}
use Rattle.agent_table.proofs.SoundRows.{all_both, all_kept}

-- ---- One route

route_is : (a b : Route) → is_route a b ≡ true → a ≡ b
route_is a b e =
    let two = and_parts (a.task == b.task) (bytes_eq a.topics b.topics) e in
    let task = (Decides-eqb a.task b.task).0 two.0 in
    let topics = (bytes_eq-Decides a.topics b.topics).0 two.1 in
    (λ i. record { task = task i; topics = topics i })

itself : (a : Route) → is_route a a ≡ true
itself a = rw ((Decides-eqb a.task a.task).1 refl, (bytes_eq-Decides a.topics a.topics).1 refl) refl

turned : (a b : Route) → is_route a b ≡ is_route b a
turned a b = by (is_route a b) (is_route b a) refl refl
  where
    back : (x y : Route) → x ≡ y → is_route y x ≡ true
    back x y is = ap (λ (q : Route). is_route q x) (sym is) ∙ itself x

    by : (x y : Bool) → is_route a b ≡ x → is_route b a ≡ y → x ≡ y
    by true true e k = refl
    by false false e k = refl
    by true false e k = absurd (cc (sym k ∙ back a b (route_is a b e)))
    by false true e k = absurd (cc (sym e ∙ back b a (route_is b a k)))

abbrev pub same : Route → Route → Bool
same q x = is_route x q

laws : IsEquivalence same
laws = record {
  refl = λ x. itself x;
  symm = λ x y. turned y x;
  congr = λ x y z e. ap (λ (q : Route). is_route z q) (sym (route_is y x e));
}

-- ---- What a list has

abbrev pub Has : Route → List Route → Type 0
Has r [] = ⊥
Has r (x ∷ xs) = (x ≡ r) ⊎ Has r xs

from_test : (xs : List Route) (r : Route) → has_route xs r ≡ true → Has r xs
from_test [] r e = absurd (cc e)
from_test (x ∷ xs) r e = by (is_route x r) refl e (from_test xs r)
  where
    by : (b : Bool) → is_route x r ≡ b → (b || has_route xs r) ≡ true → (has_route xs r ≡ true → Has r xs) → Has r (x ∷ xs)
    by true is e rest = inl (route_is x r is)
    by false is e rest = inr (rest e)

to_test : (xs : List Route) (r : Route) → Has r xs → has_route xs r ≡ true
to_test [] r h = absurd h
to_test (x ∷ xs) r (inl is) = ap (λ b. b || has_route xs r) (ap (λ (q : Route). is_route q r) is ∙ itself r)
to_test (x ∷ xs) r (inr h) = by (is_route x r) (to_test xs r h)
  where
    by : (b : Bool) → has_route xs r ≡ true → (b || has_route xs r) ≡ true
    by true e = refl
    by false e = e

pub has_front : (xs ys : List Route) (r : Route) → Has r xs → Has r (xs ++ ys)
has_front [] ys r h = absurd h
has_front (x ∷ xs) ys r (inl is) = inl is
has_front (x ∷ xs) ys r (inr h) = inr (has_front xs ys r h)

pub has_back : (xs ys : List Route) (r : Route) → Has r ys → Has r (xs ++ ys)
has_back [] ys r h = h
has_back (x ∷ xs) ys r h = inr (has_back xs ys r h)

pub has_either : (xs ys : List Route) (r : Route) → Has r (xs ++ ys) → Has r xs ⊎ Has r ys
has_either [] ys r h = inr h
has_either (x ∷ xs) ys r (inl is) = inl (inl is)
has_either (x ∷ xs) ys r (inr h) = by (has_either xs ys r h)
  where
    by : Has r xs ⊎ Has r ys → Has r (x ∷ xs) ⊎ Has r ys
    by (inl k) = inl (inr k)
    by (inr k) = inr k

pub has_kept : (keeps : Route → Bool) (xs : List Route) (r : Route) → Has r (filter keeps xs) → Has r xs × (keeps r ≡ true)
has_kept keeps [] r h = absurd h
has_kept keeps (x ∷ xs) r h = by (keeps x) refl h (has_kept keeps xs r)
  where
    by : (b : Bool) → keeps x ≡ b → Has r (cond b (x ∷ filter keeps xs) (filter keeps xs)) → (Has r (filter keeps xs) → Has r xs × (keeps r ≡ true)) → Has r (x ∷ xs) × (keeps r ≡ true)
    by true e (inl is) rest = (inl is, sym (ap keeps is) ∙ e)
    by true e (inr h) rest = let two = rest h in (inr two.0, two.1)
    by false e h rest = let two = rest h in (inr two.0, two.1)

pub kept_has : (keeps : Route → Bool) (xs : List Route) (r : Route) → Has r xs → keeps r ≡ true → Has r (filter keeps xs)
kept_has keeps [] r h e = absurd h
kept_has keeps (x ∷ xs) r h e = by (keeps x) refl h (λ k. kept_has keeps xs r k e)
  where
    by : (b : Bool) → keeps x ≡ b → Has r (x ∷ xs) → (Has r xs → Has r (filter keeps xs)) → Has r (cond b (x ∷ filter keeps xs) (filter keeps xs))
    by true k (inl is) rest = inl is
    by true k (inr h) rest = inr (rest h)
    by false k (inl is) rest = absurd (cc (sym k ∙ ap keeps is ∙ e))
    by false k (inr h) rest = rest h

-- ---- What is put to a list

one_put : (xs : List Route) (y r : Route) → Has r (with_route xs y) → Has r xs ⊎ (y ≡ r)
one_put xs y r h = by (has_route xs y) h
  where
    last : Has r xs ⊎ Has r (y ∷ []) → Has r xs ⊎ (y ≡ r)
    last (inl k) = inl k
    last (inr (inl is)) = inr is
    last (inr (inr none)) = absurd none

    by : (b : Bool) → Has r (cond b xs (xs ++ y ∷ [])) → Has r xs ⊎ (y ≡ r)
    by true k = inl k
    by false k = last (has_either xs (y ∷ []) r k)

pub has_put : (xs ys : List Route) (r : Route) → Has r (with_routes xs ys) → Has r xs ⊎ Has r ys
has_put xs [] r h = inl h
has_put xs (y ∷ ys) r h = by (has_put (with_route xs y) ys r h)
  where
    first : Has r xs ⊎ (y ≡ r) → Has r xs ⊎ Has r (y ∷ ys)
    first (inl k) = inl k
    first (inr is) = inr (inl is)

    by : Has r (with_route xs y) ⊎ Has r ys → Has r xs ⊎ Has r (y ∷ ys)
    by (inl k) = first (one_put xs y r k)
    by (inr k) = inr (inr k)

stays_put : (xs : List Route) (y r : Route) → Has r xs → Has r (with_route xs y)
stays_put xs y r h = by (has_route xs y)
  where
    by : (b : Bool) → Has r (cond b xs (xs ++ y ∷ []))
    by true = h
    by false = has_front xs (y ∷ []) r h

is_put : (xs : List Route) (y : Route) → Has y (with_route xs y)
is_put xs y = by (has_route xs y) refl
  where
    by : (b : Bool) → has_route xs y ≡ b → Has y (cond b xs (xs ++ y ∷ []))
    by true e = from_test xs y e
    by false e = has_back xs (y ∷ []) y (inl refl)

pub put_has : (xs ys : List Route) (r : Route) → Has r xs ⊎ Has r ys → Has r (with_routes xs ys)
put_has xs [] r (inl h) = h
put_has xs [] r (inr h) = absurd h
put_has xs (y ∷ ys) r (inl h) = put_has (with_route xs y) ys r (inl (stays_put xs y r h))
put_has xs (y ∷ ys) r (inr (inl is)) = put_has (with_route xs y) ys r (inl (subst (λ (q : Route). Has q (with_route xs y)) is (is_put xs y)))
put_has xs (y ∷ ys) r (inr (inr h)) = put_has (with_route xs y) ys r (inr h)

-- ---- Each once

pub none_once : IsDistinct same []
none_once = IsDistinct-from_apart same [] (λ i j d before within. absurd (omega arith))

pub once_kept : (keeps : Route → Bool) (xs : List Route) → IsDistinct same xs → IsDistinct same (filter keeps xs)
once_kept keeps [] once = once
once_kept keeps (x ∷ xs) once = by (keeps x) (once_kept keeps xs (IsDistinct-tail same x xs once))
  where
    by : (b : Bool) → IsDistinct same (filter keeps xs) → IsDistinct same (cond b (x ∷ filter keeps xs) (filter keeps xs))
    by true rest = IsDistinct-cons same x (filter keeps xs) (all_kept (λ y. same x y ≡ false) keeps xs (IsDistinct-head same x xs once)) rest
    by false rest = rest

once_more : (xs : List Route) (y : Route) → IsDistinct same xs → has_route xs y ≡ false → IsDistinct same (xs ++ y ∷ [])
once_more [] y once new = IsDistinct-cons same y [] tt none_once
once_more (x ∷ xs) y once new = by (is_route x y) refl new (once_more xs y (IsDistinct-tail same x xs once))
  where
    by : (b : Bool) → is_route x y ≡ b → (b || has_route xs y) ≡ false → (has_route xs y ≡ false → IsDistinct same (xs ++ y ∷ [])) → IsDistinct same (x ∷ (xs ++ y ∷ []))
    by true e k rest = absurd (cc k)
    by false e k rest = IsDistinct-cons same x (xs ++ y ∷ []) (all_both (λ z. same x z ≡ false) xs (y ∷ []) (IsDistinct-head same x xs once) (turned y x ∙ e, tt)) (rest k)

pub once_put : (xs ys : List Route) → IsDistinct same xs → IsDistinct same (with_routes xs ys)
once_put xs [] once = once
once_put xs (y ∷ ys) once = once_put (with_route xs y) ys (by (has_route xs y) refl)
  where
    by : (b : Bool) → has_route xs y ≡ b → IsDistinct same (cond b xs (xs ++ y ∷ []))
    by true e = once
    by false e = once_more xs y once e

-- a list of which each stands once is no longer than one that has them all
pub no_longer : (xs ys : List Route) → IsDistinct same xs → ((r : Route) → Has r xs → Has r ys) → length xs ≤ length ys
no_longer xs ys once within = length-le_from_is_member laws xs ys once (λ q here. to_test ys q (within q (from_test xs q here)))
