-- Loops over a list: what was made so far, followed by what is made of the rest, is the whole.
use Rattle.std.proofs.Common.{◌≡◌, ℕ, suc, ◌+◌, ◌<◌, ◌≤◌, Bool, true, false, List, [], ◌∷◌, ◌++◌, length, drop, map, get_or, refl, ap, sym, ◌∙◌, append_assoc}
use Rattle.std.specs.Prelude.{filter}
use Rattle.std.specs.List.{flat_map, list_all}
use Rattle.std.proofs.lemmas.List.{append-nil, at_drop_all}
use Rattle.std.proofs.lemmas.List.Folds.{list_all_at}
use Rattle.std.proofs.lemmas.Bool.{true_from_ne_false, both_ways}
use Rattle.std.proofs.Math.Numerals.{add-one}
use Rattle.std.proofs.Math.Seq.{drop-cons}

pub next_of : {X : Type 0} (xs : List X) (i : ℕ) (x : X) → i < length xs → x ≡ get_or xs i x → drop i xs ≡ x ∷ drop (i + 1) xs
next_of xs i x lt is = rw (add-one, drop-cons xs i x lt) (ap (λ y. y ∷ drop (suc i) xs) (sym is))

pub end_of : {X : Type 0} (xs : List X) (i : ℕ) → length xs ≤ i → drop i xs ≡ []
end_of xs i past = at_drop_all (λ ys. ys) xs i past

module _ {X : Type 0} (test : X → Bool) (xs : List X) where
  pub filter_more : (whole now new : List X) (i : ℕ) (x : X) → i < length xs → x ≡ get_or xs i x → test x ≡ true → now ++ filter test (drop i xs) ≡ whole → new ≡ now ++ x ∷ [] → new ++ filter test (drop (i + 1) xs) ≡ whole
  filter_more whole now new i x lt is yes' e pushed =
      ap (λ ys. ys ++ filter test (drop (i + 1) xs)) pushed ∙ append_assoc now (x ∷ []) (filter test (drop (i + 1) xs)) ∙ ap (λ ys. now ++ ys) (sym (ap (filter test) (next_of xs i x lt is) ∙ rw yes' refl)) ∙ e

  pub filter_skips : (whole now : List X) (i : ℕ) (x : X) → i < length xs → x ≡ get_or xs i x → test x ≡ false → now ++ filter test (drop i xs) ≡ whole → now ++ filter test (drop (i + 1) xs) ≡ whole
  filter_skips whole now i x lt is no' e = ap (λ ys. now ++ ys) (sym (ap (filter test) (next_of xs i x lt is) ∙ rw no' refl)) ∙ e

  pub filter_all : (whole now : List X) (i : ℕ) → length xs ≤ i → now ++ filter test (drop i xs) ≡ whole → now ≡ whole
  filter_all whole now i past e = sym (append-nil now) ∙ ap (λ ys. now ++ filter test ys) (sym (end_of xs i past)) ∙ e

module _ {X Y : Type 0} (f : X → List Y) (xs : List X) where
  pub flat_more : (whole now new : List Y) (i : ℕ) (x : X) → i < length xs → x ≡ get_or xs i x → now ++ flat_map f (drop i xs) ≡ whole → new ≡ now ++ f x → new ++ flat_map f (drop (i + 1) xs) ≡ whole
  flat_more whole now new i x lt is e pushed =
      ap (λ ys. ys ++ flat_map f (drop (i + 1) xs)) pushed ∙ append_assoc now (f x) (flat_map f (drop (i + 1) xs)) ∙ ap (λ ys. now ++ ys) (sym (ap (flat_map f) (next_of xs i x lt is))) ∙ e

  pub flat_all : (whole now : List Y) (i : ℕ) → length xs ≤ i → now ++ flat_map f (drop i xs) ≡ whole → now ≡ whole
  flat_all whole now i past e = sym (append-nil now) ∙ ap (λ ys. now ++ flat_map f ys) (sym (end_of xs i past)) ∙ e

module _ {X Y : Type 0} (f : X → Y) (xs : List X) where
  pub map_more : (whole now new : List Y) (i : ℕ) (x : X) → i < length xs → x ≡ get_or xs i x → now ++ map f (drop i xs) ≡ whole → new ≡ now ++ f x ∷ [] → new ++ map f (drop (i + 1) xs) ≡ whole
  map_more whole now new i x lt is e pushed =
      ap (λ ys. ys ++ map f (drop (i + 1) xs)) pushed ∙ append_assoc now (f x ∷ []) (map f (drop (i + 1) xs)) ∙ ap (λ ys. now ++ ys) (sym (ap (map f) (next_of xs i x lt is))) ∙ e

  pub map_all : (whole now : List Y) (i : ℕ) → length xs ≤ i → now ++ map f (drop i xs) ≡ whole → now ≡ whole
  map_all whole now i past e = sym (append-nil now) ∙ ap (λ ys. now ++ map f ys) (sym (end_of xs i past)) ∙ e

pub passes_at : {X : Type 0} (test : X → Bool) (xs : List X) (i : ℕ) (x : X) → i < length xs → x ≡ get_or xs i x → list_all test xs ≡ true → test x ≡ true
passes_at test xs i x lt is all = true_from_ne_false (test x) (λ e. both_ways (list_all test xs) (list_all_at test xs i x lt (ap test (sym is) ∙ e)) all)
