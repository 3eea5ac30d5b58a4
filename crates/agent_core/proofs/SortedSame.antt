-- Filters in order are the same whatever order they came in.
use Rattle.std.proofs.Common.{◌≡◌, ℕ, ◌+◌, Bool, true, false, cond, List, [], ◌∷◌, ◌++◌, refl, ap, sym, ◌∙◌, arith}
use Rattle.std.specs.declared.cmp.Ordering.{Ordering}
use Rattle.std.specs.declared.cmp.Ordering.TheVariants.{Less, Equal, Greater}
use Rattle.std.specs.Cmp.Lexicographic.{slice_cmp}
use Rattle.std.specs.List.{sum_by}
use Rattle.std.specs.Ordering.{nat_cmp, is_lt, is_eq, ordering_reverse}
use Rattle.std.specs.Str.{bytes_eq}
use Rattle.std.proofs.lemmas.Cmp.{nat_list_cmp_total}
use Rattle.std.proofs.lemmas.List.Sums.{sum_by-append}
use Rattle.std.proofs.lemmas.Map.Text.{is_eq-slice_cmp}
use Rattle.std.proofs.lemmas.Slice.Eq.{bytes_eq-Decides}
use Rattle.agent_table.specs.Filters.{comes_before, sorted_with, sorted}
use Rattle.subscriptions.proofs.Orders.{before_is, bytes_turned}
use Rattle.agent_core.specs.Reordered.{IsReordered}

abbrev order : List ℕ → List ℕ → Ordering
order x y = slice_cmp nat_cmp x y

-- ---- One more

abbrev placed : Ordering → List ℕ → List ℕ → List (List ℕ) → List (List ℕ) → List (List ℕ)
placed Less x other fs rest = x ∷ other ∷ fs
placed Equal x other fs rest = other ∷ fs
placed Greater x other fs rest = other ∷ rest

put : (x other : List ℕ) (fs : List (List ℕ)) (o : Ordering) → order x other ≡ o → sorted_with (other ∷ fs) x ≡ placed o x other fs (sorted_with fs x)
put x other fs Less e =
    let differs : bytes_eq other x ≡ false = bytes_turned other x ∙ sym (is_eq-slice_cmp x other) ∙ ap is_eq e in
    let before : comes_before x other ≡ true = sym (before_is x other) ∙ ap is_lt e in
    rw (differs, before) refl
put x other fs Equal e =
    let same : bytes_eq other x ≡ true = bytes_turned other x ∙ sym (is_eq-slice_cmp x other) ∙ ap is_eq e in
    rw same refl
put x other fs Greater e =
    let differs : bytes_eq other x ≡ false = bytes_turned other x ∙ sym (is_eq-slice_cmp x other) ∙ ap is_eq e in
    let behind : comes_before x other ≡ false = sym (before_is x other) ∙ ap is_lt e in
    rw (differs, behind) refl

turned : (x y : List ℕ) (o : Ordering) → order x y ≡ o → order y x ≡ ordering_reverse o
turned x y o e = nat_list_cmp_total.antisymm y x ∙ ap ordering_reverse e

-- ---- Two more, in either order

module _ (x y : List ℕ) (before : order x y ≡ Less) where
  behind : order y x ≡ Greater
  behind = turned x y Less before

  two : (fs : List (List ℕ)) → sorted_with (sorted_with fs x) y ≡ sorted_with (sorted_with fs y) x
  two [] = put y x [] Greater behind ∙ sym (put x y [] Less before)
  two (other ∷ fs) = go (order x other) refl (order y other) refl (two fs)
    where
      go : (o : Ordering) → order x other ≡ o → (q : Ordering) → order y other ≡ q → sorted_with (sorted_with fs x) y ≡ sorted_with (sorted_with fs y) x
          → sorted_with (sorted_with (other ∷ fs) x) y ≡ sorted_with (sorted_with (other ∷ fs) y) x
      go Less e Less f rest =
          ap (λ l. sorted_with l y) (put x other fs Less e) ∙ put y x (other ∷ fs) Greater behind ∙ ap (λ l. x ∷ l) (put y other fs Less f)
          ∙ sym (ap (λ l. sorted_with l x) (put y other fs Less f) ∙ put x y (other ∷ fs) Less before)
      go Less e Equal f rest =
          ap (λ l. sorted_with l y) (put x other fs Less e) ∙ put y x (other ∷ fs) Greater behind ∙ ap (λ l. x ∷ l) (put y other fs Equal f)
          ∙ sym (ap (λ l. sorted_with l x) (put y other fs Equal f) ∙ put x other fs Less e)
      go Less e Greater f rest =
          ap (λ l. sorted_with l y) (put x other fs Less e) ∙ put y x (other ∷ fs) Greater behind ∙ ap (λ l. x ∷ l) (put y other fs Greater f)
          ∙ sym (ap (λ l. sorted_with l x) (put y other fs Greater f) ∙ put x other (sorted_with fs y) Less e)
      go Equal e q f rest =
          let after : order y other ≡ Greater = turned other y Less (sym (nat_list_cmp_total.congr x other y e) ∙ before) in
          ap (λ l. sorted_with l y) (put x other fs Equal e) ∙ put y other fs Greater after
          ∙ sym (ap (λ l. sorted_with l x) (put y other fs Greater after) ∙ put x other (sorted_with fs y) Equal e)
      go Greater e q f rest =
          let after : order y other ≡ Greater = turned other y Less (nat_list_cmp_total.trans other x y (turned x other Greater e) before) in
          ap (λ l. sorted_with l y) (put x other fs Greater e) ∙ put y other (sorted_with fs x) Greater after ∙ ap (λ l. other ∷ l) rest
          ∙ sym (ap (λ l. sorted_with l x) (put y other fs Greater after) ∙ put x other (sorted_with fs y) Greater e)

either : (x y : List ℕ) (fs : List (List ℕ)) → sorted_with (sorted_with fs x) y ≡ sorted_with (sorted_with fs y) x
either x y fs = go (order x y) refl
  where
    go : (o : Ordering) → order x y ≡ o → sorted_with (sorted_with fs x) y ≡ sorted_with (sorted_with fs y) x
    go Less e = two x y e fs
    go Equal e = let same : x ≡ y = (bytes_eq-Decides x y).0 (sym (is_eq-slice_cmp x y) ∙ ap is_eq e) in ap (λ z. sorted_with (sorted_with fs z) y) same ∙ ap (λ z. sorted_with (sorted_with fs y) z) (sym same)
    go Greater e = sym (two y x (turned x y Greater e) fs)

-- ---- Whole lists

front : (a b : List (List ℕ)) (x : List ℕ) → sorted (a ++ x ∷ b) ≡ sorted_with (sorted (a ++ b)) x
front [] b x = refl
front (y ∷ a) b x = ap (λ l. sorted_with l y) (front a b x) ∙ either x y (sorted (a ++ b))

record Split (x : List ℕ) (ys : List (List ℕ)) : Type 0 where
  first : List (List ℕ)
  rest : List (List ℕ)
  is : ys ≡ first ++ x ∷ rest

abbrev here : List ℕ → List ℕ → ℕ
here x y = cond (bytes_eq x y) 1 0

more : {X : Type 0} (w : X → ℕ) (x : X) (xs : List X) → sum_by w (x ∷ xs) ≡ w x + sum_by w xs
more w x xs = sum_by-append w (x ∷ []) xs ∙ omega arith

itself : (x : List ℕ) → bytes_eq x x ≡ true
itself x = (bytes_eq-Decides x x).1 refl

splits : (x : List ℕ) (ys : List (List ℕ)) (n : ℕ) → sum_by (here x) ys ≡ 1 + n → Split x ys
splits x [] n e = let none : ⊥ = omega (arith, e) in absurd none
splits x (y ∷ ys) n e = go (bytes_eq x y) refl (λ m. splits x ys m)
  where
    go : (b : Bool) → bytes_eq x y ≡ b → ((m : ℕ) → sum_by (here x) ys ≡ 1 + m → Split x ys) → Split x (y ∷ ys)
    go true is rest = record { first = []; rest = ys; is = ap (λ z. z ∷ ys) (sym ((bytes_eq-Decides x y).0 is)) }
    go false is rest =
        let one = ap (λ b. cond {A = ℕ} b 1 0) is in
        let all = more (here x) y ys in
        let found = rest n (omega (arith, one, all, e)) in
        record { first = y ∷ found.first; rest = found.rest; is = ap (λ zs. y ∷ zs) found.is }

no_more : (ys : List (List ℕ)) → sum_by (λ y. 1) ys ≡ 0 → ys ≡ []
no_more [] e = refl
no_more (y ∷ ys) e = let all = more (λ z. 1) y ys in let none : ⊥ = omega (arith, all, e) in absurd none

pub sorted_same : (xs ys : List (List ℕ)) → IsReordered xs ys → sorted xs ≡ sorted ys
sorted_same [] ys same = ap sorted (sym (no_more ys (sym (same (λ y. 1)))))
sorted_same (x ∷ xs) ys same = go (splits x ys (sum_by (here x) xs) (sym (same (here x)) ∙ more (here x) x xs ∙ ap (λ b. cond {A = ℕ} b 1 0 + sum_by (here x) xs) (itself x)))
    (λ zs h. sorted_same xs zs h)
  where
    go : Split x ys → ((zs : List (List ℕ)) → IsReordered xs zs → sorted xs ≡ sorted zs) → sorted (x ∷ xs) ≡ sorted ys
    go split rest =
        ap (λ l. sorted_with l x) (rest (split.first ++ split.rest) (λ w.
        let all = more w x xs in
        let ends = sum_by-append w split.first (x ∷ split.rest) in
        let last = more w x split.rest in
        let both = sum_by-append w split.first split.rest in
        let sums : sum_by w (x ∷ xs) ≡ sum_by w (split.first ++ x ∷ split.rest) = same w ∙ ap (sum_by w) split.is in
        omega (arith, all, ends, last, both, sums)))
        ∙ sym (front split.first split.rest x) ∙ ap sorted (sym split.is)
