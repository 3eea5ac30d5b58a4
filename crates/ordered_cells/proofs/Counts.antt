-- How many cells are used, and how long the order is.
use Rattle.std.proofs.Common.{◌≡◌, ◌<◌, ℕ, zero, suc, ◌+◌, Bool, true, false, not, cond, List, [], ◌∷◌, ◌++◌, length, set, Option, Some, None, refl, sym, ap, ◌∙◌, arith}
use Rattle.std.specs.Prelude.{◌==◌, ◌||◌, filter, is_some}
use Rattle.std.specs.List.{count_by}
use Rattle.std.proofs.lemmas.Bool.{eqb-true, eqb-false, eq-eqb, ne_eqb, and_parts, and_from, or_parts, or_from, not-true, not_from_false}
use Rattle.std.proofs.lemmas.List.Sums.{sum_by-cons, sum_by-set}
use Rattle.ordered_cells.specs.Cells.{content, is_used, is_among, without, each_once}

-- as a number
abbrev number : Bool → ℕ
number b = cond b 1 0

abbrev bit : {X : Type 0} → Option X → ℕ
bit o = number (is_some o)

pub filled_count : {X : Type 0} (cells : List (Option X)) (c : ℕ) (x : X) → c < length cells → content cells c ≡ None → count_by is_some (set cells c (Some x)) ≡ count_by is_some cells + 1
filled_count cells c x lt free =
    let none : bit (content cells c) ≡ 0 = ap bit free in
    let sums = sum_by-set (λ o. cond (is_some o) 1 0) cells c (Some x) None lt in
    omega (arith, none, sums)

pub emptied_count : {X : Type 0} (cells : List (Option X)) (c : ℕ) → c < length cells → is_used cells c ≡ true → count_by is_some (set cells c None) + 1 ≡ count_by is_some cells
emptied_count cells c lt used =
    let one : bit (content cells c) ≡ 1 = ap (λ (b : Bool). number b) used in
    let sums = sum_by-set (λ o. cond (is_some o) 1 0) cells c None None lt in
    omega (arith, one, sums)

-- where each cell is used, all count
pub all_count : {X : Type 0} (cells : List (Option X)) → ((c : ℕ) → c < length cells → is_used cells c ≡ true) → count_by is_some cells ≡ length cells
all_count [] used = refl
all_count (o ∷ cells) used =
    let one : bit o ≡ 1 = ap (λ (b : Bool). number b) (used zero (omega arith)) in
    let rest = all_count cells (λ c lt. used (suc c) (omega arith)) in
    sum_by-cons (λ o. cond (is_some o) 1 0) o cells ∙ omega (arith, one, rest)

-- where none is used, none counts
pub none_count : {X : Type 0} (cells : List (Option X)) → ((c : ℕ) → is_used cells c ≡ false) → count_by is_some cells ≡ 0
none_count [] none = refl
none_count (o ∷ cells) none =
    let zero_here : bit o ≡ 0 = ap (λ (b : Bool). number b) (none zero) in
    let rest = none_count cells (λ c. none (suc c)) in
    sum_by-cons (λ o. cond (is_some o) 1 0) o cells ∙ omega (arith, zero_here, rest)

-- ---- Each cell once

among_filter : (p : ℕ → Bool) (d : ℕ) (ns : List ℕ) → is_among ns d ≡ false → is_among (filter p ns) d ≡ false
among_filter p d [] outside = refl
among_filter p d (n ∷ ns) outside =
    let parts = or_parts (n == d) (is_among ns d) outside in
    go (p n) refl parts.0 (among_filter p d ns parts.1)
  where
    go : (b : Bool) → p n ≡ b → (n == d) ≡ false → is_among (filter p ns) d ≡ false → is_among (filter p (n ∷ ns)) d ≡ false
    go true e apart rest = rw e (or_from (n == d) (is_among (filter p ns) d) apart rest)
    go false e apart rest = rw e rest

pub once_filter : (p : ℕ → Bool) (ns : List ℕ) → each_once ns ≡ true → each_once (filter p ns) ≡ true
once_filter p [] once = refl
once_filter p (n ∷ ns) once =
    let parts = and_parts (not (is_among ns n)) (each_once ns) once in
    go (p n) refl (not-true (is_among ns n) parts.0) (once_filter p ns parts.1)
  where
    go : (b : Bool) → p n ≡ b → is_among ns n ≡ false → each_once (filter p ns) ≡ true → each_once (filter p (n ∷ ns)) ≡ true
    go true e outside rest = rw e (and_from (not (is_among (filter p ns) n)) (each_once (filter p ns)) (not_from_false (is_among (filter p ns) n) (among_filter p n ns outside)) rest)
    go false e outside rest = rw e rest

among_push : (ns : List ℕ) (c d : ℕ) → is_among ns d ≡ false → (c == d) ≡ false → is_among (ns ++ c ∷ []) d ≡ false
among_push [] c d outside apart = or_from (c == d) false apart refl
among_push (n ∷ ns) c d outside apart =
    let parts = or_parts (n == d) (is_among ns d) outside in
    or_from (n == d) (is_among (ns ++ c ∷ []) d) parts.0 (among_push ns c d parts.1 apart)

flipped : (n c : ℕ) → (n == c) ≡ false → (c == n) ≡ false
flipped n c e = ne_eqb c n (λ f. eqb-false n c e (sym f))

pub once_push : (ns : List ℕ) (c : ℕ) → each_once ns ≡ true → is_among ns c ≡ false → each_once (ns ++ c ∷ []) ≡ true
once_push [] c once outside = refl
once_push (n ∷ ns) c once outside =
    let parts = and_parts (not (is_among ns n)) (each_once ns) once in
    let apart = or_parts (n == c) (is_among ns c) outside in
    and_from (not (is_among (ns ++ c ∷ []) n)) (each_once (ns ++ c ∷ []))
    (not_from_false (is_among (ns ++ c ∷ []) n) (among_push ns c n (not-true (is_among ns n) parts.0) (flipped n c apart.0)))
    (once_push ns c parts.1 apart.1)

pub nothing_taken : (c : ℕ) (ns : List ℕ) → is_among ns c ≡ false → without c ns ≡ ns
nothing_taken c [] outside = refl
nothing_taken c (n ∷ ns) outside =
    let parts = or_parts (n == c) (is_among ns c) outside in
    rw parts.0 (ap (λ ms. n ∷ ms) (nothing_taken c ns parts.1))

pub one_taken : (c : ℕ) (ns : List ℕ) → each_once ns ≡ true → is_among ns c ≡ true → length (without c ns) + 1 ≡ length ns
one_taken c [] once among = absurd cc
one_taken c (n ∷ ns) once among =
    let parts = and_parts (not (is_among ns n)) (each_once ns) once in
    go (n == c) refl among (not-true (is_among ns n) parts.0) (λ there. one_taken c ns parts.1 there)
  where
    go : (b : Bool) → (n == c) ≡ b → (b || is_among ns c) ≡ true → is_among ns n ≡ false → (is_among ns c ≡ true → length (without c ns) + 1 ≡ length ns) → length (without c (n ∷ ns)) + 1 ≡ length (n ∷ ns)
    go true e there outside rest =
        let same : n ≡ c = eqb-true n c e in
        rw (e, nothing_taken c ns (ap (is_among ns) (sym same) ∙ outside)) (omega arith)
    go false e there outside rest = rw e (let taken = rest there in omega (arith, taken))

pub still_among : (c d : ℕ) (ns : List ℕ) → (d == c) ≡ false → is_among ns d ≡ true → is_among (without c ns) d ≡ true
still_among c d [] apart among = absurd cc
still_among c d (n ∷ ns) apart among = go (n == c) refl (n == d) refl among (λ there. still_among c d ns apart there)
  where
    go : (b : Bool) → (n == c) ≡ b → (t : Bool) → (n == d) ≡ t → (t || is_among ns d) ≡ true → (is_among ns d ≡ true → is_among (without c ns) d ≡ true) → is_among (without c (n ∷ ns)) d ≡ true
    go true e true f there rest =
        let one : n ≡ c = eqb-true n c e in
        let other : n ≡ d = eqb-true n d f in
        absurd (eqb-false d c apart (sym other ∙ one))
    go true e false f there rest = rw e (rest there)
    go false e true f there rest = rw (e, f) refl
    go false e false f there rest = rw (e, f) (rest there)

pub more_among : (ns : List ℕ) (c d : ℕ) → is_among ns d ≡ true → is_among (ns ++ c ∷ []) d ≡ true
more_among [] c d among = absurd cc
more_among (n ∷ ns) c d among = go (n == d) among (λ there. more_among ns c d there)
  where
    go : (t : Bool) → (t || is_among ns d) ≡ true → (is_among ns d ≡ true → is_among (ns ++ c ∷ []) d ≡ true) → (t || is_among (ns ++ c ∷ []) d) ≡ true
    go true there rest = refl
    go false there rest = rest there

pub last_among : (ns : List ℕ) (c : ℕ) → is_among (ns ++ c ∷ []) c ≡ true
last_among [] c = rw (eq-eqb c c refl) refl
last_among (n ∷ ns) c = go (n == c) (last_among ns c)
  where
    go : (t : Bool) → is_among (ns ++ c ∷ []) c ≡ true → (t || is_among (ns ++ c ∷ []) c) ≡ true
    go true rest = refl
    go false rest = rest
