-- What is true of keys and their cells behind each call.
use Rattle.std.proofs.Common.{◌≡◌, ◌≤◌, ◌<◌, ℕ, ◌%◌, cond, Bool, true, false, not, List, [], ◌∷◌, ◌++◌, length, set, replicate, Option, Some, None, refl, sym, ap, ◌∙◌, ⊎_elim, arith}
use Rattle.std.specs.Prelude.{◌==◌, filter, option_to_list, if◌then◌else◌}
use Rattle.std.specs.List.{list_any, list_all}
use Rattle.std.proofs.lemmas.Bool.{eqb-true, eqb-false, eq-eqb, ne_eqb, or_parts, cases_lt}
use Rattle.std.proofs.lemmas.List.{get_or-set_same, get_or-replicate, get_or_past, length-replicate, append-nil}
use Rattle.std.proofs.lemmas.List.Elements.{filter-append}
use Rattle.std.proofs.lemmas.List.Sums.{length-filter, count_by-le-length}
use Rattle.ordered_cells.specs.Cells.{content, items, is_used, is_among, without}
use Rattle.ordered_cells.specs.Keys.{has_key, is_of, strays_at, AreKeyed}
use Rattle.ordered_cells.proofs.Orders.{content_other, free_outside, items_elsewhere, items_push}
use Rattle.ordered_cells.proofs.Found.{both, used_of, among_items}

-- ---- An item is put into a cell

pub items_pushed : {X : Type 0} (cells : List (Option X)) (order : List ℕ) (c : ℕ) (x : X) → list_all (λ d. is_used cells d) order ≡ true → content cells c ≡ None → c < length cells
    → items (set cells c (Some x)) (order ++ c ∷ []) ≡ items cells order ++ x ∷ []
items_pushed cells order c x used free inside =
    items_push (set cells c (Some x)) order c
    ∙ ap (λ xs. xs ++ option_to_list (content (set cells c (Some x)) c)) (items_elsewhere cells order c (Some x) (free_outside cells order c used free))
    ∙ ap (λ o. items cells order ++ option_to_list o) (get_or-set_same cells c (Some x) None inside)

-- no cell holds a key that the list hasn't
none_of : {X : Type 0} (key : X → ℕ) (k : ℕ) (cells : List (Option X)) (order : List ℕ) → ((c : ℕ) → is_used cells c ≡ true → is_among order c ≡ true)
    → list_any (has_key key k) (items cells order) ≡ false → (c : ℕ) → is_of key k (content cells c) ≡ true → ⊥
none_of key k cells order ordered fresh c is = both (list_any (has_key key k) (items cells order)) (among_items key k cells order c is (ordered c (used_of key k (content cells c) is))) fresh

-- the strays of other cells stay
strays_elsewhere : {X : Type 0} (key : X → ℕ) (n : ℕ) (cells : List (Option X)) (order : List ℕ) (c : ℕ) (o : Option X) → is_among order c ≡ false
    → filter (λ d. strays_at key n d (content (set cells c o) d)) order ≡ filter (λ d. strays_at key n d (content cells d)) order
strays_elsewhere key n cells [] c o outside = refl
strays_elsewhere key n cells (d ∷ order) c o outside =
    let parts = or_parts (d == c) (is_among order c) outside in
    ap (λ t. cond t (d ∷ filter (λ e. strays_at key n e (content (set cells c o) e)) order) (filter (λ e. strays_at key n e (content (set cells c o) e)) order)) (ap (strays_at key n d) (content_other cells c d o parts.0))
    ∙ ap (λ ns. cond (strays_at key n d (content cells d)) (d ∷ ns) ns) (strays_elsewhere key n cells order c o parts.1)

one_stray : (p : ℕ → Bool) (c : ℕ) (t : Bool) → p c ≡ not t → (away : List ℕ) → away ++ filter p (c ∷ []) ≡ (if t then away else away ++ c ∷ [])
one_stray p c true e away = rw e (append-nil away)
one_stray p c false e away = rw e refl

flipped : (a b : ℕ) → (a == b) ≡ (b == a)
flipped a b = go (b == a) refl
  where
    go : (t : Bool) → (b == a) ≡ t → (a == b) ≡ t
    go true e = eq-eqb a b (sym (eqb-true b a e))
    go false e = ne_eqb a b (λ f. eqb-false b a e (sym f))

pub pushed_keyed : {X : Type 0} (key : X → ℕ) (n : ℕ) (cells : List (Option X)) (order away : List ℕ) (c : ℕ) (x : X) → AreKeyed key n cells order away
    → list_all (λ d. is_used cells d) order ≡ true → ((d : ℕ) → is_used cells d ≡ true → is_among order d ≡ true) → content cells c ≡ None → c < length cells
    → list_any (has_key key (key x)) (items cells order) ≡ false → AreKeyed key n (set cells c (Some x)) (order ++ c ∷ []) (if c == key x % n then away else away ++ c ∷ [])
pushed_keyed key n cells order away c x keyed used ordered free inside fresh = record {
  unique = λ a b k is_a is_b. unique a b k (a == c) refl (b == c) refl is_a is_b;
  strays = sym (
      filter-append (λ d. strays_at key n d (content (set cells c (Some x)) d)) order (c ∷ [])
      ∙ ap (λ ns. ns ++ filter (λ d. strays_at key n d (content (set cells c (Some x)) d)) (c ∷ [])) (strays_elsewhere key n cells order c (Some x) (free_outside cells order c used free) ∙ sym keyed.strays)
      ∙ one_stray (λ d. strays_at key n d (content (set cells c (Some x)) d)) c (c == key x % n) (ap (strays_at key n c) there ∙ ap not (flipped (key x % n) c)) away);
}
  where
    there : content (set cells c (Some x)) c ≡ Some x
    there = get_or-set_same cells c (Some x) None inside

    at_new : (a k : ℕ) → (a == c) ≡ true → is_of key k (content (set cells c (Some x)) a) ≡ true → key x ≡ k
    at_new a k e is = eqb-true (key x) k (sym (ap (is_of key k) (ap (content (set cells c (Some x))) (eqb-true a c e) ∙ there)) ∙ is)

    at_old : (a k : ℕ) → (a == c) ≡ false → is_of key k (content (set cells c (Some x)) a) ≡ true → is_of key k (content cells a) ≡ true
    at_old a k e is = sym (ap (is_of key k) (content_other cells c a (Some x) e)) ∙ is

    clash : (a k : ℕ) → key x ≡ k → is_of key k (content cells a) ≡ true → ⊥
    clash a k same is = none_of key (key x) cells order ordered fresh a (ap (λ (m : ℕ). is_of key m (content cells a)) same ∙ is)

    unique : (a b k : ℕ) → (s : Bool) → (a == c) ≡ s → (t : Bool) → (b == c) ≡ t → is_of key k (content (set cells c (Some x)) a) ≡ true → is_of key k (content (set cells c (Some x)) b) ≡ true → a ≡ b
    unique a b k true e true f is_a is_b = eqb-true a c e ∙ sym (eqb-true b c f)
    unique a b k true e false f is_a is_b = absurd (clash b k (at_new a k e is_a) (at_old b k f is_b))
    unique a b k false e true f is_a is_b = absurd (clash a k (at_new b k f is_b) (at_old a k e is_a))
    unique a b k false e false f is_a is_b = keyed.unique a b k (at_old a k e is_a) (at_old b k f is_b)

-- how many are away
pub few_away : {X : Type 0} (key : X → ℕ) (n : ℕ) (cells : List (Option X)) (order away : List ℕ) → AreKeyed key n cells order away → length away ≤ length order
few_away key n cells order away keyed =
    let p = λ (d : ℕ). strays_at key n d (content cells d) in
    omega (arith, ap length keyed.strays, length-filter p order, count_by-le-length p order)

-- ---- A cell is emptied

strays_without : {X : Type 0} (key : X → ℕ) (n : ℕ) (cells : List (Option X)) (order : List ℕ) (c : ℕ)
    → without c (filter (λ d. strays_at key n d (content cells d)) order) ≡ filter (λ d. strays_at key n d (content (set cells c None) d)) (without c order)
strays_without key n cells [] c = refl
strays_without key n cells (d ∷ order) c = go (d == c) refl (strays_at key n d (content cells d)) refl (strays_without key n cells order c)
  where
    go : (b : Bool) → (d == c) ≡ b → (t : Bool) → strays_at key n d (content cells d) ≡ t
        → without c (filter (λ d. strays_at key n d (content cells d)) order) ≡ filter (λ d. strays_at key n d (content (set cells c None) d)) (without c order)
        → without c (filter (λ d. strays_at key n d (content cells d)) (d ∷ order)) ≡ filter (λ d. strays_at key n d (content (set cells c None) d)) (without c (d ∷ order))
    go true e true f rest = rw (f, e) rest
    go true e false f rest = rw (f, e) rest
    go false e true f rest = rw (f, e, content_other cells c d None e, f) (ap (λ ns. d ∷ ns) rest)
    go false e false f rest = rw (f, e, content_other cells c d None e, f) rest

pub emptied_keyed : {X : Type 0} (key : X → ℕ) (n : ℕ) (cells : List (Option X)) (order away : List ℕ) (c : ℕ) → AreKeyed key n cells order away → c < length cells
    → AreKeyed key n (set cells c None) (without c order) (without c away)
emptied_keyed key n cells order away c keyed inside = record {
  unique = λ a b k is_a is_b. keyed.unique a b k (before a k (a == c) refl is_a) (before b k (b == c) refl is_b);
  strays = ap (without c) keyed.strays ∙ strays_without key n cells order c;
}
  where
    before : (a k : ℕ) → (b : Bool) → (a == c) ≡ b → is_of key k (content (set cells c None) a) ≡ true → is_of key k (content cells a) ≡ true
    before a k true e is = absurd (both (is_of key k (content (set cells c None) a)) is (ap (is_of key k) (ap (content (set cells c None)) (eqb-true a c e) ∙ get_or-set_same cells c None None inside)))
    before a k false e is = sym (ap (is_of key k) (content_other cells c a None e)) ∙ is

-- ---- Nothing is there

pub none_keyed : {X : Type 0} (key : X → ℕ) (n : ℕ) → AreKeyed key n (replicate n None) [] []
none_keyed {X} key n = record {
  unique = λ a b k is_a is_b. absurd (both (is_of key k (content (replicate n None) a)) is_a (ap (is_of key k) (none a)));
  strays = refl;
}
  where
    none : (d : ℕ) → content {X = X} (replicate n None) d ≡ None
    none d = ⊎_elim (λ lt. get_or-replicate n d None None lt) (λ past. get_or_past (replicate n None) d None (omega (arith, past, length-replicate {A = Option X} n None))) (cases_lt d n)
