-- Where the item of a key is, and what it is to be the item of a cell.
use Rattle.std.proofs.Common.{◌≡◌, ◌≢◌, ℕ, ◌%◌, cond, Bool, true, false, not, List, [], ◌∷◌, ◌++◌, set, Option, Some, None, refl, sym, ap, ◌∙◌, arith}
use Rattle.std.specs.Prelude.{◌==◌, ◌||◌, filter, find, option_to_list, is_some, IfSome, IfNone}
use denote.Ref.{Bor}
use Rattle.std.specs.Option.{option_copied}
use Rattle.std.specs.List.{list_any, AllByRecursion}
use Rattle.std.proofs.lemmas.Bool.{eqb-true, eqb-false, eq-eqb, and_parts, or_parts, not-true, or_right}
use Rattle.std.proofs.lemmas.List.Elements.{All-from_recursion}
use Rattle.std.proofs.lemmas.List.Kept.{AllPairs-cons}
use Rattle.ordered_cells.specs.Cells.{content, items, is_used, is_among, without, each_once, AreSlots}
use Rattle.ordered_cells.proofs.Orders.{content_other}
use Rattle.ordered_cells.specs.Keys.{has_key, is_of, others, strays_at, Differ, AreKeyed}

pub both : (b : Bool) → b ≡ true → b ≡ false → ⊥
both b t f = cc

pub used_of : {X : Type 0} (key : X → ℕ) (k : ℕ) (o : Option X) → is_of key k o ≡ true → is_some o ≡ true
used_of key k None is = absurd cc
used_of key k (Some x) is = refl

-- ---- The item of a key that is there

-- the rest of a list behind what isn't of the key
past : {X : Type 0} (key : X → ℕ) (k : ℕ) (o : Option X) (xs : List X) → is_of key k o ≡ false → find (has_key key k) (option_to_list o ++ xs) ≡ find (has_key key k) xs
past key k None xs is = refl
past key k (Some x) xs is = rw is refl

here : {X : Type 0} (key : X → ℕ) (k : ℕ) (o : Option X) (xs : List X) → is_of key k o ≡ true → find (has_key key k) (option_to_list o ++ xs) ≡ o
here key k None xs is = absurd cc
here key k (Some x) xs is = rw is refl

pub found : {X : Type 0} (key : X → ℕ) (k : ℕ) (cells : List (Option X)) (order : List ℕ) (c : ℕ) → is_of key k (content cells c) ≡ true
    → ((d : ℕ) → is_of key k (content cells d) ≡ true → d ≡ c) → is_among order c ≡ true → content cells c ≡ find (has_key key k) (items cells order)
found key k cells [] c is only among = absurd cc
found key k cells (d ∷ order) c is only among =
    go (is_of key k (content cells d)) refl (λ there. found key k cells order c is only there)
  where
    rest : (b : Bool) → (d == c) ≡ b → (b || is_among order c) ≡ true → (d ≡ c → ⊥) → is_among order c ≡ true
    rest true e there apart = absurd (apart (eqb-true d c e))
    rest false e there apart = there

    go : (b : Bool) → is_of key k (content cells d) ≡ b → (is_among order c ≡ true → content cells c ≡ find (has_key key k) (items cells order)) → content cells c ≡ find (has_key key k) (items cells (d ∷ order))
    go true e later = ap (content cells) (sym (only d e)) ∙ sym (here key k (content cells d) (items cells order) e)
    go false e later =
        let apart : d ≡ c → ⊥ = λ same. both (is_of key k (content cells c)) is (ap (λ (a : ℕ). is_of key k (content cells a)) (sym same) ∙ e) in
        later (rest (d == c) refl among apart) ∙ sym (past key k (content cells d) (items cells order) e)

pub none_found : {X : Type 0} (key : X → ℕ) (k : ℕ) (cells : List (Option X)) (order : List ℕ) → ((d : ℕ) → is_of key k (content cells d) ≡ false) → None ≡ find (has_key key k) (items cells order)
none_found key k cells [] none = refl
none_found key k cells (d ∷ order) none = none_found key k cells order none ∙ sym (past key k (content cells d) (items cells order) (none d))

pub any_is_found : {X : Type 0} (p : X → Bool) (xs : List X) → is_some (find p xs) ≡ list_any p xs
any_is_found p [] = refl
any_is_found p (x ∷ xs) = go (p x) refl (any_is_found p xs)
  where
    go : (b : Bool) → p x ≡ b → is_some (find p xs) ≡ list_any p xs → is_some (find p (x ∷ xs)) ≡ list_any p (x ∷ xs)
    go true e rest = rw e refl
    go false e rest = rw e rest

-- where an item of the key is there, the list has one
pub among_items : {X : Type 0} (key : X → ℕ) (k : ℕ) (cells : List (Option X)) (order : List ℕ) (c : ℕ) → is_of key k (content cells c) ≡ true → is_among order c ≡ true
    → list_any (has_key key k) (items cells order) ≡ true
among_items key k cells [] c is among = absurd cc
among_items key k cells (d ∷ order) c is among = go (d == c) refl among (content cells d) refl (λ there. among_items key k cells order c is there)
  where
    go : (b : Bool) → (d == c) ≡ b → (b || is_among order c) ≡ true → (o : Option _) → content cells d ≡ o → (is_among order c ≡ true → list_any (has_key key k) (items cells order) ≡ true)
        → list_any (has_key key k) (option_to_list o ++ items cells order) ≡ true
    go true e there None at later = absurd (let same : content cells c ≡ None = ap (content cells) (sym (eqb-true d c e)) ∙ at in let f : is_of key k (content cells c) ≡ false = ap (is_of key k) same in cc)
    go true e there (Some x) at later =
        let same : content cells c ≡ Some x = ap (content cells) (sym (eqb-true d c e)) ∙ at in
        let yes_it : has_key key k x ≡ true = ap (is_of key k) (sym same) ∙ is in
        rw yes_it refl
    go false e there None at later = later there
    go false e there (Some x) at later = or_right (has_key key k x) (list_any (has_key key k) (items cells order)) (later there)

-- ---- A key that isn't there

pub kept_in : (p : ℕ → Bool) (ns : List ℕ) (c : ℕ) → is_among ns c ≡ true → p c ≡ true → is_among (filter p ns) c ≡ true
kept_in p [] c among passes = absurd cc
kept_in p (n ∷ ns) c among passes = go (n == c) refl among (p n) refl (λ there. kept_in p ns c there passes)
  where
    go : (b : Bool) → (n == c) ≡ b → (b || is_among ns c) ≡ true → (t : Bool) → p n ≡ t → (is_among ns c ≡ true → is_among (filter p ns) c ≡ true) → is_among (filter p (n ∷ ns)) c ≡ true
    go true e there true f later = rw (f, e) refl
    go true e there false f later = absurd (both (p c) passes (ap p (sym (eqb-true n c e)) ∙ f))
    go false e there true f later = rw (f, e) (later there)
    go false e there false f later = rw f (later there)

-- nothing passes a test that finds nothing
pub passes_none : (p : ℕ → Bool) (ns : List ℕ) (c : ℕ) → find p ns ≡ None → is_among ns c ≡ true → p c ≡ true → ⊥
passes_none p [] c none among passes = cc
passes_none p (n ∷ ns) c none among passes = go (p n) refl (n == c) refl among none (λ nothing there. passes_none p ns c nothing there passes)
  where
    go : (t : Bool) → p n ≡ t → (b : Bool) → (n == c) ≡ b → (b || is_among ns c) ≡ true → cond t (Some n) (find p ns) ≡ None → (find p ns ≡ None → is_among ns c ≡ true → ⊥) → ⊥
    go true f b e there nothing later = cc
    go false f true e there nothing later = both (p c) passes (ap p (sym (eqb-true n c e)) ∙ f)
    go false f false e there nothing later = later nothing there

-- the key isn't in its home cell, nor in one of those that are away
pub nowhere : {X : Type 0} (key : X → ℕ) (n k : ℕ) (cells : List (Option X)) (order away : List ℕ) → AreKeyed key n cells order away → ((c : ℕ) → is_used cells c ≡ true → is_among order c ≡ true)
    → is_of key k (content cells (k % n)) ≡ false → find (λ c. is_of key k (content cells c)) away ≡ None → (c : ℕ) → is_of key k (content cells c) ≡ false
nowhere key n k cells order away keyed ordered home none c = go (is_of key k (content cells c)) refl
  where
    at_home : (o : Option _) → content cells c ≡ o → is_of key k o ≡ true → (t : Bool) → (k % n == c) ≡ t → ⊥
    at_home None at is t e = cc
    at_home (Some x) at is true e =
        both (is_of key k (content cells c)) (ap (is_of key k) at ∙ is) (ap (λ (a : ℕ). is_of key k (content cells a)) (sym (eqb-true (k % n) c e)) ∙ home)
    at_home (Some x) at is false e =
        let same : key x ≡ k = eqb-true (key x) k is in
        let strays : strays_at key n c (content cells c) ≡ true = ap (strays_at key n c) at ∙ ap (λ (m : ℕ). not (m % n == c)) same ∙ ap not e in
        let used : is_used cells c ≡ true = ap is_some at in
        let there : is_among away c ≡ true = ap (λ (ns : List ℕ). is_among ns c) keyed.strays ∙ kept_in (λ d. strays_at key n d (content cells d)) order c (ordered c used) strays in
        passes_none (λ d. is_of key k (content cells d)) away c none there (ap (is_of key k) at ∙ is)

    go : (b : Bool) → is_of key k (content cells c) ≡ b → is_of key k (content cells c) ≡ false
    go true e = absurd (at_home (content cells c) refl e (k % n == c) refl)
    go false e = e

-- ---- The list without a key

apart_key : {X : Type 0} (key : X → ℕ) (k : ℕ) (o : Option X) (xs ys : List X) → is_of key k o ≡ false → others key k xs ≡ ys → others key k (option_to_list o ++ xs) ≡ option_to_list o ++ ys
apart_key key k None xs ys is rest = rest
apart_key key k (Some x) xs ys is rest = rw is (ap (λ zs. x ∷ zs) rest)

dropped_key : {X : Type 0} (key : X → ℕ) (k : ℕ) (o : Option X) (xs ys : List X) → is_of key k o ≡ true → others key k xs ≡ ys → others key k (option_to_list o ++ xs) ≡ ys
dropped_key key k None xs ys is rest = absurd cc
dropped_key key k (Some x) xs ys is rest = rw is rest

pub none_taken : {X : Type 0} (key : X → ℕ) (k : ℕ) (cells : List (Option X)) (order : List ℕ) → ((d : ℕ) → is_of key k (content cells d) ≡ false) → others key k (items cells order) ≡ items cells order
none_taken key k cells [] none = refl
none_taken key k cells (d ∷ order) none = apart_key key k (content cells d) (items cells order) (items cells order) (none d) (none_taken key k cells order none)

pub one_goes : {X : Type 0} (key : X → ℕ) (k : ℕ) (cells : List (Option X)) (order : List ℕ) (c : ℕ) → is_of key k (content cells c) ≡ true
    → ((d : ℕ) → is_of key k (content cells d) ≡ true → d ≡ c) → others key k (items cells order) ≡ items (set cells c None) (without c order)
one_goes key k cells [] c is only = refl
one_goes key k cells (d ∷ order) c is only = go (d == c) refl (is_of key k (content cells d)) refl (one_goes key k cells order c is only)
  where
    go : (b : Bool) → (d == c) ≡ b → (t : Bool) → is_of key k (content cells d) ≡ t → others key k (items cells order) ≡ items (set cells c None) (without c order)
        → others key k (items cells (d ∷ order)) ≡ items (set cells c None) (without c (d ∷ order))
    go true e true f rest = rw e (dropped_key key k (content cells d) (items cells order) (items (set cells c None) (without c order)) f rest)
    go true e false f rest = absurd (both (is_of key k (content cells c)) is (ap (λ (a : ℕ). is_of key k (content cells a)) (sym (eqb-true d c e)) ∙ f))
    go false e true f rest = absurd (eqb-false d c e (only d f))
    go false e false f rest = rw (e, content_other cells c d None e) (apart_key key k (content cells d) (items cells order) (items (set cells c None) (without c order)) f rest)

-- ---- No two of one key

apart_from : {X : Type 0} (key : X → ℕ) (cells : List (Option X)) (order : List ℕ) (d : ℕ) (x : X) → ((a b k : ℕ) → is_of key k (content cells a) ≡ true → is_of key k (content cells b) ≡ true → a ≡ b)
    → content cells d ≡ Some x → is_among order d ≡ false → AllByRecursion (λ y. key x ≢ key y) (items cells order)
apart_from key cells [] d x unique at outside = tt
apart_from key cells (e ∷ order) d x unique at outside =
    let parts = or_parts (e == d) (is_among order d) outside in
    go (content cells e) refl parts.0 (apart_from key cells order d x unique at parts.1)
  where
    go : (o : Option _) → content cells e ≡ o → (e == d) ≡ false → AllByRecursion (λ y. key x ≢ key y) (items cells order) → AllByRecursion (λ y. key x ≢ key y) (option_to_list o ++ items cells order)
    go None there apart rest = rest
    go (Some y) there apart rest =
        (λ same. eqb-false e d apart (unique e d (key x) (ap (is_of key (key x)) there ∙ eq-eqb (key y) (key x) (sym same)) (ap (is_of key (key x)) at ∙ eq-eqb (key x) (key x) refl)), rest)

pub differ : {X : Type 0} (key : X → ℕ) (cells : List (Option X)) (order : List ℕ) → ((a b k : ℕ) → is_of key k (content cells a) ≡ true → is_of key k (content cells b) ≡ true → a ≡ b)
    → each_once order ≡ true → Differ key (items cells order)
differ key cells [] unique once = λ i j d lt low. absurd (omega arith)
differ key cells (d ∷ order) unique once =
    let parts = and_parts (not (is_among order d)) (each_once order) once in
    go (content cells d) refl (not-true (is_among order d) parts.0) (differ key cells order unique parts.1)
  where
    go : (o : Option _) → content cells d ≡ o → is_among order d ≡ false → Differ key (items cells order) → Differ key (option_to_list o ++ items cells order)
    go None at outside rest = rest
    go (Some x) at outside rest = AllPairs-cons (λ one other. key one ≢ key other) x (items cells order) (All-from_recursion (λ y. key x ≢ key y) (items cells order) (apart_from key cells order d x unique at outside)) rest

-- ---- What a look-up says of the list

pub hit : (p : ℕ → Bool) (ns : List ℕ) (c : ℕ) → find p ns ≡ Some c → p c ≡ true
hit p [] c found = absurd cc
hit p (n ∷ ns) c found = go (p n) refl found (λ later. hit p ns c later)
  where
    go : (t : Bool) → p n ≡ t → cond t (Some n) (find p ns) ≡ Some c → (find p ns ≡ Some c → p c ≡ true) → p c ≡ true
    go true f is later = let same : n ≡ c = cc in ap p (sym same) ∙ f
    go false f is later = later is

pub found_is : {X : Type 0} (key : X → ℕ) (n k : ℕ) (cells : List (Option X)) (words order away : List ℕ) (c : ℕ) → AreSlots n cells words order → AreKeyed key n cells order away
    → is_of key k (content cells c) ≡ true → content cells c ≡ find (has_key key k) (items cells order)
found_is key n k cells words order away c slots keyed is =
    found key k cells order c is (λ d is_d. keyed.unique d c k is_d is) (slots.ordered c (used_of key k (content cells c) is))

pub others_are : {X : Type 0} (key : X → ℕ) (n k : ℕ) (cells : List (Option X)) (order away : List ℕ) (c : ℕ) → AreKeyed key n cells order away
    → is_of key k (content cells c) ≡ true → others key k (items cells order) ≡ items (set cells c None) (without c order)
others_are key n k cells order away c keyed is = one_goes key k cells order c is (λ d is_d. keyed.unique d c k is_d is)

pub has_is : {X : Type 0} (key : X → ℕ) (n k : ℕ) (cells : List (Option X)) (words order away : List ℕ) (cell : Option ℕ) → AreSlots n cells words order → AreKeyed key n cells order away
    → IfSome cell (λ c. is_of key k (content cells c) ≡ true) → IfNone cell ((c : ℕ) → is_of key k (content cells c) ≡ false) → is_some cell ≡ list_any (has_key key k) (items cells order)
has_is key n k cells words order away (Some c) slots keyed some none = sym (among_items key k cells order c some (slots.ordered c (used_of key k (content cells c) some)))
has_is key n k cells words order away None slots keyed some none = ap is_some (none_found key k cells order none) ∙ any_is_found (has_key key k) (items cells order)

pub copied_is : {X : Type 0} (o : Option (Bor X)) → is_some o ≡ is_some (option_copied o)
copied_is None = refl
copied_is (Some x) = refl
