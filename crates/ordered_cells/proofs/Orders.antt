-- The order of the cells, and the items that are read along it.
use Rattle.std.proofs.Common.{◌≡◌, ◌<◌, ℕ, zero, suc, ◌+◌, Bool, true, false, List, [], ◌∷◌, ◌++◌, length, set, get_or, drop, replicate, Option, Some, None, refl, sym, ap, ◌∙◌}
use Rattle.std.specs.Prelude.{◌==◌, ◌||◌, option_to_list, is_some, slice_get}
use Rattle.std.specs.List.{list_all}
use Rattle.std.specs.Option.{option_and_then}
use Rattle.std.proofs.lemmas.Bool.{eqb-true, eqb-false, and_parts, and_from, or_parts}
use Rattle.std.proofs.lemmas.List.{get_or-set_other, append-nil, append_assoc, drop_more, set_at, length-replicate, replicate_more}
use Rattle.std.proofs.lemmas.Grind.{flat_map-append}
use Rattle.ordered_cells.specs.Cells.{content, items, is_used, is_among, without}

pub none_unused : {X : Type 0} (o : Option X) → is_some o ≡ false → o ≡ None
none_unused None e = refl
none_unused (Some x) e = absurd cc

pub some_used : {X : Type 0} (o : Option X) (x : X) → o ≡ Some x → is_some o ≡ true
some_used o x e = rw e refl

-- ---- Members

-- a free cell isn't among the used ones
pub free_outside : {X : Type 0} (cells : List (Option X)) (order : List ℕ) (c : ℕ) → list_all (λ d. is_used cells d) order ≡ true → content cells c ≡ None → is_among order c ≡ false
free_outside cells [] c used free = refl
free_outside cells (d ∷ order) c used free =
    let parts = and_parts (is_used cells d) (list_all (λ d. is_used cells d) order) used in
    go (d == c) refl parts.0 (free_outside cells order c parts.1 free)
  where
    go : (b : Bool) → (d == c) ≡ b → is_used cells d ≡ true → is_among order c ≡ false → (b || is_among order c) ≡ false
    go true e here rest = absurd (let none : is_used cells d ≡ false = ap (is_used cells) (eqb-true d c e) ∙ ap is_some free in cc)
    go false e here rest = rest

-- ---- A cell is filled or emptied

pub content_other : {X : Type 0} (cells : List (Option X)) (c d : ℕ) (o : Option X) → (d == c) ≡ false → content (set cells c o) d ≡ content cells d
content_other cells c d o apart = get_or-set_other cells c d o None (eqb-false d c apart)

pub items_elsewhere : {X : Type 0} (cells : List (Option X)) (order : List ℕ) (c : ℕ) (o : Option X) → is_among order c ≡ false → items (set cells c o) order ≡ items cells order
items_elsewhere cells [] c o outside = refl
items_elsewhere cells (d ∷ order) c o outside =
    let parts = or_parts (d == c) (is_among order c) outside in
    rw (content_other cells c d o parts.0) (ap (λ xs. option_to_list (content cells d) ++ xs) (items_elsewhere cells order c o parts.1))

pub used_elsewhere : {X : Type 0} (cells : List (Option X)) (order : List ℕ) (c : ℕ) (o : Option X) → is_among order c ≡ false → list_all (λ d. is_used cells d) order ≡ true
    → list_all (λ d. is_used (set cells c o) d) order ≡ true
used_elsewhere cells [] c o outside used = refl
used_elsewhere cells (d ∷ order) c o outside used =
    let parts = or_parts (d == c) (is_among order c) outside in
    let all = and_parts (is_used cells d) (list_all (λ d. is_used cells d) order) used in
    and_from (is_used (set cells c o) d) (list_all (λ d. is_used (set cells c o) d) order) (ap is_some (content_other cells c d o parts.0) ∙ all.0) (used_elsewhere cells order c o parts.1 all.1)

pub items_push : {X : Type 0} (cells : List (Option X)) (order : List ℕ) (c : ℕ) → items cells (order ++ c ∷ []) ≡ items cells order ++ option_to_list (content cells c)
items_push cells order c = flat_map-append (λ d. option_to_list (content cells d)) order (c ∷ []) ∙ ap (λ xs. items cells order ++ xs) (append-nil (option_to_list (content cells c)))

pub all_push : {X : Type 0} (cells : List (Option X)) (order : List ℕ) (c : ℕ) → list_all (λ d. is_used cells d) order ≡ true → is_used cells c ≡ true
    → list_all (λ d. is_used cells d) (order ++ c ∷ []) ≡ true
all_push cells [] c used here = and_from (is_used cells c) true here refl
all_push cells (d ∷ order) c used here =
    let all = and_parts (is_used cells d) (list_all (λ d. is_used cells d) order) used in
    and_from (is_used cells d) (list_all (λ d. is_used cells d) (order ++ c ∷ [])) all.0 (all_push cells order c all.1 here)

-- those that are left are used where one cell is emptied
pub all_without : {X : Type 0} (cells : List (Option X)) (order : List ℕ) (c : ℕ) → list_all (λ d. is_used cells d) order ≡ true
    → list_all (λ d. is_used (set cells c None) d) (without c order) ≡ true
all_without cells [] c used = refl
all_without cells (d ∷ order) c used =
    let all = and_parts (is_used cells d) (list_all (λ d. is_used cells d) order) used in
    go (d == c) refl all.0 (all_without cells order c all.1)
  where
    go : (b : Bool) → (d == c) ≡ b → is_used cells d ≡ true → list_all (λ d. is_used (set cells c None) d) (without c order) ≡ true → list_all (λ d. is_used (set cells c None) d) (without c (d ∷ order)) ≡ true
    go true e here rest = rw e rest
    go false e here rest = rw e (and_from (is_used (set cells c None) d) (list_all (λ d. is_used (set cells c None) d) (without c order)) (ap is_some (content_other cells c d None e) ∙ here) rest)

-- ---- Places of the order

pub items_len : {X : Type 0} (cells : List (Option X)) (order : List ℕ) → list_all (λ d. is_used cells d) order ≡ true → length (items cells order) ≡ length order
items_len cells [] used = refl
items_len cells (d ∷ order) used =
    let all = and_parts (is_used cells d) (list_all (λ d. is_used cells d) order) used in
    go (content cells d) all.0 (items_len cells order all.1)
  where
    go : (o : Option _) → is_some o ≡ true → length (items cells order) ≡ length order → length (option_to_list o ++ items cells order) ≡ length (d ∷ order)
    go None e rest = absurd cc
    go (Some x) e rest = ap suc rest

-- what is in the cell at place k
pub place_is : {X : Type 0} (cells : List (Option X)) (order : List ℕ) (k : ℕ) → list_all (λ d. is_used cells d) order ≡ true
    → option_and_then (content cells) (slice_get order k) ≡ slice_get (items cells order) k
place_is cells [] k used = refl
place_is cells (d ∷ order) k used =
    let all = and_parts (is_used cells d) (list_all (λ d. is_used cells d) order) used in
    go k (content cells d) refl all.0 (λ j. place_is cells order j all.1)
  where
    go : (k : ℕ) (o : Option _) → content cells d ≡ o → is_some o ≡ true → ((j : ℕ) → option_and_then (content cells) (slice_get order j) ≡ slice_get (items cells order) j)
        → option_and_then (content cells) (slice_get (d ∷ order) k) ≡ slice_get (option_to_list o ++ items cells order) k
    go k None is e rest = absurd cc
    go zero (Some x) is e rest = is
    go (suc j) (Some x) is e rest = rest j

pub found_at : {X : Type 0} (cells : List (Option X)) (order : List ℕ) (k c : ℕ) → list_all (λ d. is_used cells d) order ≡ true → slice_get order k ≡ Some c → content cells c ≡ slice_get (items cells order) k
found_at cells order k c used at = ap (option_and_then (content cells)) (sym at) ∙ place_is cells order k used

pub none_at : {X : Type 0} (cells : List (Option X)) (order : List ℕ) (k : ℕ) → list_all (λ d. is_used cells d) order ≡ true → slice_get order k ≡ None → None ≡ slice_get (items cells order) k
none_at cells order k used at = ap (option_and_then (content cells)) (sym at) ∙ place_is cells order k used

-- ---- Cells that are filled or emptied one by one

pub one_more_empty : {X : Type 0} (cells now : List (Option X)) (i : ℕ) → i < length cells → now ≡ replicate i None ++ drop i cells → set now i None ≡ replicate (i + 1) None ++ drop (i + 1) cells
one_more_empty {X} cells now i inside is =
    let split : drop i cells ≡ get_or cells i None ∷ drop (i + 1) cells = drop_more cells i None inside in
    ap (λ (os : List (Option X)). set os i None) (is ∙ ap (λ (os : List (Option X)). replicate i None ++ os) split)
    ∙ set_at (replicate i None) (get_or cells i None) (drop (i + 1) cells) None i (length-replicate i None)
    ∙ sym (append_assoc (replicate i None) (None ∷ []) (drop (i + 1) cells))
    ∙ ap (λ (os : List (Option X)). os ++ drop (i + 1) cells) (replicate_more i None)
