-- What is true of the cells where each item was given to a closure.
use Rattle.std.proofs.Common.{◌≡◌, ◌≤◌, ◌<◌, ℕ, zero, suc, ◌+◌, ◌-◌, Bool, true, false, not, List, [], ◌∷◌, ◌++◌, length, map, set, get_or, take, drop, Option, Some, None, refl, sym, ap, ◌∙◌, arith}
use Rattle.std.specs.Prelude.{◌==◌, ◌||◌, filter, option_to_list, is_some, nat_lt}
use Rattle.std.specs.List.{list_all, count_by, filter_map, cons_option}
use Rattle.std.specs.Option.{option_and_then}
use Rattle.std.proofs.lemmas.Bool.{eqb-true, eqb-false, and_parts, and_from, not-true, lt-ltb, ne_eqb}
use Rattle.std.proofs.lemmas.List.{length-map, get_or-set_same, drop_more, length-take-le, set_at, append_assoc, map_more, get_or-append_right, get_or-drop}
use Rattle.ordered_cells.specs.Words.{flag}
use Rattle.ordered_cells.specs.Cells.{content, items, is_used, is_among, each_once, AreSlots}
use Rattle.ordered_cells.proofs.Orders.{none_unused, content_other, free_outside, used_elsewhere}
use Rattle.ordered_cells.proofs.Counts.{emptied_count, none_count, once_filter}
use Rattle.ordered_cells.proofs.Found.{kept_in}
use Rattle.ordered_cells.proofs.Kept.{used_within}

-- ---- The items

content_map : {X : Type 0} (p : X → Option X) (cells : List (Option X)) (c : ℕ) → content (map (option_and_then p) cells) c ≡ option_and_then p (content cells c)
content_map p [] c = refl
content_map p (o ∷ cells) zero = refl
content_map p (o ∷ cells) (suc c) = content_map p cells c

pub items_updated : {X : Type 0} (p : X → Option X) (cells : List (Option X)) (order : List ℕ)
    → items (map (option_and_then p) cells) (filter (λ c. is_used (map (option_and_then p) cells) c) order) ≡ filter_map p (items cells order)
items_updated p cells [] = refl
items_updated {X} p cells (d ∷ order) = go (content cells d) (content_map p cells d) (items_updated p cells order)
  where
    now : List (Option X)
    now = map (option_and_then p) cells

    go : (o : Option X) → content now d ≡ option_and_then p o → items now (filter (λ c. is_used now c) order) ≡ filter_map p (items cells order)
        → items now (filter (λ c. is_used now c) (d ∷ order)) ≡ filter_map p (option_to_list o ++ items cells order)
    go None is rest = rw is rest
    go (Some x) is rest = answered (p x) is rest
      where
        answered : (answer : Option X) → content now d ≡ answer → items now (filter (λ c. is_used now c) order) ≡ filter_map p (items cells order)
            → items now (filter (λ c. is_used now c) (d ∷ order)) ≡ cons_option answer (filter_map p (items cells order))
        answered None is rest = rw is rest
        answered (Some y) is rest = rw (is, is) (ap (λ xs. y ∷ xs) rest)

-- ---- The order

pub used_filter : {X : Type 0} (cells : List (Option X)) (order : List ℕ) → list_all (λ c. is_used cells c) (filter (λ c. is_used cells c) order) ≡ true
used_filter cells [] = refl
used_filter cells (d ∷ order) = go (is_used cells d) refl (used_filter cells order)
  where
    go : (b : Bool) → is_used cells d ≡ b → list_all (λ c. is_used cells c) (filter (λ c. is_used cells c) order) ≡ true → list_all (λ c. is_used cells c) (filter (λ c. is_used cells c) (d ∷ order)) ≡ true
    go true e rest = rw e (and_from (is_used cells d) (list_all (λ c. is_used cells c) (filter (λ c. is_used cells c) order)) e rest)
    go false e rest = rw e rest

-- all cells of an order of used ones have words
pub all_within : {X : Type 0} (cells : List (Option X)) (order : List ℕ) (n : ℕ) → length cells ≤ n → list_all (λ c. is_used cells c) order ≡ true → list_all (λ c. nat_lt c n) order ≡ true
all_within cells [] n room used = refl
all_within cells (d ∷ order) n room used =
    let parts = and_parts (is_used cells d) (list_all (λ c. is_used cells c) order) used in
    let inside = used_within cells d parts.0 in
    and_from (nat_lt d n) (list_all (λ c. nat_lt c n) order) (lt-ltb d n (omega (arith, inside, room))) (all_within cells order n room parts.1)

among_used : {X : Type 0} (cells : List (Option X)) (order : List ℕ) (d : ℕ) → (is_used cells d ≡ true → is_among order d ≡ true) → is_among (filter (λ c. is_used cells c) order) d ≡ is_used cells d
among_used cells order d ordered = go (is_used cells d) refl
  where
    outside : (ns : List ℕ) → is_used cells d ≡ false → is_among (filter (λ c. is_used cells c) ns) d ≡ false
    outside ns free = free_outside cells (filter (λ c. is_used cells c) ns) d (used_filter cells ns) (none_unused (content cells d) free)

    go : (b : Bool) → is_used cells d ≡ b → is_among (filter (λ c. is_used cells c) order) d ≡ b
    go true e = kept_in (λ c. is_used cells c) order d (ordered e) e
    go false e = outside order e

-- ---- How many there are

-- an order of all used cells, each once, is as long as they are many
pub as_many : {X : Type 0} (cells : List (Option X)) (order : List ℕ) → list_all (λ c. is_used cells c) order ≡ true → ((c : ℕ) → is_used cells c ≡ true → is_among order c ≡ true) → each_once order ≡ true
    → count_by is_some cells ≡ length order
as_many cells [] used ordered once = none_count cells (λ c. nothing c (is_used cells c) refl)
  where
    nothing : (c : ℕ) → (b : Bool) → is_used cells c ≡ b → is_used cells c ≡ false
    nothing c true e = absurd (let there = ordered c e in cc)
    nothing c false e = e
as_many cells (d ∷ order) used ordered once =
    let parts = and_parts (is_used cells d) (list_all (λ c. is_used cells c) order) used in
    let alone = and_parts (not (is_among order d)) (each_once order) once in
    let outside = not-true (is_among order d) alone.0 in
    let inside = used_within cells d parts.0 in
    let rest = as_many (set cells d None) order (used_elsewhere cells order d None outside parts.1) (λ c there. later c (d == c) refl inside there) alone.1 in
    omega (arith, rest, emptied_count cells d inside parts.0)
  where
    later : (c : ℕ) → (b : Bool) → (d == c) ≡ b → d < length cells → is_used (set cells d None) c ≡ true → is_among order c ≡ true
    later c true e inside there =
        let same : d ≡ c = eqb-true d c e in
        absurd (let none : is_used (set cells d None) c ≡ false = ap (λ (a : ℕ). is_used (set cells d None) a) (sym same) ∙ ap is_some (get_or-set_same cells d None None inside) in cc)
    later c false e inside there =
        let apart : (c == d) ≡ false = ne_eqb c d (λ f. eqb-false d c e (sym f)) in
        let used_before : is_used cells c ≡ true = sym (ap is_some (content_other cells d c None apart)) ∙ there in
        let among = ordered c used_before in
        sym (ap (λ (b : Bool). b || is_among order c) e) ∙ among

pub updated_slots : {X : Type 0} (n : ℕ) (cells now : List (Option X)) (words new order : List ℕ) → AreSlots n cells words order → length now ≡ length cells
    → ((c : ℕ) → is_used now c ≡ true → is_used cells c ≡ true) → length new ≡ length words → ((c : ℕ) → flag new c ≡ is_among (filter (λ c. is_used now c) order) c)
    → AreSlots n now new (filter (λ c. is_used now c) order)
updated_slots n cells now words new order slots len fewer words_len flags =
    let ordered : (c : ℕ) → is_used now c ≡ true → is_among order c ≡ true = λ c used. slots.ordered c (fewer c used) in
    let once = once_filter (λ c. is_used now c) order slots.once in
    let among : (c : ℕ) → is_used now c ≡ true → is_among (filter (λ c. is_used now c) order) c ≡ true = λ c used. kept_in (λ c. is_used now c) order c (ordered c used) used in
    record {
      some_cell = slots.some_cell;
      few = slots.few;
      all_cells = len ∙ slots.all_cells;
      room = omega (arith, slots.room, words_len);
      few_words = omega (arith, slots.few_words, words_len);
      flags = λ c. flags c ∙ among_used now order c (ordered c);
      used = used_filter now order;
      ordered = among;
      once = once;
      count = as_many now (filter (λ c. is_used now c) order) (used_filter now order) among once;
    }

-- ---- The cells, one by one

pub used_set : {X : Type 0} (cells old : List (Option X)) (i : ℕ) (o : Option X) → i < length cells → (is_some o ≡ true → is_used old i ≡ true) → ((c : ℕ) → is_used cells c ≡ true → is_used old c ≡ true)
    → (c : ℕ) → is_used (set cells i o) c ≡ true → is_used old c ≡ true
used_set cells old i o inside here before c used = go (c == i) refl
  where
    go : (b : Bool) → (c == i) ≡ b → is_used old c ≡ true
    go true e =
        let same : c ≡ i = eqb-true c i e in
        ap (is_used old) same ∙ here (sym (ap is_some (get_or-set_same cells i o None inside)) ∙ ap (λ (a : ℕ). is_used (set cells i o) a) (sym same) ∙ used)
    go false e = before c (sym (ap is_some (content_other cells i c o e)) ∙ used)

-- one more cell has its answer
pub one_more : {X : Type 0} (h : Option X → Option X) (old now : List (Option X)) (i : ℕ) (o : Option X) → i < length old → now ≡ map h (take i old) ++ drop i old → o ≡ h (get_or old i None)
    → set now i o ≡ map h (take (i + 1) old) ++ drop (i + 1) old
one_more {X} h old now i o inside is answer =
    let split : drop i old ≡ get_or old i None ∷ drop (i + 1) old = drop_more old i None inside in
    let long : length (map h (take i old)) ≡ i = length-map (take i old) h ∙ length-take-le i old (omega arith) in
    ap (λ (os : List (Option X)). set os i o) (is ∙ ap (λ (os : List (Option X)). map h (take i old) ++ os) split)
    ∙ set_at (map h (take i old)) (get_or old i None) (drop (i + 1) old) o i long
    ∙ ap (λ (a : Option X). map h (take i old) ++ a ∷ drop (i + 1) old) answer
    ∙ sym (append_assoc (map h (take i old)) (h (get_or old i None) ∷ []) (drop (i + 1) old))
    ∙ ap (λ (os : List (Option X)). os ++ drop (i + 1) old) (sym (map_more h old i None inside))

-- the cell at hand is as it was
pub still_there : {X : Type 0} (h : Option X → Option X) (old now : List (Option X)) (i : ℕ) → i < length old → now ≡ map h (take i old) ++ drop i old → get_or now i None ≡ get_or old i None
still_there h old now i inside is =
    let long : length (map h (take i old)) ≡ i = length-map (take i old) h ∙ length-take-le i old (omega arith) in
    ap (λ os. get_or os i None) is ∙ get_or-append_right (map h (take i old)) (drop i old) i i None long (omega arith) ∙ get_or-drop i old (i - i) None ∙ ap (λ (n : ℕ). get_or old n None) (omega arith)
