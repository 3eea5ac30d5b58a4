-- What is true of the cells, behind each call.
use Rattle.std.proofs.Common.{◌≡◌, ◌≤◌, ◌<◌, ℕ, ◌*◌, Bool, true, false, not, List, [], ◌∷◌, ◌++◌, length, set, replicate, Option, Some, None, refl, sym, ap, ◌∙◌, ⊎_elim, arith}
use Rattle.std.specs.Prelude.{◌==◌, ◌||◌, ◌&&◌, is_some}
use Rattle.std.specs.List.{count_by}
use Rattle.std.proofs.lemmas.Bool.{eqb-true, cases_lt}
use Rattle.std.proofs.lemmas.List.{length-set, length_push, get_or-set_same, get_or_past, set-get_or, length-replicate, get_or-replicate}
use Rattle.ordered_cells.specs.Words.{flag}
use Rattle.ordered_cells.specs.Cells.{content, is_used, is_among, without, AreSlots}
use Rattle.ordered_cells.proofs.Orders.{none_unused, free_outside, content_other, used_elsewhere, all_push, all_without}
use Rattle.ordered_cells.proofs.Counts.{filled_count, emptied_count, all_count, none_count, once_filter, once_push, one_taken, nothing_taken, still_among, more_among, last_among}

-- a used cell is one of the cells
pub used_within : {X : Type 0} (cells : List (Option X)) (c : ℕ) → is_used cells c ≡ true → c < length cells
used_within cells c used = ⊎_elim (λ lt. lt) (λ past. absurd (let none : is_used cells c ≡ false = ap is_some (get_or_past cells c None past) in cc)) (cases_lt c (length cells))

-- where not all cells are used, the first flag that isn't set is that of a free cell
pub first_free : {X : Type 0} (n : ℕ) (cells : List (Option X)) (words order : List ℕ) (c : ℕ) → AreSlots n cells words order → length order < n
    → flag words c ≡ false → ((d : ℕ) → d < c → flag words d ≡ true) → (c < n) × (content cells c ≡ None)
first_free n cells words order c slots room clear before = (
  ⊎_elim (λ lt. lt) (λ past. absurd (omega (arith, room, slots.count, slots.all_cells, all_count cells (λ d lt. sym (slots.flags d) ∙ before d (omega (arith, lt, past, slots.all_cells)))))) (cases_lt c n),
  none_unused (content cells c) (sym (slots.flags c) ∙ clear),
)

-- not all flags are set
pub some_free : {X : Type 0} (n : ℕ) (cells : List (Option X)) (words order : List ℕ) → AreSlots n cells words order → length order < n
    → ((d : ℕ) → d < 64 * length words → flag words d ≡ true) → ⊥
some_free n cells words order slots room set = omega (arith, room, slots.count, slots.all_cells, all_count cells (λ d lt. sym (slots.flags d) ∙ set d (omega (arith, lt, slots.all_cells, slots.room))))

filled_flag : {X : Type 0} (cells : List (Option X)) (words : List ℕ) (c d : ℕ) (x : X) → c < length cells → flag words d ≡ is_used cells d → (d == c || flag words d) ≡ is_used (set cells c (Some x)) d
filled_flag cells words c d x lt flags = go (d == c) refl
  where
    go : (b : Bool) → (d == c) ≡ b → (b || flag words d) ≡ is_used (set cells c (Some x)) d
    go true e = sym (ap is_some (ap (content (set cells c (Some x))) (eqb-true d c e) ∙ get_or-set_same cells c (Some x) None lt))
    go false e = flags ∙ sym (ap is_some (content_other cells c d (Some x) e))

emptied_flag : {X : Type 0} (cells : List (Option X)) (words : List ℕ) (c d : ℕ) → c < length cells → flag words d ≡ is_used cells d → (not (d == c) && flag words d) ≡ is_used (set cells c None) d
emptied_flag cells words c d lt flags = go (d == c) refl
  where
    go : (b : Bool) → (d == c) ≡ b → (not b && flag words d) ≡ is_used (set cells c None) d
    go true e = sym (ap is_some (ap (content (set cells c None)) (eqb-true d c e) ∙ get_or-set_same cells c None None lt))
    go false e = flags ∙ sym (ap is_some (content_other cells c d None e))

filled_order : {X : Type 0} (cells : List (Option X)) (order : List ℕ) (c d : ℕ) (x : X) → (is_used cells d ≡ true → is_among order d ≡ true) → is_used (set cells c (Some x)) d ≡ true → is_among (order ++ c ∷ []) d ≡ true
filled_order cells order c d x ordered used = go (d == c) refl
  where
    go : (b : Bool) → (d == c) ≡ b → is_among (order ++ c ∷ []) d ≡ true
    go true e = ap (is_among (order ++ c ∷ [])) (eqb-true d c e) ∙ last_among order c
    go false e = more_among order c d (ordered (sym (ap is_some (content_other cells c d (Some x) e)) ∙ used))

emptied_order : {X : Type 0} (cells : List (Option X)) (order : List ℕ) (c d : ℕ) → c < length cells → (is_used cells d ≡ true → is_among order d ≡ true) → is_used (set cells c None) d ≡ true → is_among (without c order) d ≡ true
emptied_order cells order c d lt ordered used = go (d == c) refl
  where
    go : (b : Bool) → (d == c) ≡ b → is_among (without c order) d ≡ true
    go true e = absurd (let none : is_used (set cells c None) d ≡ false = ap is_some (ap (content (set cells c None)) (eqb-true d c e) ∙ get_or-set_same cells c None None lt) in cc)
    go false e = still_among c d order e (ordered (sym (ap is_some (content_other cells c d None e)) ∙ used))

-- an item is put into a free cell
pub put_slots : {X : Type 0} (n : ℕ) (cells : List (Option X)) (words new order : List ℕ) (c : ℕ) (x : X) → AreSlots n cells words order → c < n → content cells c ≡ None
    → length new ≡ length words → ((d : ℕ) → flag new d ≡ (d == c || flag words d)) → AreSlots n (set cells c (Some x)) new (order ++ c ∷ [])
put_slots n cells words new order c x slots lt free len flags =
    let inside : c < length cells = omega (arith, lt, slots.all_cells) in
    let outside = free_outside cells order c slots.used free in
    record {
      some_cell = slots.some_cell;
      few = slots.few;
      all_cells = length-set cells c (Some x) ∙ slots.all_cells;
      room = omega (arith, slots.room, len);
      few_words = omega (arith, slots.few_words, len);
      flags = λ d. flags d ∙ filled_flag cells words c d x inside (slots.flags d);
      used = all_push (set cells c (Some x)) order c (used_elsewhere cells order c (Some x) outside slots.used) (ap is_some (get_or-set_same cells c (Some x) None inside));
      ordered = λ d used. filled_order cells order c d x (slots.ordered d) used;
      once = once_push order c slots.once outside;
      count = omega (arith, filled_count cells c x inside free, slots.count, length_push order c);
    }

-- a cell is emptied
pub emptied_slots : {X : Type 0} (n : ℕ) (cells : List (Option X)) (words new order : List ℕ) (c : ℕ) → AreSlots n cells words order → c < n
    → length new ≡ length words → ((d : ℕ) → flag new d ≡ (not (d == c) && flag words d)) → AreSlots n (set cells c None) new (without c order)
emptied_slots n cells words new order c slots lt len flags =
    let inside : c < length cells = omega (arith, lt, slots.all_cells) in
    record {
      some_cell = slots.some_cell;
      few = slots.few;
      all_cells = length-set cells c None ∙ slots.all_cells;
      room = omega (arith, slots.room, len);
      few_words = omega (arith, slots.few_words, len);
      flags = λ d. flags d ∙ emptied_flag cells words c d inside (slots.flags d);
      used = all_without cells order c slots.used;
      ordered = λ d used. emptied_order cells order c d inside (slots.ordered d) used;
      once = once_filter (λ m. not (m == c)) order slots.once;
      count = go (is_used cells c) refl inside;
    }
  where
    go : (b : Bool) → is_used cells c ≡ b → c < length cells → count_by is_some (set cells c None) ≡ length (without c order)
    go true e inside = omega (arith, emptied_count cells c inside e, slots.count, one_taken c order slots.once (slots.ordered c e))
    go false e inside =
        let free = none_unused (content cells c) e in
        rw (nothing_taken c order (free_outside cells order c slots.used free)) (ap (count_by is_some) (unchanged cells c free) ∙ slots.count)
      where
        unchanged : {X : Type 0} (cells : List (Option X)) (c : ℕ) → content cells c ≡ None → set cells c None ≡ cells
        unchanged cells c free = ap (set cells c) (sym free) ∙ set-get_or cells c None

-- all cells are empty
pub empty_slots : {X : Type 0} (n : ℕ) (words : List ℕ) → 0 < n → n ≤ 65536 → n ≤ 64 * length words → length words ≤ 1024 → ((d : ℕ) → flag words d ≡ false)
    → AreSlots {X = X} n (replicate n None) words []
empty_slots {X} n words some few room few_words clear = record {
  some_cell = some;
  few = few;
  all_cells = length-replicate n None;
  room = room;
  few_words = few_words;
  flags = λ d. clear d ∙ sym (none d);
  used = refl;
  ordered = λ d used. absurd (let free = none d in cc);
  once = refl;
  count = none_count (replicate {A = Option X} n None) none;
}
  where
    none : (d : ℕ) → is_used {X = X} (replicate n None) d ≡ false
    none d = ⊎_elim (λ lt. ap is_some (get_or-replicate n d None None lt)) (λ past. ap is_some (get_or_past (replicate n None) d None (omega (arith, past, length-replicate {A = Option X} n None)))) (cases_lt d n)
