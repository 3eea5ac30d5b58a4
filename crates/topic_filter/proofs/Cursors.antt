-- The steps of the scan by its two cursors.
use Rattle.std.proofs.Common.{◌≡◌, ℕ, suc, ◌+◌, ◌-◌, ◌<◌, ◌≤◌, List, [], ◌∷◌, length, take, drop, get_or, true, false, refl, sym, ap, ap₂, subst, ◌∙◌, add-one, arith}
use Rattle.std.specs.Prelude.{◌==◌, codes}
use Rattle.std.specs.Cmp.{both_ways}
use Rattle.std.specs.Str.{bytes_eq}
use Rattle.std.proofs.Math.Seq.{drop-cons, drop-length}
use Rattle.std.proofs.lemmas.List.{drop-drop, drop_all, take_all, length-drop}
use Rattle.std.proofs.lemmas.Bool.{eqb-true, eq-eqb, ne_eqb}
use Rattle.topic_filter.specs.Levels.{levels_of}
use Rattle.topic_filter.specs.Texts.{are_filter_levels}
use Rattle.topic_filter.specs.Fitting.{fits_levels}
use Rattle.topic_filter.proofs.Parts.{first_len, behind}
use Rattle.topic_filter.proofs.Scan.{IsPlain, shorter, at_hash, at_plus, at_same, at_other, at_name_end, at_filter_end}

-- what is left behind a cursor, as a slice gives it
pub rest_of : (text : List ℕ) (at : ℕ) → take (length text - at) (drop at text) ≡ drop at text
rest_of text at = take_all (length text - at) (drop at text) (omega (arith, length-drop at text))

-- the byte at a cursor, and what is left behind it
left_from : (text : List ℕ) (at b : ℕ) → at < length text → get_or text at 0 ≡ b → drop at text ≡ b ∷ drop (at + 1) text
left_from text at b within here = drop-cons text at 0 within ∙ ap (λ c. c ∷ drop (suc at) text) here ∙ ap (λ n. b ∷ drop n text) (sym (add-one at))

-- One step: what is left then is still of a filter, and fits where it fitted before.
pub record Step (filter name rest below : List ℕ) : Type 0 where
  pub valid : are_filter_levels (levels_of rest) ≡ true
  pub same : fits_levels (levels_of rest) (levels_of below) ≡ fits_levels (levels_of filter) (levels_of name)

step_plus : (filter rest name : List ℕ) → filter ≡ 43 ∷ rest → are_filter_levels (levels_of filter) ≡ true → Step filter name rest (behind name)
step_plus filter rest name e valid =
    let here : are_filter_levels (levels_of (43 ∷ rest)) ≡ true = subst (λ (f : List ℕ). are_filter_levels (levels_of f) ≡ true) e valid in
    record { valid = shorter 43 rest here; same = sym (at_plus rest name here) ∙ ap (λ f. fits_levels (levels_of f) (levels_of name)) (sym e) }

pub on_plus : (filter name : List ℕ) (at read n : ℕ) → at < length filter → get_or filter at 0 ≡ 43 → are_filter_levels (levels_of (drop at filter)) ≡ true
    → n ≡ first_len (take (length name - read) (drop read name)) → Step (drop at filter) (drop read name) (drop (at + 1) filter) (drop (read + n) name)
on_plus filter name at read n within here valid skipped =
    let place : n ≡ first_len (drop read name) = skipped ∙ ap first_len (rest_of name read) in
    let rest : behind (drop read name) ≡ drop (read + n) name = ap (λ k. drop k (drop read name)) (sym place) ∙ drop-drop n read name in
    subst (λ (r : List ℕ). Step (drop at filter) (drop read name) (drop (at + 1) filter) r) rest (step_plus (drop at filter) (drop (at + 1) filter) (drop read name) (left_from filter at 43 within here) valid)

step_same : (b : ℕ) (filter rest name below : List ℕ) → IsPlain b → filter ≡ b ∷ rest → name ≡ b ∷ below → are_filter_levels (levels_of filter) ≡ true → Step filter name rest below
step_same b filter rest name below plain e f valid =
    let here : are_filter_levels (levels_of (b ∷ rest)) ≡ true = subst (λ (t : List ℕ). are_filter_levels (levels_of t) ≡ true) e valid in
    record { valid = shorter b rest here; same = sym (at_same b rest below plain here) ∙ ap₂ (λ x y. fits_levels (levels_of x) (levels_of y)) (sym e) (sym f) }

plain_from : (b : ℕ) → (b ≡ 43 → ⊥) → (b ≡ 35 → ⊥) → IsPlain b
plain_from b no_plus no_hash = record { no_plus = ne_eqb b 43 no_plus; no_hash = ne_eqb b 35 no_hash }

pub on_same : (filter name : List ℕ) (at read : ℕ) → at < length filter → read < length name → (get_or filter at 0 ≡ 43 → ⊥) → (get_or filter at 0 ≡ 35 → ⊥)
    → get_or name read 0 ≡ get_or filter at 0 → are_filter_levels (levels_of (drop at filter)) ≡ true → Step (drop at filter) (drop read name) (drop (at + 1) filter) (drop (read + 1) name)
on_same filter name at read within inside no_plus no_hash same valid =
    let b = get_or filter at 0 in
    step_same b (drop at filter) _ (drop read name) _ (plain_from b no_plus no_hash) (left_from filter at b within refl) (left_from name read b inside same) valid

pub on_other : (filter name : List ℕ) (at read : ℕ) → at < length filter → read < length name → (get_or filter at 0 ≡ 43 → ⊥) → (get_or filter at 0 ≡ 35 → ⊥)
    → (get_or name read 0 ≡ get_or filter at 0 → ⊥) → fits_levels (levels_of (drop at filter)) (levels_of (drop read name)) ≡ false
on_other filter name at read within inside no_plus no_hash other =
    let b = get_or filter at 0 in
    let c = get_or name read 0 in
    ap₂ (λ x y. fits_levels (levels_of x) (levels_of y)) (left_from filter at b within refl) (left_from name read c inside refl)
    ∙ at_other b c (drop (at + 1) filter) (drop (read + 1) name) (plain_from b no_plus no_hash) (ne_eqb b c (λ e. other (sym e)))

pub on_hash : (filter name : List ℕ) (at : ℕ) → at < length filter → get_or filter at 0 ≡ 35 → are_filter_levels (levels_of (drop at filter)) ≡ true
    → fits_levels (levels_of (drop at filter)) (levels_of name) ≡ true
on_hash filter name at within here valid =
    let e : drop at filter ≡ 35 ∷ drop (at + 1) filter = left_from filter at 35 within here in
    ap (λ f. fits_levels (levels_of f) (levels_of name)) e ∙ at_hash (drop (at + 1) filter) name (subst (λ (f : List ℕ). are_filter_levels (levels_of f) ≡ true) e valid)

pub on_name_end : (filter name : List ℕ) (at read : ℕ) → at < length filter → read ≡ length name → (get_or filter at 0 ≡ 43 → ⊥) → (get_or filter at 0 ≡ 35 → ⊥)
    → fits_levels (levels_of (drop at filter)) (levels_of (drop read name)) ≡ bytes_eq (take (length filter - at) (drop at filter)) (codes "/#")
on_name_end filter name at read within ended no_plus no_hash =
    let b = get_or filter at 0 in
    let e : drop at filter ≡ b ∷ drop (at + 1) filter = left_from filter at b within refl in
    let none : drop read name ≡ [] = ap (λ n. drop n name) ended ∙ drop-length name in
    ap₂ (λ x y. fits_levels (levels_of x) (levels_of y)) e none ∙ at_name_end b (drop (at + 1) filter) (plain_from b no_plus no_hash)
    ∙ ap (λ f. bytes_eq f (codes "/#")) (sym e ∙ sym (rest_of filter at))

length_left : (name : List ℕ) (read : ℕ) → read ≤ length name → (length (drop read name) == 0) ≡ (read == length name)
length_left name read within =
    both_ways (length (drop read name) == 0) (read == length name)
    (λ e. eq-eqb read (length name) (omega (arith, length-drop read name, eqb-true (length (drop read name)) 0 e)))
    (λ e. eq-eqb (length (drop read name)) 0 (omega (arith, length-drop read name, eqb-true read (length name) e)))

pub on_filter_end : (filter name : List ℕ) (at read : ℕ) → length filter ≤ at → read ≤ length name → fits_levels (levels_of (drop at filter)) (levels_of (drop read name)) ≡ (read == length name)
on_filter_end filter name at read ended within =
    ap (λ f. fits_levels (levels_of f) (levels_of (drop read name))) (drop_all at filter ended) ∙ at_filter_end (drop read name) ∙ length_left name read within
