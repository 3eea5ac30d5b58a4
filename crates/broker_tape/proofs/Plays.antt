-- Steps of a link that a tape plays.
use Rattle.std.proofs.Common.{◌≡◌, ℕ, zero, suc, ◌+◌, ◌-◌, ◌<◌, ◌≤◌, List, [], ◌∷◌, ◌++◌, length, drop, get_or, true, false, refl, sym, ap, ◌∙◌, arith, inl, inr}
use Rattle.std.specs.Prelude.{nat_le, nat_eq}
use Rattle.std.proofs.lemmas.Bool.{le-leb, lt-leb, cases_lt}
use Rattle.std.proofs.lemmas.List.{drop_more, drop_all}
use Rattle.broker_tape.specs.declared.tape.Item.{Item}
use Rattle.broker_tape.specs.declared.tape.Item.TheVariants as items
use Rattle.agent_link.specs.Wires.{onto_last}
use Rattle.broker_tape.specs.Playing.{is_empty, is_opening, closed, begins, opens, opens_at, is_used, next, hears, hears_at, hears_of, played_to, advance}

pub onto_last_end : (wires : List (List ℕ)) (wire bytes : List ℕ) → onto_last (wires ++ wire ∷ []) bytes ≡ wires ++ (wire ++ bytes) ∷ []
onto_last_end [] wire bytes = refl
onto_last_end (first ∷ []) wire bytes = refl
onto_last_end (first ∷ next ∷ wires) wire bytes = ap (λ rest. first ∷ rest) (onto_last_end (next ∷ wires) wire bytes)

played_none : (item : Item) → played_to 0 item ≡ item
played_none items.Open = refl
played_none items.Refuse = refl
played_none (items.Room count) = refl
played_none (items.Hear bytes) = refl
played_none (items.Quiet count) = ap items.Quiet (omega arith)
played_none items.End = refl
played_none items.Fail = refl

pub advance_none : (xs : List Item) → advance 0 xs ≡ xs
advance_none [] = refl
advance_none (item ∷ xs) = ap (λ i. i ∷ xs) (played_none item)

-- ---- The next opening

pub closed_later : (at : ℕ) (xs : List Item) (d : Item) → at < length xs → is_opening (get_or xs at d) ≡ false → closed (drop at xs) ≡ closed (drop (at + 1) xs)
closed_later at xs d within is = rw (drop_more xs at d within, is) refl

pub closed_here : (at : ℕ) (xs : List Item) (d : Item) → at < length xs → is_opening (get_or xs at d) ≡ true → closed (drop at xs) ≡ drop at xs
closed_here at xs d within is = rw (drop_more xs at d within, is) refl

pub closed_end : (at : ℕ) (xs : List Item) → length xs ≤ at → closed (drop at xs) ≡ drop at xs
closed_end at xs end = rw (drop_all at xs end) refl

played_opening : (k : ℕ) (item : Item) → is_opening (played_to k item) ≡ is_opening item
played_opening k items.Open = refl
played_opening k items.Refuse = refl
played_opening k (items.Room count) = refl
played_opening k (items.Hear bytes) = refl
played_opening k (items.Quiet count) = refl
played_opening k items.End = refl
played_opening k items.Fail = refl

closed_played : (k : ℕ) (item : Item) (xs : List Item) → closed (played_to k item ∷ xs) ≡ closed (item ∷ xs)
closed_played k items.Open xs = refl
closed_played k items.Refuse xs = refl
closed_played k (items.Room count) xs = refl
closed_played k (items.Hear bytes) xs = refl
closed_played k (items.Quiet count) xs = refl
closed_played k items.End xs = refl
closed_played k items.Fail xs = refl

-- what was played of the first item doesn't move the next opening
pub closed_advance : (k : ℕ) (xs : List Item) → closed (advance k xs) ≡ closed xs
closed_advance k [] = refl
closed_advance k (item ∷ xs) = closed_played k item xs

opens_found : (k at next : ℕ) (xs : List Item) (d : Item) → closed (drop at xs) ≡ drop next xs → next < length xs → opens (advance k (drop at xs)) ≡ opens_at (get_or xs next d ∷ drop (next + 1) xs)
opens_found k at next xs d e within = ap opens_at (closed_advance k (drop at xs) ∙ e ∙ drop_more xs next d within)

pub opens_begun : (k at next : ℕ) (xs : List Item) (d : Item) → closed (drop at xs) ≡ drop next xs → next < length xs → begins (get_or xs next d) ≡ true → (true, drop (next + 1) xs) ≡ opens (advance k (drop at xs))
opens_begun k at next xs d e within is = sym (opens_found k at next xs d e within ∙ rw is refl)

pub opens_refused : (k at next behind : ℕ) (xs : List Item) (d : Item) → closed (drop at xs) ≡ drop next xs → next < length xs → begins (get_or xs next d) ≡ false → closed (drop (next + 1) xs) ≡ drop behind xs
    → (false, drop behind xs) ≡ opens (advance k (drop at xs))
opens_refused k at next behind xs d e within is onward = sym (opens_found k at next xs d e within ∙ rw (is, onward) refl)

pub opens_none : (k at next : ℕ) (xs : List Item) → closed (drop at xs) ≡ drop next xs → length xs ≤ next → (false, drop next xs) ≡ opens (advance k (drop at xs))
opens_none k at next xs e end = ap (λ l. (false, l)) (drop_all next xs end) ∙ sym (ap opens_at (closed_advance k (drop at xs) ∙ e ∙ drop_all next xs end))

-- ---- The next item

pub next_later : (at k : ℕ) (xs : List Item) (d : Item) → at < length xs → is_used (played_to k (get_or xs at d)) ≡ true → next (advance k (drop at xs)) ≡ next (advance 0 (drop (at + 1) xs))
next_later at k xs d within is = ap (λ l. next (advance k l)) (drop_more xs at d within) ∙ rw is (ap next (sym (advance_none (drop (at + 1) xs))))

pub next_here : (at k : ℕ) (xs : List Item) (d : Item) → at < length xs → is_used (played_to k (get_or xs at d)) ≡ false → next (advance k (drop at xs)) ≡ advance k (drop at xs)
next_here at k xs d within is = rw (drop_more xs at d within, is) refl

pub next_end : (at k : ℕ) (xs : List Item) → length xs ≤ at → next (advance k (drop at xs)) ≡ advance k (drop at xs)
next_end at k xs end = rw (drop_all at xs end) refl

-- ---- What a receive hears

hears_some : (space k at : ℕ) (xs left : List Item) (d item : Item) → next left ≡ advance k (drop at xs) → at < length xs → get_or xs at d ≡ item → hears_of space (played_to k item) (drop (at + 1) xs) ≡ hears space left
hears_some space k at xs left d item e within is = ap (λ i. hears_of space (played_to k i) (drop (at + 1) xs)) (sym is) ∙ sym (ap (hears_at space) (e ∙ ap (advance k) (drop_more xs at d within)))

-- of bytes, so many are all
pub used_up : (k : ℕ) (bytes : List ℕ) → nat_le (length bytes) k ≡ is_empty (drop k bytes)
used_up zero [] = refl
used_up zero (b ∷ bytes) = lt-leb (length (b ∷ bytes)) 0 (omega arith)
used_up (suc k) [] = le-leb 0 (suc k) (omega arith)
used_up (suc k) (b ∷ bytes) = elim (cases_lt k (length bytes)) [ inl more ↦ lt-leb (length (b ∷ bytes)) (suc k) (omega (arith, more)) ∙ sym (lt-leb (length bytes) k more) ∙ used_up k bytes | inr less ↦ le-leb (length (b ∷ bytes)) (suc k) (omega (arith, less)) ∙ sym (le-leb (length bytes) k less) ∙ used_up k bytes ]

-- what isn't used up has something left
pub hear_left : (k n : ℕ) (bytes : List ℕ) (xs : List Item) (item : Item) → ((d : Item) → n < length xs → is_used (played_to k (get_or xs n d)) ≡ false) → n < length xs → item ≡ get_or xs n item → item ≡ items.Hear bytes
    → k < length bytes
hear_left k n bytes xs item unused within here is =
    let there : is_empty (drop k bytes) ≡ false = ap (λ i. is_used (played_to k i)) (sym is ∙ here) ∙ unused item within in
    elim (cases_lt k (length bytes)) [ inl more ↦ more | inr less ↦ absurd (cc (sym there ∙ sym (used_up k bytes) ∙ le-leb (length bytes) k less)) ]

none_left : (k count : ℕ) → count ≤ k → nat_eq (count - k) 0 ≡ true
none_left k count less = ap (λ m. nat_eq m 0) (none k count less)
  where
    none : (k count : ℕ) → count ≤ k → count - k ≡ 0
    none k count less = omega arith

pub quiet_left : (k n count : ℕ) (xs : List Item) (item : Item) → ((d : Item) → n < length xs → is_used (played_to k (get_or xs n d)) ≡ false) → n < length xs → item ≡ get_or xs n item → item ≡ items.Quiet count → k < count
quiet_left k n count xs item unused within here is =
    let there : nat_eq (count - k) 0 ≡ false = ap (λ i. is_used (played_to k i)) (sym is ∙ here) ∙ unused item within in
    elim (cases_lt k count) [ inl more ↦ more | inr less ↦ absurd (cc (sym there ∙ none_left k count less)) ]
