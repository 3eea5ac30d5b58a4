-- Steps of the loop that reads a tape line by line.
use Rattle.std.proofs.Common.{◌≡◌, ℕ, ◌+◌, ◌≤◌, List, [], ◌∷◌, ◌++◌, length, drop, Some, None, Result, Ok, Err, true, false, refl, sym, ap, ◌∙◌, append_assoc, append-nil}
use Rattle.std.proofs.lemmas.List.{drop_all}
use Rattle.plain_text.specs.Lines.{lines_of, is_passed}
use Rattle.broker_tape.specs.declared.tape.Item.{Item}
use Rattle.broker_tape.specs.declared.tape.Place.{Place}
use Rattle.broker_tape.specs.Tape.{tape_from, item_in, place_behind, onto_items}

-- the items that were read, and behind them those of the rest
abbrev pub behind : List Item → Result (List Item) ℕ → Result (List Item) ℕ
behind items (Ok rest) = Ok (items ++ rest)
behind items (Err n) = Err n

behind_onto : (items : List Item) (item : Item) (rest : Result (List Item) ℕ) → behind (items ++ item ∷ []) rest ≡ behind items (onto_items item rest)
behind_onto items item (Ok rest) = ap Ok (append_assoc items (item ∷ []) rest)
behind_onto items item (Err n) = refl

of_passed : (place : Place) (n : ℕ) (line : List ℕ) (lines : List (List ℕ)) → is_passed line ≡ true → tape_from place n (line ∷ lines) ≡ tape_from place (n + 1) lines
unfolding tape_from
of_passed place n line lines passed = rw passed refl

of_read : (place : Place) (n : ℕ) (line : List ℕ) (lines : List (List ℕ)) (item : Item) → is_passed line ≡ false → item_in place line ≡ Some item
    → tape_from place n (line ∷ lines) ≡ onto_items item (tape_from (place_behind item) (n + 1) lines)
unfolding tape_from
of_read place n line lines item passed read = rw (passed, read) refl

of_refused : (place : Place) (n : ℕ) (line : List ℕ) (lines : List (List ℕ)) → is_passed line ≡ false → item_in place line ≡ None → tape_from place n (line ∷ lines) ≡ Err n
unfolding tape_from
of_refused place n line lines passed read = rw (passed, read) refl

of_end : (place : Place) (n : ℕ) (rest : List ℕ) → rest ≡ [] → tape_from place n (lines_of rest) ≡ Ok []
unfolding tape_from lines_of
of_end place n rest e = ap (λ r. tape_from place n (lines_of r)) e

pub line_passed : (items : List Item) (place : Place) (n : ℕ) (rest next line : List ℕ) (all : Result (List Item) ℕ) → behind items (tape_from place n (lines_of rest)) ≡ all
    → lines_of rest ≡ line ∷ lines_of next → is_passed line ≡ true → behind items (tape_from place (n + 1) (lines_of next)) ≡ all
line_passed items place n rest next line all h lines passed =
    ap (behind items) (sym (of_passed place n line (lines_of next) passed)) ∙ ap (λ ls. behind items (tape_from place n ls)) (sym lines) ∙ h

pub line_read : (items : List Item) (item : Item) (place : Place) (n : ℕ) (rest next line : List ℕ) (all : Result (List Item) ℕ) → behind items (tape_from place n (lines_of rest)) ≡ all
    → lines_of rest ≡ line ∷ lines_of next → is_passed line ≡ false → item_in place line ≡ Some item
    → behind (items ++ item ∷ []) (tape_from (place_behind item) (n + 1) (lines_of next)) ≡ all
line_read items item place n rest next line all h lines passed read =
    behind_onto items item (tape_from (place_behind item) (n + 1) (lines_of next)) ∙ ap (behind items) (sym (of_read place n line (lines_of next) item passed read))
    ∙ ap (λ ls. behind items (tape_from place n ls)) (sym lines) ∙ h

pub line_refused : (items : List Item) (place : Place) (n : ℕ) (rest next line : List ℕ) (all : Result (List Item) ℕ) → behind items (tape_from place n (lines_of rest)) ≡ all
    → lines_of rest ≡ line ∷ lines_of next → is_passed line ≡ false → item_in place line ≡ None → all ≡ Err n
line_refused items place n rest next line all h lines passed read =
    sym h ∙ ap (λ ls. behind items (tape_from place n ls)) lines ∙ ap (behind items) (of_refused place n line (lines_of next) passed read)

pub tape_end : (items : List Item) (place : Place) (n at : ℕ) (text : List ℕ) (all : Result (List Item) ℕ) → behind items (tape_from place n (lines_of (drop at text))) ≡ all → length text ≤ at → all ≡ Ok items
tape_end items place n at text all h end = sym h ∙ ap (behind items) (of_end place n (drop at text) (drop_all at text end)) ∙ ap Ok (append-nil items)
