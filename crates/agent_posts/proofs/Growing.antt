-- A journal that grows, and what it tells in all.
use Rattle.std.proofs.Common.{◌≡◌, ℕ, suc, ◌+◌, ◌≤◌, List, [], ◌∷◌, ◌++◌, length, map, drop, reverse, refl, sym, ap, ◌∙◌, subst, arith, append_assoc, append-nil, length-append}
use Rattle.std.specs.List.{flat_map}
use Rattle.std.proofs.lemmas.List.{map-append, drop-append-le, length-drop, reverse-append}
use Rattle.agent_journal.specs.declared.entry.Entry.{Entry}
use Rattle.agent_journal.specs.Notes.{Note, told_by, noted, notes_by, notes_of}
use Rattle.task_queues.specs.declared.note.Note.{Note as TaskNote}
use Rattle.agent_posts.specs.declared.place.Place.{Place}
use Rattle.agent_posts.specs.Laws.{PostedAreNotes, GrowthIsPosted, NothingIsPosted}
use Rattle.agent_posts.specs.Waiting.{Placed, placed, told_in, told_from, waiting, IsPlaceIn}
use Rattle.agent_posts.specs.Mail.{said, AreTold, held_for}
use Rattle.agent_posts.proofs.Waiting.{from_start}

-- ---- Entries more

pub told_both : (t number : ℕ) (xs ys : List Entry) → told_in t number (xs ++ ys) ≡ told_in t number xs ++ told_in t (number + length xs) ys
told_both t number [] ys = ap (λ n. told_in t n ys) (omega arith)
told_both t number (e ∷ xs) ys =
    ap (λ rest. placed number (notes_by t e) ++ rest) (told_both t (number + 1) xs ys ∙ ap (λ n. told_in t (number + 1) xs ++ told_in t n ys) (omega arith))
    ∙ sym (append_assoc (placed number (notes_by t e)) (told_in t (number + 1) xs) (told_in t (number + suc (length xs)) ys))

from_both : (t number effects : ℕ) (xs ys : List Entry) → (length xs ≡ 0 → effects ≡ 0) → told_from t number effects (xs ++ ys) ≡ told_from t number effects xs ++ told_in t (number + length xs) ys
from_both t number effects [] ys none = ap (λ k. told_from t number k ys) (none refl) ∙ from_start t number ys ∙ ap (λ n. told_in t n ys) (omega arith)
from_both t number effects (e ∷ xs) ys none =
    let first = placed number (noted e.at (flat_map (told_by t) (drop effects e.effects))) in
    ap (λ rest. first ++ rest) (told_both t (number + 1) xs ys ∙ ap (λ n. told_in t (number + 1) xs ++ told_in t n ys) (omega arith))
    ∙ sym (append_assoc first (told_in t (number + 1) xs) (told_in t (number + suc (length xs)) ys))

length_left : {X : Type 0} (xs : List X) (k : ℕ) → k ≤ length xs → k + length (drop k xs) ≡ length xs
length_left xs k within = let rest = length-drop k xs in omega (arith, within, rest)

waiting_more : (t : ℕ) (entries more : List Entry) (place : Place) → IsPlaceIn entries place → waiting t (entries ++ more) place ≡ waiting t entries place ++ told_in t (length entries) more
waiting_more t entries more place is =
    let counted : place.entry + length (drop place.entry entries) ≡ length entries = length_left entries place.entry is.within in
    ap (λ es. told_from t place.entry place.effects es) (drop-append-le place.entry entries more is.within)
    ∙ from_both t place.entry place.effects (drop place.entry entries) more (λ none. is.at_end (omega (arith, counted, none)))
    ∙ ap (λ n. waiting t entries place ++ told_in t n more) counted

pub growth_is_posted : GrowthIsPosted
growth_is_posted entries more m h =
    record {
      place = let size = length-append entries more in let within = h.place.within in record {
        within = omega (arith, size, within);
        at_end = λ e. h.place.at_end (omega (arith, size, within, e));
      };
      made =
          λ t p there.
          let made = h.made t p there in
          record {
            before = made.before;
            in_order =
                told_both t 0 entries more ∙ ap (λ n. told_in t 0 entries ++ told_in t n more) (omega arith) ∙ ap (λ told. told ++ told_in t (length entries) more) made.in_order
                ∙ append_assoc made.before (waiting t entries m.place) (told_in t (length entries) more)
                ∙ ap (λ w. made.before ++ w) (sym (waiting_more t entries more m.place h.place));
            told = made.told;
          };
    }

pub nothing_is_posted : NothingIsPosted
nothing_is_posted putters none =
    record {
      place = record { within = omega arith; at_end = λ _. refl };
      made = λ t p there. record { before = []; in_order = refl; told = subst (λ put. AreTold [] (put ++ [])) (sym (none t p there)) tt };
    }

-- ---- All that a journal tells

abbrev note_of : Placed → Note
note_of p = p.note

placed_are : (number : ℕ) (notes : List Note) → map note_of (placed number notes) ≡ notes
placed_are number [] = refl
placed_are number (note ∷ notes) = ap (λ ns. note ∷ ns) (placed_are number notes)

told_are : (t number : ℕ) (entries : List Entry) → map note_of (told_in t number entries) ≡ flat_map (notes_by t) entries
told_are t number [] = refl
told_are t number (e ∷ entries) =
    map-append note_of (placed number (notes_by t e)) (told_in t (number + 1) entries)
    ∙ ap (λ ns. ns ++ map note_of (told_in t (number + 1) entries)) (placed_are number (notes_by t e))
    ∙ ap (λ ns. notes_by t e ++ ns) (told_are t (number + 1) entries)

notes_both : (t : ℕ) (xs ys : List Entry) → notes_of t (xs ++ ys) ≡ notes_of t ys ++ notes_of t xs
notes_both t [] ys = sym (append-nil (notes_of t ys))
notes_both t (e ∷ xs) ys = ap (λ ns. ns ++ notes_by t e) (notes_both t xs ys) ∙ append_assoc (notes_of t ys) (notes_of t xs) (notes_by t e)

in_order : (t : ℕ) (entries : List Entry) → flat_map (notes_by t) entries ≡ notes_of t (reverse entries)
in_order t [] = refl
in_order t (e ∷ entries) = ap (λ ns. notes_by t e ++ ns) (in_order t entries) ∙ sym (notes_both t (reverse entries) (e ∷ [])) ∙ ap (notes_of t) (sym (reverse-append (e ∷ []) entries))

said_are : (from : List Placed) (notes : List TaskNote) → AreTold from notes → map said notes ≡ map note_of from
said_are [] [] h = refl
said_are [] (note ∷ notes) h = absurd h
said_are (f ∷ from) [] h = absurd h
said_are (f ∷ from) (note ∷ notes) h = ap (λ s. s ∷ map said notes) h.0.says ∙ ap (λ ns. f.note ∷ ns) (said_are from notes h.1)

pub posted_are_notes : PostedAreNotes
posted_are_notes entries m t p h there =
    let made = h.made t p there in
    ap (λ ns. ns ++ map note_of (waiting t entries m.place)) (said_are made.before (p.put ++ held_for t m.next) made.told)
    ∙ sym (map-append note_of made.before (waiting t entries m.place)) ∙ ap (map note_of) (sym made.in_order) ∙ told_are t 0 entries ∙ in_order t entries
