-- Counts over the entries so far.
use Rattle.std.proofs.Common.{◌≡◌, ℕ, ◌+◌, ◌≤◌, ◌<◌, Bool, List, [], ◌∷◌, ◌++◌, length, take, get_or, sym, ap, ◌∙◌}
use Rattle.std.specs.Prelude.{count_by}
use Rattle.std.specs.List.{flat_map}
use Rattle.std.proofs.lemmas.List.{take_more, take_all, flat_map_more}
use Rattle.agent_journal.specs.declared.entry.Entry.{Entry}
use Rattle.agent_table.proofs.Counts.{count_append}
use Rattle.thing_script.specs.Kinds.{count_passed, passes}

counted_more : (t : ℕ) (test : List ℕ → Bool) (front : List Entry) (e : Entry) → count_passed t test (front ++ e ∷ []) ≡ count_passed t test front + count_by (passes t test) e.effects
counted_more t test front e =
    ap (count_by (passes t test)) (sym (flat_map_more (λ entry. entry.effects) [] front e)) ∙ count_append (passes t test) (flat_map (λ entry. entry.effects) front) e.effects

pub one_more : (t : ℕ) (test : List ℕ → Bool) (journal : List Entry) (i count : ℕ) (e : Entry) → i < length journal → e ≡ get_or journal i e → count ≡ count_passed t test (take i journal)
    → count + count_by (passes t test) e.effects ≡ count_passed t test (take (i + 1) journal)
one_more t test journal i count e within is h =
    ap (λ n. n + count_by (passes t test) e.effects) h ∙ sym (counted_more t test (take i journal) e)
    ∙ ap (count_passed t test) (sym (take_more journal i e within ∙ ap (λ x. take i journal ++ x ∷ []) (sym is)))

pub all_counted : (t : ℕ) (test : List ℕ → Bool) (journal : List Entry) (i count : ℕ) → length journal ≤ i → count ≡ count_passed t test (take i journal) → count ≡ count_passed t test journal
all_counted t test journal i count end h = h ∙ ap (count_passed t test) (take_all i journal end)
