-- Counts over the entries so far.
use Rattle.std.proofs.Common.{◌≡◌, ℕ, ◌+◌, ◌<◌, ◌≤◌, List, [], ◌∷◌, ◌++◌, length, take, get_or, reverse, refl, sym, ap, ◌∙◌}
use Rattle.std.specs.Prelude.{count_by}
use Rattle.std.proofs.lemmas.List.{take_more, take_all, reverse-append}
use Rattle.agent_journal.specs.declared.entry.Entry.{Entry}
use Rattle.agent_journal.specs.Projections.{commands_of, commands_by, completed_of, is_done}

module _ (count : List Entry → ℕ) (one : Entry → ℕ) (next : (e : Entry) (past : List Entry) → count (e ∷ past) ≡ count past + one e) where
  on : (journal : List Entry) (i n : ℕ) (e : Entry) → i < length journal → e ≡ get_or journal i e → n ≡ count (reverse (take i journal)) → n + one e ≡ count (reverse (take (i + 1) journal))
  on journal i n e within is h =
      ap (λ m. m + one e) h ∙ sym (next e (reverse (take i journal)))
      ∙ ap count (sym (ap reverse (take_more journal i e within ∙ ap (λ x. take i journal ++ x ∷ []) (sym is)) ∙ reverse-append (take i journal) (e ∷ [])))

  all : (journal : List Entry) (i n : ℕ) → length journal ≤ i → n ≡ count (reverse (take i journal)) → n ≡ count (reverse journal)
  all journal i n end h = h ∙ ap (λ l. count (reverse l)) (take_all i journal end)

pub commands_on : (journal : List Entry) (i n : ℕ) (e : Entry) → i < length journal → e ≡ get_or journal i e → n ≡ commands_of 0 (reverse (take i journal)) → n + commands_by 0 e.cause ≡ commands_of 0 (reverse (take (i + 1) journal))
commands_on = on (commands_of 0) (λ e. commands_by 0 e.cause) (λ e past. refl)

pub commands_all : (journal : List Entry) (i n : ℕ) → length journal ≤ i → n ≡ commands_of 0 (reverse (take i journal)) → n ≡ commands_of 0 (reverse journal)
commands_all = all (commands_of 0) (λ e. commands_by 0 e.cause) (λ e past. refl)

pub completed_on : (journal : List Entry) (i n : ℕ) (e : Entry) → i < length journal → e ≡ get_or journal i e → n ≡ completed_of 0 (reverse (take i journal)) → n + count_by (is_done 0) e.effects ≡ completed_of 0 (reverse (take (i + 1) journal))
completed_on = on (completed_of 0) (λ e. count_by (is_done 0) e.effects) (λ e past. refl)

pub completed_all : (journal : List Entry) (i n : ℕ) → length journal ≤ i → n ≡ completed_of 0 (reverse (take i journal)) → n ≡ completed_of 0 (reverse journal)
completed_all = all (completed_of 0) (λ e. count_by (is_done 0) e.effects) (λ e past. refl)
