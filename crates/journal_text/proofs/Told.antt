-- One more entry of a journal that is read from its front.
use Rattle.std.proofs.Common.{◌≡◌, ℕ, ◌+◌, ◌<◌, List, [], ◌∷◌, take, get_or, length, reverse, Option, sym, ap, ◌∙◌}
use Rattle.std.proofs.lemmas.List.{take_more, reverse-append}
use Rattle.agent_journal.specs.declared.ending.Ending.{Ending}
use Rattle.agent_journal.specs.declared.entry.Entry.{Entry}
use Rattle.agent_journal.specs.declared.setup.Phase.{Phase}
use Rattle.journal_text.specs.Statuses.{phase_told, phase_behind, told_by, ending_told, status_told, TellsStatus}
use Rattle.journal_text.proofs.Ends.{endings_are_told}

past_more : (entries : List Entry) (i : ℕ) (d : Entry) → i < length entries → reverse (take (i + 1) entries) ≡ get_or entries i d ∷ reverse (take i entries)
past_more entries i d within = ap reverse (take_more entries i d within) ∙ reverse-append (take i entries) (get_or entries i d ∷ [])

pub ending_more : (entries : List Entry) (i : ℕ) (d : Entry) (phase : Phase) (ending : Option Ending) → i < length entries → phase ≡ phase_told (reverse (take i entries)) → ending ≡ ending_told (reverse (take i entries))
    → told_by (get_or entries i d) phase ending ≡ ending_told (reverse (take (i + 1) entries))
ending_more entries i d phase ending within p e = (λ k. told_by (get_or entries i d) (p k) (e k)) ∙ sym (ap ending_told (past_more entries i d within))

pub phase_more : (entries : List Entry) (i : ℕ) (d : Entry) → i < length entries → phase_behind (get_or entries i d).cause ≡ phase_told (reverse (take (i + 1) entries))
phase_more entries i d within = sym (ap phase_told (past_more entries i d within))

pub tells_status : (journal : List Entry) (told : ℕ) → told ≡ status_told (ending_told (reverse journal)) → TellsStatus journal told
tells_status journal told e s l ending legal has = e ∙ ap status_told (endings_are_told s l (reverse journal) ending legal has)
