-- Entries that were made.
use Rattle.std.proofs.Common.{◌≡◌, ℕ, ◌≤◌, List, [], ◌∷◌, ◌++◌, reverse, true, Option, Some, None, is_some, refl, sym, ap, ◌∙◌}
use Rattle.std.specs.List.{AllByRecursion}
use Rattle.std.proofs.lemmas.List.{reverse-append}
use Rattle.agent_journal.specs.declared.entry.Cause.{Cause}
use Rattle.agent_journal.specs.declared.entry.Entry.{Entry}
use Rattle.agent_journal.specs.declared.effect.Effect.{Effect}
use Rattle.agent_journal.specs.Sound.{IsSoundEffect}
use Rattle.agent_journal.specs.Setups.{is_client}
use Rattle.agent_journal.specs.declared.setup.Phase.TheVariants.{Down}
use Rattle.agent_journal.specs.Readings.{last_time_of, breaks_of}
use Rattle.agent_table.specs.Histories.{row, effects_of, readings, IsLegalPast}
use Rattle.agent_table.specs.Rows.{Row}
use Rattle.agent_core.specs.Kept.{Kept, row_now}
use Rattle.agent_core.specs.Stands.{StandsFor}
use Rattle.agent_core.proofs.Standing.{rows_are_same}
use Rattle.agent_journal.specs.Sound.{IsSoundEntry}
use Rattle.agent_table.proofs.BreaksFew.{breaks_are_few}
use Rattle.agent_table.proofs.SoundPasts.{packets_are_sound}
use Rattle.agent_ties.proofs.Dues.{none_gives_up}
use Rattle.agent_ties.proofs.Present.{opens_few}
use Rattle.agent_ties.specs.Seen.{entry, fresh}
use Rattle.agent_line.specs.Recorded.{Recorded, phase_in, due_in, Makes, newest_effects}
use Rattle.agent_line.specs.Told.{seen_in}

pub reversed : (entries new : List Entry) (e : Entry) → new ≡ entries ++ e ∷ [] → reverse new ≡ e ∷ reverse entries
reversed entries new e is = ap reverse is ∙ reverse-append entries (e ∷ [])

-- the core has the row that its journal has
pub row_kept : (core : Kept) (past : List Entry) (at : ℕ) (cause : Cause) → StandsFor core past → is_some (row core.setup core.sizes past at cause) ≡ true → is_some (row_now core at cause) ≡ true
row_kept core past at cause stands e = ap is_some (rows_are_same core past at cause stands) ∙ e

-- the entry of a step is the table's
pub row_of_step : (core : Kept) (past : List Entry) (at : ℕ) (cause : Cause) (effects : List Effect) → StandsFor core past → effects_of (row_now core at cause) ≡ Some effects
    → (found : Row) × (row core.setup core.sizes past at cause ≡ Some found) × (found.effects ≡ effects)
row_of_step core past at cause effects stands e = by (row core.setup core.sizes past at cause) refl (ap effects_of (sym (rows_are_same core past at cause stands)) ∙ e)
  where
    by : (r : Option Row) → row core.setup core.sizes past at cause ≡ r → effects_of r ≡ Some effects → (found : Row) × (row core.setup core.sizes past at cause ≡ Some found) × (found.effects ≡ effects)
    by None is h = absurd (cc h)
    by (Some found) is h = (found, is, cc h)

pub makes : (core new : Kept) (entries more : List Entry) (at : ℕ) (cause : Cause) (e : Entry) → StandsFor core (reverse entries) → effects_of (row_now core at cause) ≡ Some e.effects → e.at ≡ at → e.cause ≡ cause
    → more ≡ entries ++ e ∷ [] → new.setup ≡ core.setup → new.sizes ≡ core.sizes
    → Makes (record { setup = core.setup; sizes = core.sizes; past = reverse entries }) at cause (record { setup = new.setup; sizes = new.sizes; past = reverse more })
makes core new entries more at cause e stands effects time is grown setup sizes =
    let found = row_of_step core (reverse entries) at cause e.effects stands effects in
    let made : e ≡ entry at cause found.0 = λ i. record { at = time i; cause = is i; effects = sym found.2 i } in
    record {
      found = found.0;
      is = found.1;
      newest = λ i. record { setup = setup i; sizes = sizes i; past = (reversed entries more e grown ∙ ap (λ x. x ∷ reverse entries) made) i };
    }

-- the packets of the newest entry have a spelling
sound_of : (past : List Entry) → AllByRecursion IsSoundEntry past → AllByRecursion IsSoundEffect (newest_effects past)
sound_of [] h = tt
sound_of (e ∷ past) h = h.0.effects

pub newest_sound : (core : Kept) (past : List Entry) → StandsFor core past → is_client core.setup.client ≡ true → AllByRecursion IsSoundEffect (newest_effects past)
newest_sound core past stands client = sound_of past (packets_are_sound core.setup core.sizes past client stands.legal)

pub newest_is : (before entries : List Entry) (e : Entry) → entries ≡ before ++ e ∷ [] → e.effects ≡ newest_effects (reverse entries)
newest_is before entries e is = ap newest_effects (sym (reversed before entries e is))

-- Where nothing is due in Down, another opening may fail.
pub stays_few : (r : Recorded) → IsLegalPast r.setup r.sizes r.past → (at : ℕ) → last_time_of r.past ≤ at → due_in r at ≡ None → phase_in r ≡ Down → breaks_of r.past ≤ r.setup.reopen
stays_few r legal at time none down =
    opens_few at (seen_in r fresh [] []) time (none_gives_up r.setup r.sizes (readings r.setup r.sizes r.past) at none) down (breaks_are_few r.setup r.sizes r.past legal)
