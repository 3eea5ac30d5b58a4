-- A connection that goes has a row.
use Rattle.std.proofs.Common.{◌≡◌, ℕ, ◌≤◌, true, is_some, refl, ap, ◌∙◌}
use Rattle.agent_journal.specs.Readings.{last_time_of, breaks_of}
use Rattle.agent_journal.specs.declared.entry.Cause.TheVariants as c
use Rattle.agent_journal.specs.declared.entry.Why.TheVariants as why
use Rattle.agent_journal.specs.declared.setup.Phase.{Phase}
use Rattle.agent_journal.specs.declared.setup.Phase.TheVariants.{Down, Opening, Up, Spilled, Off}
use Rattle.agent_table.specs.Breaks.{fault_row, end_row}
use Rattle.agent_table.specs.Histories.{readings}
use Rattle.agent_table.specs.Readings.{Readings}
use Rattle.agent_table.specs.Ties.{listens}
use Rattle.agent_ties.proofs.Rows.{timely, fault_there}
use Rattle.agent_line.specs.Recorded.{Recorded, phase_in, row_in}

module _ (r : Recorded) (at : ℕ) (time : last_time_of r.past ≤ at) where
  abbrev now : Readings
  now = readings r.setup r.sizes r.past

  pub end_goes : listens (phase_in r) ≡ true → is_some (row_in r at (c.Broke why.End)) ≡ true
  unfolding end_row
  end_goes on = ap is_some (timely r.setup r.sizes now at (c.Broke why.End) time) ∙ by (phase_in r) on
    where
      by : (p : Phase) → listens p ≡ true → is_some (end_row now p) ≡ true
      by Down e = absurd (cc e)
      by Opening e = refl
      by Up e = refl
      by Spilled e = absurd (cc e)
      by Off e = absurd (cc e)

  pub fault_goes : listens (phase_in r) ≡ true → is_some (row_in r at (c.Broke why.Fault)) ≡ true
  unfolding fault_row
  fault_goes on = ap is_some (timely r.setup r.sizes now at (c.Broke why.Fault) time) ∙ by (phase_in r) on
    where
      by : (p : Phase) → listens p ≡ true → is_some (fault_row r.setup now p) ≡ true
      by Down e = absurd (cc e)
      by Opening e = refl
      by Up e = refl
      by Spilled e = absurd (cc e)
      by Off e = absurd (cc e)

  pub fault_stays : phase_in r ≡ Down → breaks_of r.past ≤ r.setup.reopen → is_some (row_in r at (c.Broke why.Fault)) ≡ true
  fault_stays down few = ap is_some (fault_there r.setup r.sizes now at time (breaks_of r.past) down refl few)
