-- A row in time.
use Rattle.std.proofs.Common.{◌≡◌, ℕ, ◌<◌, ◌≤◌, Bool, true, false, List, Option, Some, None, is_some, refl, sym, ap, ◌∙◌}
use Rattle.std.specs.Prelude.{nat_le}
use Rattle.std.proofs.lemmas.Bool.{le-leb, lt-leb}
use Rattle.agent_journal.specs.declared.entry.Cause.{Cause}
use Rattle.agent_journal.specs.declared.entry.Cause.TheVariants as c
use Rattle.agent_journal.specs.declared.entry.Why.TheVariants.{KeepAlive, InFull}
use Rattle.agent_journal.specs.declared.effect.Effect.{Effect}
use Rattle.agent_journal.specs.declared.setup.Setup.{Setup}
use Rattle.agent_table.specs.Histories.{effects_of, phase_by, due_by}
use Rattle.agent_table.specs.Readings.{Readings}
use Rattle.agent_table.specs.Rows.{Row, when}
use Rattle.agent_table.specs.Sizes.{Sizes}
use Rattle.agent_table.specs.Table.{row_of, cause_row}
use Rattle.agent_core.specs.After.{after}
use Rattle.agent_core.specs.Kept.{Kept}
use Rattle.agent_core.proofs.Breaks.{is_when, some_when}

module _ (s : Setup) (l : Sizes) (r : Readings) where
  pub timely : (at : ℕ) (cause : Cause) (may : Bool) → r.last_time ≤ at → may ≡ is_some (cause_row s l r at cause) → may ≡ is_some (row_of s l r at cause)
  unfolding row_of
  timely at cause may h e = e ∙ sym (ap (λ b. is_some (when b (cause_row s l r at cause))) (le-leb r.last_time at h))

  pub late : (at : ℕ) (cause : Cause) → at < r.last_time → false ≡ is_some (row_of s l r at cause)
  unfolding row_of
  late at cause h = sym (ap (λ b. is_some (when b (cause_row s l r at cause))) (lt-leb r.last_time at h))

  pub row_in_time : (at : ℕ) (cause : Cause) → is_some (row_of s l r at cause) ≡ true → is_some (cause_row s l r at cause) ≡ true
  unfolding row_of
  row_in_time at cause some = (some_when (nat_le r.last_time at) (cause_row s l r at cause) some).1

  pub same_in_time : (at : ℕ) (cause : Cause) → is_some (row_of s l r at cause) ≡ true → row_of s l r at cause ≡ cause_row s l r at cause
  unfolding row_of
  same_in_time at cause some = is_when (nat_le r.last_time at) (cause_row s l r at cause) some

  pub effects_in_time : (at : ℕ) (cause : Cause) (effects : List Effect) → is_some (row_of s l r at cause) ≡ true → effects_of (cause_row s l r at cause) ≡ Some effects → effects_of (row_of s l r at cause) ≡ Some effects
  effects_in_time at cause effects some e = ap effects_of (same_in_time at cause some) ∙ e

  pub after_in_time : (at : ℕ) (cause : Cause) (effects : List Effect) (k next : Kept) → is_some (row_of s l r at cause) ≡ true → next ≡ after k at cause effects (phase_by (cause_row s l r at cause) k.phase)
      → next ≡ after k at cause effects (phase_by (row_of s l r at cause) k.phase)
  after_in_time at cause effects k next some e = e ∙ ap (λ (row : Option Row). after k at cause effects (phase_by row k.phase)) (sym (same_in_time at cause some))

  -- ---- What is due

  pub due_finish : (now : ℕ) (a : Bool) → a ≡ true → a ≡ is_some (row_of s l r now c.Finish) → Some c.Finish ≡ due_by s l r now
  due_finish now a is ea = rw (sym ea ∙ is) refl

  pub due_keep_alive : (now : ℕ) (a b : Bool) → a ≡ false → a ≡ is_some (row_of s l r now c.Finish) → b ≡ true → b ≡ is_some (row_of s l r now (c.Broke KeepAlive)) → Some (c.Broke KeepAlive) ≡ due_by s l r now
  due_keep_alive now a b not_a ea is eb = rw (sym ea ∙ not_a, sym eb ∙ is) refl

  pub due_tick : (now : ℕ) (a b d : Bool) → a ≡ false → a ≡ is_some (row_of s l r now c.Finish) → b ≡ false → b ≡ is_some (row_of s l r now (c.Broke KeepAlive)) → d ≡ true → d ≡ is_some (row_of s l r now c.Tick)
      → Some c.Tick ≡ due_by s l r now
  due_tick now a b d not_a ea nob eb is ed = rw (sym ea ∙ not_a, sym eb ∙ nob, sym ed ∙ is) refl

  pub due_gave_up : (now : ℕ) (a b d e : Bool) → a ≡ false → a ≡ is_some (row_of s l r now c.Finish) → b ≡ false → b ≡ is_some (row_of s l r now (c.Broke KeepAlive)) → d ≡ false → d ≡ is_some (row_of s l r now c.Tick)
      → e ≡ true → e ≡ is_some (row_of s l r now c.GaveUp) → Some c.GaveUp ≡ due_by s l r now
  due_gave_up now a b d e not_a ea nob eb nod ed is ee = rw (sym ea ∙ not_a, sym eb ∙ nob, sym ed ∙ nod, sym ee ∙ is) refl

  pub due_in_full : (now : ℕ) (a b d e f : Bool) → a ≡ false → a ≡ is_some (row_of s l r now c.Finish) → b ≡ false → b ≡ is_some (row_of s l r now (c.Broke KeepAlive)) → d ≡ false → d ≡ is_some (row_of s l r now c.Tick)
      → e ≡ false → e ≡ is_some (row_of s l r now c.GaveUp) → f ≡ true → f ≡ is_some (row_of s l r now (c.Broke InFull)) → Some (c.Broke InFull) ≡ due_by s l r now
  due_in_full now a b d e f not_a ea nob eb nod ed noe ee is ef = rw (sym ea ∙ not_a, sym eb ∙ nob, sym ed ∙ nod, sym ee ∙ noe, sym ef ∙ is) refl

  pub due_none : (now : ℕ) (a b d e f : Bool) → a ≡ false → a ≡ is_some (row_of s l r now c.Finish) → b ≡ false → b ≡ is_some (row_of s l r now (c.Broke KeepAlive)) → d ≡ false → d ≡ is_some (row_of s l r now c.Tick)
      → e ≡ false → e ≡ is_some (row_of s l r now c.GaveUp) → f ≡ false → f ≡ is_some (row_of s l r now (c.Broke InFull)) → None ≡ due_by s l r now
  due_none now a b d e f not_a ea nob eb nod ed noe ee nof ef = rw (sym ea ∙ not_a, sym eb ∙ nob, sym ed ∙ nod, sym ee ∙ noe, sym ef ∙ nof) refl
