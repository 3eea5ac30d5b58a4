-- What is due is one of five causes.
use Rattle.std.proofs.Common.{◌≡◌, ◌⊎◌, ℕ, Bool, true, false, cond, Some, None, is_some, refl, sym, ap, ◌∙◌, subst, inl, inr}
use Rattle.agent_journal.specs.declared.entry.Cause.{Cause}
use Rattle.agent_journal.specs.declared.entry.Cause.TheVariants as c
use Rattle.agent_journal.specs.declared.entry.Why.TheVariants.{KeepAlive, InFull}
use Rattle.agent_journal.specs.declared.setup.Setup.{Setup}
use Rattle.agent_journal.specs.Wires.{is_opened}
use Rattle.agent_table.specs.Histories.{due_by}
use Rattle.agent_table.specs.Readings.{Readings}
use Rattle.agent_table.specs.Sizes.{Sizes}
use Rattle.agent_table.specs.Table.{row_of}
use Rattle.agent_ties.specs.Heard.{IsPlain}

pub none_of : (a b d e f : Bool) → cond a (Some c.Finish) (cond b (Some (c.Broke KeepAlive)) (cond d (Some c.Tick) (cond e (Some c.GaveUp) (cond f (Some (c.Broke InFull)) None)))) ≡ None → (a ≡ false) × (e ≡ false) × (f ≡ false)
none_of true b d e f h = absurd (cc h)
none_of false true d e f h = absurd (cc h)
none_of false false true e f h = absurd (cc h)
none_of false false false true f h = absurd (cc h)
none_of false false false false true h = absurd (cc h)
none_of false false false false false h = (refl, refl, refl)

abbrev pub IsDue : (Cause → Bool) → Cause → Type 0
IsDue found cause =
    ((cause ≡ c.Finish) × (found c.Finish ≡ true)) ⊎ (((cause ≡ c.Broke KeepAlive) × (found (c.Broke KeepAlive) ≡ true)) ⊎ (((cause ≡ c.Tick) × (found c.Tick ≡ true))
    ⊎ (((cause ≡ c.GaveUp) × (found c.GaveUp ≡ true)) ⊎ ((cause ≡ c.Broke InFull) × (found (c.Broke InFull) ≡ true)))))

pub one_of : (found : Cause → Bool) (a b d e f : Bool) (cause : Cause) → found c.Finish ≡ a → found (c.Broke KeepAlive) ≡ b → found c.Tick ≡ d → found c.GaveUp ≡ e → found (c.Broke InFull) ≡ f
    → cond a (Some c.Finish) (cond b (Some (c.Broke KeepAlive)) (cond d (Some c.Tick) (cond e (Some c.GaveUp) (cond f (Some (c.Broke InFull)) None)))) ≡ Some cause → IsDue found cause
one_of found true b d e f cause ea eb ed ee ef h = inl (cc h, ea)
one_of found false true d e f cause ea eb ed ee ef h = inr (inl (cc h, eb))
one_of found false false true e f cause ea eb ed ee ef h = inr (inr (inl (cc h, ed)))
one_of found false false false true f cause ea eb ed ee ef h = inr (inr (inr (inl (cc h, ee))))
one_of found false false false false true cause ea eb ed ee ef h = inr (inr (inr (inr (cc h, ef))))
one_of found false false false false false cause ea eb ed ee ef h = absurd (cc h)

pub due_plain : (found : Cause → Bool) (cause : Cause) → IsDue found cause → (is_opened cause ≡ false) × IsPlain cause
due_plain found cause (inl h) = subst (λ x. (is_opened x ≡ false) × IsPlain x) (sym h.0) (refl, (refl, refl))
due_plain found cause (inr (inl h)) = subst (λ x. (is_opened x ≡ false) × IsPlain x) (sym h.0) (refl, (refl, refl))
due_plain found cause (inr (inr (inl h))) = subst (λ x. (is_opened x ≡ false) × IsPlain x) (sym h.0) (refl, (refl, refl))
due_plain found cause (inr (inr (inr (inl h)))) = subst (λ x. (is_opened x ≡ false) × IsPlain x) (sym h.0) (refl, (refl, refl))
due_plain found cause (inr (inr (inr (inr h)))) = subst (λ x. (is_opened x ≡ false) × IsPlain x) (sym h.0) (refl, (refl, refl))

-- it has a row
due_there : (found : Cause → Bool) (cause : Cause) → IsDue found cause → found cause ≡ true
due_there found cause (inl h) = ap found h.0 ∙ h.1
due_there found cause (inr (inl h)) = ap found h.0 ∙ h.1
due_there found cause (inr (inr (inl h))) = ap found h.0 ∙ h.1
due_there found cause (inr (inr (inr (inl h)))) = ap found h.0 ∙ h.1
due_there found cause (inr (inr (inr (inr h)))) = ap found h.0 ∙ h.1

module _ (s : Setup) (l : Sizes) (r : Readings) (at : ℕ) where
  abbrev found : Cause → Bool
  found cause = is_some (row_of s l r at cause)

  pub due_is : (cause : Cause) → due_by s l r at ≡ Some cause → IsDue found cause
  due_is cause e =
      one_of found (found c.Finish) (found (c.Broke KeepAlive)) (found c.Tick) (found c.GaveUp) (found (c.Broke InFull)) cause refl refl refl refl refl e

  pub due_row : (cause : Cause) → due_by s l r at ≡ Some cause → is_some (row_of s l r at cause) ≡ true
  due_row cause e = due_there found cause (due_is cause e)

  -- where nothing is due, the agent doesn't give up
  pub none_gives_up : due_by s l r at ≡ None → is_some (row_of s l r at c.GaveUp) ≡ false
  none_gives_up e = (none_of (found c.Finish) (found (c.Broke KeepAlive)) (found c.Tick) (found c.GaveUp) (found (c.Broke InFull)) e).1
