-- Passes to the tasks that are reached.
use Rattle.std.proofs.Common.{◌≡◌, ℕ, zero, suc, ◌+◌, ◌-◌, ◌<◌, ◌≤◌, Bool, true, false, List, [], ◌∷◌, ◌++◌, refl, ap, sym, ◌∙◌, arith}
use Rattle.std.specs.Prelude.{if◌then◌else◌}
use Rattle.std.proofs.lemmas.List.{append_assoc, append-nil}
use Rattle.agent_journal.specs.declared.effect.Effect.{Effect}
use Rattle.agent_journal.specs.declared.effect.Effect.TheVariants as f
use Rattle.agent_journal.specs.declared.message.Message.{Message}
use Rattle.agent_table.specs.Effects.{passed_below, is_reached}
use Rattle.agent_table.specs.Readings.{Readings}

module _ (r : Readings) (message : Message) where
  abbrev reached : ℕ → Bool
  reached = is_reached r message.topic

  none_if : {X : Type 0} (b : Bool) (xs : List X) → b ≡ false → (if b then xs else []) ≡ []
  none_if true xs e = absurd (cc e)
  none_if false xs e = refl

  some_if : {X : Type 0} (b : Bool) (xs : List X) → b ≡ true → (if b then xs else []) ≡ xs
  some_if true xs e = refl
  some_if false xs e = absurd (cc e)

  step : (n : ℕ) → passed_below (suc n) r message ≡ passed_below n r message ++ (if reached n then f.Pass n message ∷ [] else [])
  step n = refl

  -- where none is reached from a number on
  pub none_between : (k from : ℕ) → ((task : ℕ) → from ≤ task → task < from + k → reached task ≡ false) → passed_below (from + k) r message ≡ passed_below from r message
  none_between zero from none = ap (λ n. passed_below n r message) (plus_zero from)
    where
      plus_zero : (n : ℕ) → n + 0 ≡ n
      plus_zero n = omega arith
  none_between (suc k) from none =
      ap (λ n. passed_below n r message) (plus_suc from k) ∙ step (from + k) ∙ ap (λ es. passed_below (from + k) r message ++ es) (none_if (reached (from + k)) (f.Pass (from + k) message ∷ []) (none (from + k) (omega arith) (omega arith)))
      ∙ append-nil (passed_below (from + k) r message) ∙ none_between k from (λ task low high. none task low (omega arith))
    where
      plus_suc : (n k : ℕ) → n + suc k ≡ suc (n + k)
      plus_suc n k = omega arith

  pub none_until : (from below : ℕ) → from ≤ below → ((task : ℕ) → from ≤ task → task < below → reached task ≡ false) → passed_below below r message ≡ passed_below from r message
  none_until from below low none =
      let is : from + (below - from) ≡ below = omega arith in
      ap (λ n. passed_below n r message) (sym is) ∙ none_between (below - from) from (λ task a b. none task a (omega (arith, is)))

  -- behind the next one that is reached
  pub passed_more : (old now new : List Effect) (from next : ℕ) → from ≤ next → reached next ≡ true → ((task : ℕ) → from ≤ task → task < next → reached task ≡ false)
      → now ≡ old ++ passed_below from r message → new ≡ now ++ f.Pass next message ∷ [] → new ≡ old ++ passed_below (next + 1) r message
  passed_more old now new from next low here none so_far pushed =
      pushed ∙ ap (λ es. es ++ f.Pass next message ∷ []) (so_far ∙ ap (λ es. old ++ es) (sym (none_until from next low none))) ∙ append_assoc old (passed_below next r message) (f.Pass next message ∷ [])
      ∙ ap (λ es. old ++ es) (sym (ap (λ n. passed_below n r message) (plus_one next) ∙ step next ∙ ap (λ es. passed_below next r message ++ es) (some_if (reached next) (f.Pass next message ∷ []) here)))
    where
      plus_one : (n : ℕ) → n + 1 ≡ suc n
      plus_one n = omega arith

  pub passed_end : (old now : List Effect) (from below : ℕ) → from ≤ below → ((task : ℕ) → from ≤ task → task < below → reached task ≡ false) → now ≡ old ++ passed_below from r message → now ≡ old ++ passed_below below r message
  passed_end old now from below low none so_far = so_far ∙ ap (λ es. old ++ es) (sym (none_until from below low none))
