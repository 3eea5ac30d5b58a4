-- One more of those that were gone through.
use Rattle.std.proofs.Common.{sym, ◌∙◌, ◌≡◌, ◌≤◌, ◌+◌, ℕ, Bool, true, false, List, [], ◌∷◌, ◌++◌, length, take, Some, None, refl, ap}
use native.Mathlib.Numerals.{unary_clauses}
use Rattle.std.specs.Prelude.{if◌then◌else◌}
use Rattle.std.specs.List.{flat_map, slice_get}
use Rattle.std.proofs.lemmas.List.{take_all, append_assoc, append-nil}
use Rattle.std.proofs.lemmas.Grind.{flat_map-append}
use Rattle.agent_journal.specs.declared.effect.Effect.{Effect}
use Rattle.agent_journal.specs.declared.effect.Effect.TheVariants as f
use Rattle.agent_table.specs.Effects.{closed_below}
use Rattle.session_resume.proofs.Loops.{taken_more, taken_none}

-- ---- What each element gives

module _ {X Y : Type 0} (f : X → List Y) (old : List Y) (xs : List X) where
  pub flat_more : (now new : List Y) (k : ℕ) (x : X) → slice_get xs k ≡ Some x → now ≡ old ++ flat_map f (take k xs) → new ≡ now ++ f x → new ≡ old ++ flat_map f (take (k + 1) xs)
  flat_more now new k x at so_far pushed =
      pushed ∙ ap (λ ys. ys ++ f x) so_far ∙ append_assoc old (flat_map f (take k xs)) (f x)
      ∙ ap (λ ys. old ++ ys) (sym (ap (flat_map f) (taken_more xs k x at) ∙ flat_map-append f (take k xs) (x ∷ []) ∙ ap (λ ys. flat_map f (take k xs) ++ ys) (append-nil (f x))))

  pub flat_none : (now : List Y) (k : ℕ) → slice_get xs k ≡ None → now ≡ old ++ flat_map f (take k xs) → now ≡ old ++ flat_map f (take (k + 1) xs)
  flat_none now k none so_far = so_far ∙ ap (λ ys. old ++ flat_map f ys) (taken_none xs k none)

  pub flat_end : (now : List Y) (k : ℕ) → length xs ≤ k → now ≡ old ++ flat_map f (take k xs) → now ≡ old ++ flat_map f xs
  flat_end now k past so_far = so_far ∙ ap (λ ys. old ++ flat_map f ys) (take_all k xs past)

-- ---- Closed

closed_step : (n : ℕ) (left : ℕ → Bool) → closed_below (n + 1) left ≡ closed_below n left ++ (if left n then [] else f.Closed n ∷ [])
closed_step n left = simp unary_clauses refl

otherwise : {X : Type 0} (b : Bool) (xs : List X) → b ≡ false → (if b then [] else xs) ≡ xs
otherwise true xs e = absurd (cc e)
otherwise false xs e = refl

none_if : {X : Type 0} (b : Bool) (xs : List X) → b ≡ true → (if b then [] else xs) ≡ []
none_if true xs e = refl
none_if false xs e = absurd (cc e)

pub closed_more : (old now new : List Effect) (n : ℕ) (left : ℕ → Bool) → left n ≡ false → now ≡ old ++ closed_below n left → new ≡ now ++ f.Closed n ∷ []
    → new ≡ old ++ closed_below (n + 1) left
closed_more old now new n left here so_far pushed =
    pushed ∙ ap (λ es. es ++ f.Closed n ∷ []) so_far ∙ append_assoc old (closed_below n left) (f.Closed n ∷ [])
    ∙ ap (λ es. old ++ es) (sym (closed_step n left ∙ ap (λ es. closed_below n left ++ es) (otherwise (left n) (f.Closed n ∷ []) here)))

pub closed_skips : (old now : List Effect) (n : ℕ) (left : ℕ → Bool) → left n ≡ true → now ≡ old ++ closed_below n left → now ≡ old ++ closed_below (n + 1) left
closed_skips old now n left gone so_far =
    so_far ∙ ap (λ es. old ++ es) (sym (closed_step n left ∙ ap (λ es. closed_below n left ++ es) (none_if (left n) (f.Closed n ∷ []) gone) ∙ append-nil (closed_below n left)))
