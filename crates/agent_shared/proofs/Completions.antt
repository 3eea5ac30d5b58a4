-- How often a task is told that a command was completed.
use Rattle.std.proofs.Common.{◌≡◌, ℕ, ◌+◌, Bool, true, false, cond, List, [], ◌∷◌, ◌++◌, map, refl, sym, ap, ◌∙◌, arith, eq-eqb, ne_eqb}
use Rattle.std.specs.Prelude.{◌==◌, ◌&&◌, count_by}
use Rattle.std.specs.List.{flat_map}
use Rattle.std.proofs.lemmas.Bool.{cases_eq}
use mathlib.Core.Logic.{inl, inr}
use Rattle.agent_journal.specs.declared.outcome.Outcome.{Outcome}
use Rattle.agent_journal.specs.declared.effect.Effect.{Effect}
use Rattle.agent_journal.specs.declared.effect.Effect.TheVariants as f
use Rattle.agent_journal.specs.declared.entry.Entry.{Entry}
use Rattle.agent_journal.specs.Readings.{completes}
use Rattle.agent_journal.specs.Projections.{completions_of}
use Rattle.agent_journal.specs.Notes.{done_by, dones_of}
use Rattle.agent_table.proofs.Counts.{count_more}
use Rattle.command_pool.specs.Hands.{times}

-- the numbers of completed commands
abbrev pub seqs : List (ℕ × Outcome) → List ℕ
seqs dones = map (λ done. done.0) dones

either_way : (x y : ℕ) → (x == y) ≡ (y == x)
either_way x y = elim (cases_eq x y) [
  | inl e ↦ eq-eqb x y e ∙ sym (eq-eqb y x (sym e))
  | inr n ↦ ne_eqb x y n ∙ sym (ne_eqb y x (λ e. n (sym e)))
]

pub both_times : (x : ℕ) (a b : List (ℕ × Outcome)) → times x (seqs (a ++ b)) ≡ times x (seqs a) + times x (seqs b)
both_times x [] b = omega arith
both_times x (done ∷ a) b = let rest = both_times x a b in omega (arith, rest)

module _ (t q : ℕ) where
  first : (effect : Effect) (rest : List (ℕ × Outcome)) → times q (seqs (done_by t effect ++ rest)) ≡ cond (completes t q effect) 1 0 + times q (seqs rest)
  first (f.Send packet) rest = omega arith
  first (f.Done task seq outcome) rest = go (t == task) (task == t) (either_way t task)
    where
      go : (b mine : Bool) → b ≡ mine → times q (seqs (cond b ((seq, outcome) ∷ []) [] ++ rest)) ≡ cond (mine && (seq == q)) 1 0 + times q (seqs rest)
      go true true is = ap (λ b. cond b 1 0 + times q (seqs rest)) (either_way q seq)
      go true false is = absurd (cc is)
      go false true is = absurd (cc is)
      go false false is = omega arith
  first (f.Pass task message) rest = omega arith
  first (f.Closed task) rest = omega arith

  -- of an entry's effects
  pub done_times : (effects : List Effect) → times q (seqs (flat_map (done_by t) effects)) ≡ count_by (completes t q) effects
  done_times [] = refl
  done_times (effect ∷ effects) =
      first effect (flat_map (done_by t) effects) ∙ ap (λ n. cond (completes t q effect) 1 0 + n) (done_times effects) ∙ sym (count_more (completes t q) effect effects)

  -- of a journal
  pub completed_times : (past : List Entry) → times q (seqs (dones_of t past)) ≡ completions_of t q past
  completed_times [] = refl
  completed_times (e ∷ past) =
      both_times q (dones_of t past) (flat_map (done_by t) e.effects) ∙ ap (λ n. n + times q (seqs (flat_map (done_by t) e.effects))) (completed_times past)
      ∙ ap (λ n. completions_of t q past + n) (done_times e.effects)
