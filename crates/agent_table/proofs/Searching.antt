-- The search of the next identifier, as a loop goes through it.
use Rattle.std.proofs.Common.{◌≡◌, ℕ, zero, suc, ◌+◌, ◌-◌, ◌<◌, ◌≤◌, true, false, List, length, refl, ap, sym, ◌∙◌, arith}
use Rattle.agent_table.specs.Deliveries.{is_among}
use Rattle.agent_table.specs.Identifiers.{behind, first_free, fresh}

pub at_start : (last n : ℕ) (used : List ℕ) → n ≡ length used → first_free (n - 0) (behind last) used ≡ fresh last used
unfolding fresh
at_start last n used e = ap (λ k. first_free k (behind last) used) (fuel n (length used) e)
  where
    fuel : (n m : ℕ) → n ≡ m → n - 0 ≡ m
    fuel n m e = omega arith

found_at : (fuel id : ℕ) (used : List ℕ) → is_among used id ≡ false → id ≡ first_free fuel id used
found_at zero id used free = refl
found_at (suc fuel) id used free = rw free refl

pub found : (fuel id goal : ℕ) (used : List ℕ) → is_among used id ≡ false → first_free fuel id used ≡ goal → id ≡ goal
found fuel id goal used free e = found_at fuel id used free ∙ e

passed_at : (fuel id : ℕ) (used : List ℕ) → is_among used id ≡ true → first_free (suc fuel) id used ≡ first_free fuel (behind id) used
passed_at fuel id used taken = rw taken refl

pub passed : (n k id goal : ℕ) (used : List ℕ) → k < n → is_among used id ≡ true → first_free (n - k) id used ≡ goal → first_free (n - (k + 1)) (behind id) used ≡ goal
passed n k id goal used within taken e =
    sym (passed_at (n - (k + 1)) id used taken) ∙ ap (λ fuel. first_free fuel id used) (less n k within) ∙ e
  where
    less : (n k : ℕ) → k < n → suc (n - (k + 1)) ≡ n - k
    less n k within = omega arith

pub at_end : (n k id goal : ℕ) (used : List ℕ) → n ≤ k → first_free (n - k) id used ≡ goal → id ≡ goal
at_end n k id goal used past e = ap (λ fuel. first_free fuel id used) (none n k past) ∙ e
  where
    none : (n k : ℕ) → n ≤ k → 0 ≡ n - k
    none n k past = omega arith
