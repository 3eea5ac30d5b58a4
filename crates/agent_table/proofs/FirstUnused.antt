-- The fresh identifier is the first that isn't in use.
use Rattle.std.proofs.Common.{◌≡◌, ℕ, zero, suc, ◌<◌, Bool, true, false, List, length, refl, arith}
use Rattle.std.specs.Prelude.{if◌then◌else◌}
use Rattle.agent_table.specs.Deliveries.{is_among}
use Rattle.agent_table.specs.Identifiers.{behind, first_free, fresh}
use Rattle.agent_table.specs.Meanings.{further, FreshIsFirstUnused}
use Rattle.agent_table.proofs.Fresh.{fresh_is_free}

-- so many are passed over, and each of them is in use
abbrev Passes : List ℕ → ℕ → ℕ → Type 0
Passes used n id = (k : ℕ) × (id ≡ further k n) × ((j : ℕ) → j < k → is_among used (further j n) ≡ true)

passes : (fuel n : ℕ) (used : List ℕ) → Passes used n (first_free fuel n used)
passes zero n used = (0, refl, λ j low. absurd (omega (arith, low)))
passes (suc fuel) n used = by (is_among used n) refl (passes fuel (behind n) used)
  where
    more : (k : ℕ) → is_among used n ≡ true → ((j : ℕ) → j < k → is_among used (further j (behind n)) ≡ true) → (j : ℕ) → j < suc k → is_among used (further j n) ≡ true
    more k here rest zero low = here
    more k here rest (suc j) low = rest j (omega (arith, low))

    by : (b : Bool) → is_among used n ≡ b → Passes used (behind n) (first_free fuel (behind n) used) → Passes used n (if b then first_free fuel (behind n) used else n)
    by true is (k, same, rest) = (suc k, same, more k is rest)
    by false is rest = (0, refl, λ j low. absurd (omega (arith, low)))

pub fresh_is_first_unused : FreshIsFirstUnused
unfolding fresh
fresh_is_first_unused last used high few = let found = passes (length used) (behind last) used in (found.0, found.1, fresh_is_free last used high few, found.2)
