-- The next task that a message reaches.
use Rattle.std.specs.Prelude.{◌≡◌, ℕ, ◌<◌, ◌≤◌, Bool, true, false, Option, Some, None}

-- the least one of which it holds from a number on and below another
abbrev pub IsNextReached : (ℕ → Bool) → ℕ → ℕ → Option ℕ → Type 0
IsNextReached reached below from None = (task : ℕ) → from ≤ task → task < below → reached task ≡ false
IsNextReached reached below from (Some next) = (from ≤ next) × (next < below) × (reached next ≡ true) × ((task : ℕ) → from ≤ task → task < next → reached task ≡ false)
