-- The readings of a clock.
use Rattle.std.specs.Prelude.{◌≡◌, ℕ, zero, suc, ◌+◌, ◌-◌, ◌*◌, ◌^◌, ◌≤◌, min, nat_lt, List, [], ◌∷◌, ◌++◌, length, Option, Some, None, if◌then◌else◌}

-- The reading was added to those that the clock tells. It may stop telling them for good, but not within 2^64 readings.
abbrev pub AddsReading : Option (List ℕ) → Option (List ℕ) → ℕ → Type 0
AddsReading None None reading = Unit {0}
AddsReading None (Some readings) reading = ⊥
AddsReading (Some readings) None reading = 2 ^ 64 ≤ length readings
AddsReading (Some readings) (Some more) reading = more ≡ readings ++ reading ∷ []

-- the reading of call k of a clock that goes on by `step` milliseconds a call
abbrev pub step_reading : ℕ → ℕ → ℕ
step_reading step k = min (k * step) (2 ^ 64 - 1)

-- its first n readings
abbrev pub step_readings : ℕ → ℕ → List ℕ
step_readings step zero = []
step_readings step (suc n) = step_readings step n ++ step_reading step n ∷ []

-- A clock by steps, and how often it was read.
pub record Stepping : Type 0 where
  pub step : ℕ
  pub calls : ℕ

abbrev pub told_readings : Stepping → Option (List ℕ)
told_readings clock = if nat_lt clock.calls (2 ^ 128 - 1) then Some (step_readings clock.step clock.calls) else None

abbrev pub after_reading : Stepping → Stepping
after_reading clock = record clock { calls = min (clock.calls + 1) (2 ^ 128 - 1) }
