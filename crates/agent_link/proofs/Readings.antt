-- A clock by steps tells each reading.
use Rattle.std.proofs.Common.{◌≡◌, ℕ, zero, suc, ◌+◌, ◌-◌, ◌^◌, ◌≤◌, min, [], ◌∷◌, ◌++◌, length, Some, None, Bool, true, false, cond, refl, sym, ap, ◌∙◌, arith, length-append}
use Rattle.std.specs.Prelude.{nat_lt}
use Rattle.std.proofs.lemmas.Bool.{ltb-true, ltb-false}
use Rattle.agent_link.specs.Clocks.{AddsReading, step_reading, step_readings, told_readings}

length_readings : (step n : ℕ) → length (step_readings step n) ≡ n
length_readings step zero = refl
length_readings step (suc n) =
    let before : length (step_readings step n) ≡ n = length_readings step n in
    length-append (step_readings step n) (step_reading step n ∷ []) ∙ omega arith

-- by whether this reading and the next are told
by_tests : (step calls now next : ℕ) (told still : Bool) → now ≡ step_reading step calls → (told ≡ true → still ≡ true → next ≡ suc calls) → (told ≡ true → still ≡ false → 2 ^ 64 ≤ calls) → (told ≡ false → still ≡ true → ⊥)
    → AddsReading (cond told (Some (step_readings step calls)) None) (cond still (Some (step_readings step next)) None) now
by_tests step calls now next true true e more late never = ap (step_readings step) (more refl refl) ∙ ap (λ r. step_readings step calls ++ r ∷ []) (sym e)
by_tests step calls now next true false e more late never = let long = late refl refl in let size = length_readings step calls in omega arith
by_tests step calls now next false true e more late never = absurd (never refl refl)
by_tests step calls now next false false e more late never = tt

pub told_on : (step calls now : ℕ) → now ≡ step_reading step calls
    → AddsReading (told_readings (record { step = step; calls = calls })) (told_readings (record { step = step; calls = min (calls + 1) (2 ^ 128 - 1) })) now
told_on step calls now e =
    by_tests step calls now (min (calls + 1) (2 ^ 128 - 1)) (nat_lt calls (2 ^ 128 - 1)) (nat_lt (min (calls + 1) (2 ^ 128 - 1)) (2 ^ 128 - 1)) e
    (λ t s. let a = ltb-true calls (2 ^ 128 - 1) t in omega arith)
    (λ t s. let a = ltb-true calls (2 ^ 128 - 1) t in let b = ltb-false (min (calls + 1) (2 ^ 128 - 1)) (2 ^ 128 - 1) s in omega arith)
    (λ t s. let a = ltb-false calls (2 ^ 128 - 1) t in let b = ltb-true (min (calls + 1) (2 ^ 128 - 1)) (2 ^ 128 - 1) s in omega arith)
