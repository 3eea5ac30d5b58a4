-- The kinds of step, each by what it tells its pass: the step with its operand, the pass before, the word
-- that was found, and the pass after.
use Rattle.std.specs.Prelude.{◌≡◌, ℕ, ◌-◌, ◌^◌, ◌<◌, ◌≤◌}
use Rattle.std.specs.Int.{bit_at}
use Rattle.atomic_table.specs.Table.{Step, Me}
use Rattle.command_pool.specs.declared.hand.Hand.{Hand}
use Rattle.command_pool.specs.declared.hand.PoolStep.TheVariants as steps
use Rattle.command_pool.specs.Hands.{times, noted, taken, given}

-- no number from `pool` on has a bit in the word
abbrev pub FitsPool : ℕ → ℕ → Type 0
FitsPool pool word = (x : ℕ) → pool ≤ x → bit_at word x ≡ 0

-- the word with the bit of x alone, and the word with all other bits
abbrev pub only : ℕ → ℕ
only x = 2 ^ x

abbrev pub all_but : ℕ → ℕ
all_but x = 2 ^ 64 - 1 - only x

-- a pass within a step: its view, and the slots that it holds, which are none
abbrev pub Passing : Type 0
Passing = Me (Unit {0}) Hand

-- A load notes the word that it found.
abbrev pub Loads : ℕ → Step (Unit {0}) → Passing → ℕ → Passing → Type 0
Loads pool step before found after = (after ≡ (noted (steps.Loaded found) before.0, before.1)) × FitsPool pool found

-- A fetch_and of all bits but x's takes x where it found x's bit set, and notes a miss where it found it clear.
abbrev pub Clears : Step (Unit {0}) → Passing → ℕ → Passing → Type 0
Clears step before found after = (x : ℕ) → x < 64 → step.first ≡ all_but x
    → (bit_at found x ≡ 1 → (after ≡ (taken x before.0, before.1)) × (times x before.0.held ≡ 0))
    × (bit_at found x ≡ 0 → after ≡ (noted (steps.Missed x) before.0, before.1))

-- A fetch_or of x's bit gives x back, which the pass held once.
abbrev pub Sets : Step (Unit {0}) → Passing → ℕ → Passing → Type 0
Sets step before found after = (x : ℕ) → x < 64 → step.first ≡ only x
    → (after ≡ (given x before.0, before.1)) × (times x before.0.held ≡ 1)
