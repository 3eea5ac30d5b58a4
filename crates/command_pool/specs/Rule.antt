-- The rule over the pool's word and its passes. It holds between any two steps of any number of passes.
use Rattle.std.specs.Prelude.{◌≡◌, ℕ, ◌+◌, List, [], ◌∷◌, length, slice_index, if◌then◌else◌, nat_lt}
use Rattle.std.specs.Int.{bit_at}
use Rattle.atomic_table.specs.Table.{State}
use Rattle.command_pool.specs.declared.hand.Hand.{Hand}
use Rattle.command_pool.specs.Hands.{times}

-- how often the passes hold x, all together
abbrev pub holders : ℕ → List Hand → ℕ
holders x [] = 0
holders x (v ∷ vs) = times x v.held + holders x vs

-- a number of the pool is there once, and any other not at all
abbrev pub once_below : ℕ → ℕ → ℕ
once_below pool x = if nat_lt x pool then 1 else 0

-- the pool's table at a moment: its word, and the view of each pass
abbrev pub Moment : Type 0
Moment = State (Unit {0}) Hand

-- There is one word. A number of the pool is free, which is to say that its bit is 1, or held once by one
-- pass, and not both. No other number is free or held.
abbrev pub EachOnce : ℕ → Moment → Type 0
EachOnce pool s = (length s.words ≡ 1) × ((x : ℕ) → bit_at (slice_index s.words 0) x + holders x s.views ≡ once_below pool x)
