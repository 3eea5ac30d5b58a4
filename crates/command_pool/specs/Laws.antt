-- What the rule says of any moment, number by number: a law, the contract of a function that does nothing.
use Rattle.std.specs.Prelude.{◌≡◌, ℕ, ◌<◌, ◌≤◌, ◌⊎◌, slice_index}
use Rattle.std.specs.Int.{bit_at}
use mathlib.Core.Option.{some}
use lib.ListN.{get_elem?}
use Rattle.command_pool.specs.declared.hand.Hand.{Hand}
use Rattle.command_pool.specs.Hands.{times}
use Rattle.command_pool.specs.Rule.{Moment, EachOnce}

abbrev pub IsFree : Moment → ℕ → Type 0
IsFree s x = bit_at (slice_index s.words 0) x ≡ 1

-- the pass with this view holds the number
abbrev pub IsIn : Hand → ℕ → Type 0
IsIn v x = 0 < times x v.held

-- pass p has this view at this moment
abbrev pub IsView : Moment → ℕ → Hand → Type 0
IsView s p v = get_elem? s.views p ≡ some v

abbrev pub IsHeld : Moment → ℕ → Type 0
IsHeld s x = (p : ℕ) × (v : Hand) × IsView s p v × IsIn v x

-- Each number of the pool is free or held, and not both, so where the word is 0 all are held. It is held by
-- one pass, in which it stands once. No other number is free or held.
pub record IsLawful (pool : ℕ) (s : Moment) : Type 0 where
  pub free_or_held : (x : ℕ) → x < pool → IsFree s x ⊎ IsHeld s x
  pub all_held_at_zero : slice_index s.words 0 ≡ 0 → (x : ℕ) → x < pool → IsHeld s x
  pub not_both : (x : ℕ) → IsFree s x → IsHeld s x → ⊥
  pub by_one_pass : (x p q : ℕ) (v w : Hand) → IsView s p v → IsView s q w → IsIn v x → IsIn w x → p ≡ q
  pub once : (x p : ℕ) (v : Hand) → IsView s p v → times x v.held ≤ 1
  pub no_other_free : (x : ℕ) → pool ≤ x → IsFree s x → ⊥
  pub no_other_held : (x : ℕ) → pool ≤ x → IsHeld s x → ⊥

abbrev pub EachMomentIsLawful : Type 0
EachMomentIsLawful = (pool : ℕ) (s : Moment) → EachOnce pool s → IsLawful pool s
