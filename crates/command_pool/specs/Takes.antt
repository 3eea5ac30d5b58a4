-- The steps of a take.
use Rattle.std.specs.Prelude.{◌≡◌, ◌≢◌, ℕ, zero, suc, ◌+◌, List, [], ◌∷◌, ◌++◌, Result, Ok, Err, if◌then◌else◌, ◌==◌}
use Rattle.std.specs.Int.{bit_at}
use Rattle.command_pool.specs.declared.hand.PoolStep.{PoolStep}
use Rattle.command_pool.specs.declared.hand.PoolStep.TheVariants as steps
use Rattle.command_pool.specs.declared.permit.TakeFault.{TakeFault}
use Rattle.command_pool.specs.declared.permit.TakeFault.TheVariants as faults
use Rattle.command_pool.specs.Kinds.{FitsPool}
use Rattle.command_pool.specs.Passes.{Numbered}

-- A miss of each number below n whose bit the word has, from the lowest up. The latest stands first.
abbrev pub misses : ℕ → ℕ → List PoolStep
misses word zero = []
misses word (suc n) = if bit_at word n == 1 then steps.Missed n ∷ misses word n else misses word n

-- What a take of a pool of this size puts in front of its pass's steps: one load, and then a try of each
-- number that the load saw free, from the lowest up, until one is taken.
abbrev pub TakeSteps : ℕ → Result Numbered TakeFault → List PoolStep → List PoolStep → Type 0
TakeSteps pool (Ok permit) old new = (seen : ℕ) × (bit_at seen permit.id ≡ 1)
    × (new ≡ steps.Taken permit.id ∷ misses seen permit.id ++ steps.Loaded seen ∷ old)
TakeSteps pool (Err faults.Empty) old new = new ≡ steps.Loaded 0 ∷ old
TakeSteps pool (Err (faults.Busy seen)) old new = (seen ≢ 0) × FitsPool pool seen
    × (new ≡ misses seen pool ++ steps.Loaded seen ∷ old)

-- Over several calls. A call only puts steps in front of those that its pass had made: so what a caller counts of them
-- before and behind its calls is of those calls.
abbrev pub IsOnward : List PoolStep → List PoolStep → Type 0
IsOnward old new = (made : List PoolStep) × (new ≡ made ++ old)

-- how many of the steps are loads that found no number free
abbrev pub empties : List PoolStep → ℕ
empties [] = 0
empties (steps.Loaded word ∷ rest) = (if word == 0 then 1 else 0) + empties rest
empties (_ ∷ rest) = empties rest

-- one such load in a take that answers Empty, and none in any other
abbrev pub empties_in : Result Numbered TakeFault → ℕ
empties_in (Ok permit) = 0
empties_in (Err faults.Empty) = 1
empties_in (Err (faults.Busy seen)) = 0
