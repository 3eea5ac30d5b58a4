-- What a pass holds and did: two lists, the latest first.
use Rattle.std.specs.Prelude.{ℕ, ◌+◌, List, [], ◌∷◌, if◌then◌else◌, ◌==◌}
use Rattle.command_pool.specs.declared.hand.Hand.{Hand}
use Rattle.command_pool.specs.declared.hand.PoolStep.{PoolStep}
use Rattle.command_pool.specs.declared.hand.PoolStep.TheVariants as steps

-- how often x stands in the list
abbrev pub times : ℕ → List ℕ → ℕ
times x [] = 0
times x (y ∷ ys) = (if x == y then 1 else 0) + times x ys

-- the list without its first x
abbrev pub without : ℕ → List ℕ → List ℕ
without x [] = []
without x (y ∷ ys) = if x == y then ys else y ∷ without x ys

abbrev pub hand : List ℕ → List PoolStep → Hand
hand held made = record { held = held; steps = made }

-- a pass that holds nothing and made no step
abbrev pub nothing : Hand
nothing = hand [] []

-- one step more, which changes nothing of what is held
abbrev pub noted : PoolStep → Hand → Hand
noted step v = hand v.held (step ∷ v.steps)

-- x was taken
abbrev pub taken : ℕ → Hand → Hand
taken x v = hand (x ∷ v.held) (steps.Taken x ∷ v.steps)

-- x was given back
abbrev pub given : ℕ → Hand → Hand
given x v = hand (without x v.held) (steps.Given x ∷ v.steps)
