-- Passes and permits as contracts see them.
use Rattle.std.specs.Prelude.{◌≡◌, ℕ, ◌<◌, List}
use Rattle.atomic_table.specs.Seated.{TableId}
use Rattle.command_pool.specs.declared.hand.PoolStep.{PoolStep}
use Rattle.command_pool.specs.Hands.{times}

-- The pool that the pass is of, the numbers that it holds, and the steps that it made, each the latest first.
pub record Pass : Type 0 where
  pub pool : TableId
  pub held : List ℕ
  pub steps : List PoolStep

-- A number that was taken, and from which pool.
pub record Numbered : Type 0 where
  pub id : ℕ
  pub pool : TableId

-- the pass holds the permit's number
abbrev pub Holds : Pass → Numbered → Type 0
Holds pass permit = (permit.pool ≡ pass.pool) × (0 < times permit.id pass.held)
