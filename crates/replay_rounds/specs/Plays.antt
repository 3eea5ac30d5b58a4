-- A replay that was gone through.
use Rattle.std.specs.Prelude.{◌≡◌, ℕ, true}
use Rattle.replay_rounds.specs.World.{World}
use Rattle.replay_rounds.specs.Rounds.{after, has_ended}

-- So many rounds lead from one world to another, in which the replay has ended.
pub record LeadsTo (from to : World) : Type 0 where
  pub rounds : ℕ
  pub is : after rounds from ≡ to
  pub ended : has_ended to ≡ true
