-- An entry that a run has made, and not yet sent.
use Rattle.std.specs.Prelude.{◌≡◌, ℕ, List, ◌∷◌, Some}
use Rattle.agent_journal.specs.declared.entry.Cause.{Cause}
use Rattle.agent_journal.specs.Wires.{sent_in}
use Rattle.agent_table.specs.Rows.{Row}
use Rattle.replay_rounds.specs.World.{World, row_in}
use Rattle.agent_ties.specs.Seen.{entry}

-- The table has a row for the cause, its entry is the newest one, and these are the bytes of its packets.
pub record Makes (old : World) (at : ℕ) (cause : Cause) (new : World) (bytes : List ℕ) : Type 0 where
  pub row : Row
  pub found : row_in old at cause ≡ Some row
  pub newest : new ≡ record old { past = entry at cause row ∷ old.past }
  pub spelled : bytes ≡ sent_in row.effects
