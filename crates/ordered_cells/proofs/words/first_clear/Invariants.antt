-- All flags of the words so far are set.
use Rattle.std.proofs.Common.{◌≡◌, ℕ, ◌*◌, ◌<◌, true}
use Rattle.ordered_cells.specs.Words.{flag}
use Rattle.ordered_cells.proofs.words.first_clear.Given as goal

abbrev pub invariant-loop-at : goal.invariant-loop-at
invariant-loop-at l = (j : ℕ) → j < 64 * l.at → flag l.words j ≡ true
