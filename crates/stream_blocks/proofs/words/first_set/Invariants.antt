-- No flag of the words so far is set.
use Rattle.std.proofs.Common.{◌≡◌, ℕ, ◌*◌, ◌<◌, false, get_or}
use Rattle.stream_blocks.specs.Sets.{all_bits}
use Rattle.stream_blocks.proofs.words.first_set.Given as goal

abbrev pub invariant-loop-at : goal.invariant-loop-at
invariant-loop-at l = (j : ℕ) → j < 64 * l.at → get_or (all_bits l.words) j false ≡ false
