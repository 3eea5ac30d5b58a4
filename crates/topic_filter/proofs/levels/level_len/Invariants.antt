-- No `/` stands among the bytes so far.
use Rattle.std.proofs.Common.{◌≡◌, ℕ, ◌-◌, ◌≤◌, ◌<◌, length, get_or}
use Rattle.topic_filter.proofs.levels.level_len.Given as goal

abbrev pub invariant-loop-len : goal.invariant-loop-len
invariant-loop-len l = record {
  within : l.len ≤ length l.text;
  before : (k : ℕ) → k < l.len → get_or l.text k 0 ≡ 47 → ⊥;
}

abbrev pub decreases-loop-len : goal.decreases-loop-len
decreases-loop-len l = length l.text - l.len
