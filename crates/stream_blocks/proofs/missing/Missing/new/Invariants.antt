-- Each word has the blocks of its own that are left to it.
use Rattle.std.proofs.Common.{◌≡◌, ℕ, ◌-◌, ◌*◌, ◌^◌, ◌<◌, min, length, get_or}
use Rattle.stream_blocks.proofs.missing.Missing.new.Given as goal

abbrev pub invariant-loop : goal.invariant-loop
invariant-loop g l = record {
  len : length l.words.items ≡ l.counter;
  left : l.left ≡ l.count - 64 * l.counter;
  words : (k : ℕ) → k < length l.words.items → get_or l.words.items k 0 ≡ 2 ^ min (l.count - 64 * k) 64 - 1;
}
