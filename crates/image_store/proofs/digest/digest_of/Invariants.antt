-- The hasher holds the front of the image's bytes.
use Rattle.std.proofs.Common.{◌≡◌, ℕ, ◌-◌, ◌≤◌, List, take, length, Some}
use Rattle.sha2.specs.Hashers.{Holds256}
use Rattle.image_store.specs.Banks.{fresh_of}
use Rattle.image_store.proofs.digest.digest_of.Given as goal

abbrev pub invariant-loop-at : goal.invariant-loop-at
invariant-loop-at g l = record {
  low : l.at ≤ l.size;
  piece : length l.piece ≡ 4096;
  shape : g.B.Bank.shape l.bank ≡ g.B.Bank.shape l.initial.bank;
  contents : g.B.Bank.contents l.bank ≡ g.B.Bank.contents l.initial.bank;
  faults : g.B.Bank.faults l.initial.bank ≤ g.B.Bank.faults l.bank;
  held : (bytes : List ℕ) → fresh_of (g.B.Bank.contents l.initial.bank) ≡ Some bytes → Holds256 l.hasher (take l.at bytes);
}

abbrev pub decreases-loop-at : goal.decreases-loop-at
decreases-loop-at g l = l.size - l.at
