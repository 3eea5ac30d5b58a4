-- A crash, byte by byte.
use Rattle.std.proofs.Common.{ℕ, Bool, List, ◌++◌, take, drop}
use Rattle.disk_slots.specs.Memory.{crashed}

-- Bytes up to i are as the crash leaves them, and the others are still to come.
abbrev pub done : ℕ → ℕ → List Bool → List ℕ → List ℕ
done pick i ms xs = take i xs ++ crashed pick i (drop i ms) (drop i xs)
