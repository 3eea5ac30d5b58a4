-- Counts that stop where more read alike.
use Rattle.std.proofs.Common.{◌≡◌, ℕ, ◌+◌, ◌<◌, ◌≤◌, true, false, refl, arith}
use Rattle.std.specs.Prelude.{nat_le, nat_lt}
use Rattle.std.proofs.lemmas.Bool.Decides.{nat_tests}
use Rattle.agent_table.specs.Readings.{at_most}

pub one_more : (limit n : ℕ) → n < limit → n + 1 ≡ at_most limit (n + 1)
one_more limit n few = let is : nat_le (n + 1) limit ≡ true = grind (arith, nat_tests) in rw is refl

pub no_more : (limit n : ℕ) → n ≤ limit → nat_lt n limit ≡ false → n ≡ at_most limit (n + 1)
no_more limit n most full = let is : nat_le (n + 1) limit ≡ false = grind (arith, nat_tests) in rw is (let e : n ≡ limit = grind (arith, nat_tests) in e)
