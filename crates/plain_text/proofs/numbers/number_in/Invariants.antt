-- The number of the digits so far.
use Rattle.std.proofs.Common.{◌≡◌, ◌≤◌, take}
use Rattle.plain_text.specs.Numbers.{value_in}
use Rattle.plain_text.proofs.numbers.number_in.Given as goal

abbrev pub invariant-loop-digit : goal.invariant-loop-digit
invariant-loop-digit l = record {
  so_far : l.value ≡ value_in 0 (take l.digit-index l.word);
  small : l.value ≤ l.most;
}
