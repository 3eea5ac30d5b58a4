-- The bytes so far stand for themselves.
use Rattle.std.proofs.Common.{◌≡◌, ◌-◌, ◌≤◌, length, take}
use Rattle.plain_text.specs.Escapes.{escaped}
use Rattle.plain_text.proofs.escapes.plain_len.Given as goal

abbrev pub invariant-loop-run : goal.invariant-loop-run
invariant-loop-run l = record {
  within : l.run ≤ length l.text;
  plain : escaped (take l.run l.text) ≡ take l.run l.text;
}

abbrev pub decreases-loop-run : goal.decreases-loop-run
decreases-loop-run l = length l.text - l.run
