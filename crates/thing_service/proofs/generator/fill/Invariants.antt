-- The front of the buffer has the image's bytes.
use Rattle.std.proofs.Common.{◌≡◌, ◌+◌, ◌-◌, ◌≤◌, length, take}
use Rattle.thing_service.specs.Generator.{state, bytes}
use Rattle.thing_service.proofs.generator.fill.Given as goal

abbrev pub invariant-loop-i : goal.invariant-loop-i
invariant-loop-i l = record {
  len : length l.out ≡ length l.initial.out;
  within : l.i ≤ length l.out;
  front : take l.i l.out ≡ bytes l.seed l.fn.at l.i;
  state : l.state ≡ state l.seed (l.fn.at + l.i);
}

abbrev pub decreases-loop-i : goal.decreases-loop-i
decreases-loop-i l = length l.initial.out - l.i
