use Rattle.std.proofs.Common.{◌≡◌, length}
use Rattle.thing_examples.proofs.tests.blocks.marked_blocks_are_there.Given as goal

abbrev pub invariant-loop-i : goal.invariant-loop-i
invariant-loop-i g l = length l.missing ≡ 130
