-- What the bits that are left name comes behind what was found.
use Rattle.std.proofs.Common.{◌≡◌, ◌+◌, ◌-◌, ◌++◌, Bool, List}
use Rattle.stream_blocks.specs.Sets.{bits}
use Rattle.thing_service.specs.Blocks.{more}
use Rattle.thing_service.proofs.blocks.take_named.Given as goal

abbrev pub invariant-loop-bit : goal.invariant-loop-bit
invariant-loop-bit l = (rest : List Bool) → more l.number l.blocks (l.at + l.bit) l.found.items (bits (8 - l.bit) l.left ++ rest) ≡ more l.number l.blocks l.at l.fn.found.items (bits 8 l.byte ++ rest)
