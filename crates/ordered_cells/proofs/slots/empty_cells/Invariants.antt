-- So many cells are there, all empty.
use Rattle.std.proofs.Common.{◌≡◌, replicate, None}
use Rattle.ordered_cells.proofs.slots.empty_cells.Given as goal

abbrev pub invariant-loop : goal.invariant-loop
invariant-loop g l = l.cells.items ≡ replicate l.counter None
