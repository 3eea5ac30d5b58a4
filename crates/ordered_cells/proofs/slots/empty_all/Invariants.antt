-- The cells so far are empty.
use Rattle.std.proofs.Common.{◌≡◌, ◌++◌, drop, replicate, None}
use Rattle.ordered_cells.proofs.slots.empty_all.Given as goal

abbrev pub invariant-loop-cell : goal.invariant-loop-cell
invariant-loop-cell g l = l.cell-items ≡ replicate l.cell-index None ++ drop l.cell-index l.fn.cells.items
