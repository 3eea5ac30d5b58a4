use Rattle.std.proofs.Common.{arith}
use Rattle.ordered_cells.proofs.Placed.{none_keyed}
use Rattle.ordered_cells.proofs.keyed.KeyedCells.clear.Goals as goal

pub invariant_of-self : goal.invariant_of-self
invariant_of-self g c = (
  rw (c.clear-2.ensures.cells, c.clear-2.ensures.order, c.clear.ensures.items) (none_keyed {X = g.row.T.Denot} g.T.Keyed.key_of g.row.N),
  omega (arith, c.self.invariant.1),
)
