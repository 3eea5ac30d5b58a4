-- None of the items so far passes.
use Rattle.std.proofs.Common.{◌≡◌, Bool, drop}
use Rattle.std.specs.Prelude.{find}
use Rattle.ordered_cells.specs.Cells.{Tests, items}
use Rattle.ordered_cells.proofs.slots.Slots.find.Given as goal

abbrev pub invariant-loop-k : goal.invariant-loop-k
invariant-loop-k g l = (p : g.row.T.Denot → Bool) → Tests (goal.F-post g) l.test p → find p (drop l.k (items l.self.cells.items l.self.order.items)) ≡ find p (items l.self.cells.items l.self.order.items)
