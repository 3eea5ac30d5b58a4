-- The cells so far have their answers.
use Rattle.std.proofs.Common.{◌≡◌, ℕ, true, ◌++◌, length, map, take, drop, Option}
use Rattle.std.specs.Option.{option_and_then}
use Rattle.ordered_cells.specs.Cells.{is_used, Answers}
use Rattle.ordered_cells.proofs.slots.update_all.Given as goal

abbrev pub invariant-loop-cell : goal.invariant-loop-cell
invariant-loop-cell g l = record {
  len : length l.cell-items ≡ length l.fn.cells.items;
  fewer : (c : ℕ) → is_used l.cell-items c ≡ true → is_used l.fn.cells.items c ≡ true;
  answers : (p : g.row.T.Denot → Option g.row.T.Denot) → Answers (goal.F-post g) l.f p → l.cell-items ≡ map (option_and_then p) (take l.cell-index l.fn.cells.items) ++ drop l.cell-index l.fn.cells.items;
}
