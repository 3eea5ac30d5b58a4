-- The flags of the cells so far are set.
use Rattle.std.proofs.Common.{◌≡◌, ℕ, length, take}
use Rattle.ordered_cells.specs.Words.{flag}
use Rattle.ordered_cells.specs.Cells.{is_among}
use Rattle.ordered_cells.proofs.words.flag_all.Given as goal

abbrev pub invariant-loop-cell : goal.invariant-loop-cell
invariant-loop-cell l = record {
  len : length l.words.items ≡ length l.fn.words.items;
  flags : (j : ℕ) → flag l.words.items j ≡ is_among (take l.cell-index l.cells) j;
}
