-- None of the cells so far has the key.
use Rattle.std.proofs.Common.{◌≡◌, ℕ, Bool, drop}
use Rattle.std.specs.Prelude.{find}
use Rattle.ordered_cells.specs.Cells.{content}
use Rattle.ordered_cells.specs.Keys.{is_of}
use Rattle.ordered_cells.proofs.keyed.away_of.Given as goal

abbrev pub invariant-loop-cell : goal.invariant-loop-cell
invariant-loop-cell g l =
    let has : ℕ → Bool = λ cell. is_of g.T.Keyed.key_of l.key (content l.slots.cells.items cell) in
    find has (drop l.cell-index l.away) ≡ find has l.away
