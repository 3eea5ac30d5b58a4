use Rattle.std.proofs.Common.{◌<◌, length, arith}
use Rattle.ordered_cells.proofs.Orders.{one_more_empty}
use Rattle.ordered_cells.proofs.slots.empty_all.Goals as goal

pub loop-cell-preserved : goal.loop-cell-preserved
loop-cell-preserved g c =
    let inside : c.loop-cell.cell-index < length c.args.cells.now.items = omega arith in
    one_more_empty c.args.cells.now.items c.loop-cell.cell-items c.loop-cell.cell-index inside c.loop-cell.invariant
