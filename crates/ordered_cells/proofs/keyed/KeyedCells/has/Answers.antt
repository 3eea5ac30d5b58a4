use Rattle.ordered_cells.proofs.Found.{has_is}
use Rattle.ordered_cells.proofs.keyed.KeyedCells.has.Goals as goal

pub returns : goal.returns
returns g c =
    let slots = c.self.inside.slots in
    rw (← c.self.view_is, c.is_some.ensures) (has_is g.T.Keyed.key_of g.row.N c.args.key slots.cells.items slots.used.items slots.order.items c.self.inside.away.items c.cell_of.result slots.are_slots c.self.invariant.0 c.cell_of.ensures.some c.cell_of.ensures.none)
