use Rattle.ordered_cells.proofs.Found.{differ}
use Rattle.ordered_cells.proofs.keyed.KeyedCells.len.Goals as goal

pub returns-clause-differ : goal.returns-clause-differ
returns-clause-differ g c =
    let slots = c.self.inside.slots in
    rw (← c.self.view_is) (differ g.T.Keyed.key_of slots.cells.items slots.order.items c.self.invariant.0.unique slots.are_slots.once)
