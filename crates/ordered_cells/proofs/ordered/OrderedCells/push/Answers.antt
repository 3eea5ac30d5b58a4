use Rattle.std.proofs.Common.{◌<◌, length, ap, arith}
use Rattle.ordered_cells.proofs.Orders.{items_len}
use Rattle.ordered_cells.proofs.Placed.{items_pushed}
use Rattle.ordered_cells.proofs.ordered.OrderedCells.push.Goals as goal

pub put-requires : goal.put-requires
put-requires g c =
    let slots = c.self.inside.slots in
    let room : length slots.order.items < g.row.N = omega (arith, c.requires, ap length c.self.view_is, items_len slots.cells.items slots.order.items slots.are_slots.used) in
    (omega arith, (slots.are_slots.some_cell, room))

pub returns : goal.returns
returns g c =
    let slots = c.self.inside.slots in
    rw (← c.self.view_is) (rw (c.put.ensures.cells, c.put.ensures.order)
    (items_pushed slots.cells.items slots.order.items c.put.result c.args.item slots.are_slots.used c.put.ensures.free (omega (arith, c.put.ensures.within, slots.are_slots.all_cells))))
