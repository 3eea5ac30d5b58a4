use Rattle.std.proofs.Common.{arith}
use Rattle.ordered_cells.proofs.Orders.{items_len}
use Rattle.ordered_cells.proofs.slots.Slots.len.Goals as goal

pub returns-clause-items : goal.returns-clause-items
returns-clause-items g c = omega (arith, items_len c.args.self.now.cells.items c.args.self.now.order.items c.args.self.now.are_slots.used)
