use Rattle.std.proofs.Common.{◌≡◌, ◌<◌, ◌%◌, length, ap, ◌∙◌, arith}
use Rattle.std.specs.Prelude.{false}
use Rattle.std.specs.List.{list_any}
use Rattle.ordered_cells.specs.Cells.{items}
use Rattle.ordered_cells.specs.Keys.{has_key}
use Rattle.ordered_cells.proofs.Orders.{items_len}
use Rattle.ordered_cells.proofs.Placed.{few_away, pushed_keyed, items_pushed}
use Rattle.ordered_cells.proofs.keyed.KeyedCells.push.Goals as goal

pub put-cell-requires : goal.put-cell-requires
put-cell-requires g c =
    let slots = c.self.inside.slots in
    let low : c.from-home.result % g.row.N < g.row.N = omega (arith, slots.are_slots.some_cell) in
    let room : length slots.order.items < g.row.N = omega (arith, c.requires.room, ap length c.self.view_is, items_len slots.cells.items slots.order.items slots.are_slots.used) in
    (omega arith, (low, room))

pub note-requires-clause-room : goal.note-requires-clause-room
note-requires-clause-room g c =
    let slots = c.self.inside.slots in
    omega (
      arith,
      c.requires.room,
      ap length c.self.view_is,
      items_len slots.cells.items slots.order.items slots.are_slots.used,
      few_away g.T.Keyed.key_of g.row.N slots.cells.items slots.order.items c.self.inside.away.items c.self.invariant.0,
      c.self.invariant.1,
    )

pub invariant_of-self : goal.invariant_of-self
invariant_of-self g c =
    let slots = c.self.inside.slots in
    let key_of = g.T.Keyed.key_of in
    let fresh : list_any (has_key key_of (key_of c.args.item)) (items slots.cells.items slots.order.items) ≡ false =
    ap (list_any (has_key key_of (key_of c.args.item))) c.self.view_is ∙ c.requires.fresh in
    let home : c.from-home.result ≡ key_of c.args.item = c.from-home.ensures ∙ c.key.ensures in
    let kept = pushed_keyed key_of g.row.N slots.cells.items slots.order.items c.self.inside.away.items c.put-cell.result c.args.item c.self.invariant.0
    slots.are_slots.used slots.are_slots.ordered c.put-cell.ensures.free (omega (arith, c.put-cell.ensures.within, slots.are_slots.all_cells)) fresh in (
      rw (c.put-cell.ensures.cells, c.put-cell.ensures.order, c.note.ensures.items, home) kept,
      omega (arith, c.note.ensures.room, c.self.invariant.1),
    )

pub returns : goal.returns
returns g c =
    let slots = c.self.inside.slots in
    rw (← c.self.view_is) (rw (c.put-cell.ensures.cells, c.put-cell.ensures.order)
    (items_pushed slots.cells.items slots.order.items c.put-cell.result c.args.item slots.are_slots.used c.put-cell.ensures.free (omega (arith, c.put-cell.ensures.within, slots.are_slots.all_cells))))
