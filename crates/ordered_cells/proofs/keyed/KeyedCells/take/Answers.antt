use Rattle.std.proofs.Common.{◌≡◌, sym, ◌∙◌, arith, true}
use Rattle.ordered_cells.specs.Cells.{content}
use Rattle.ordered_cells.specs.Keys.{is_of}
use Rattle.ordered_cells.proofs.Found.{found_is, others_are, none_found, none_taken, used_of}
use Rattle.ordered_cells.proofs.Kept.{used_within}
use Rattle.ordered_cells.proofs.Placed.{emptied_keyed}
use Rattle.ordered_cells.proofs.keyed.KeyedCells.take.Goals as goal

pub returns-in_err-cell-clause-taken : goal.returns-in_err-cell-clause-taken
returns-in_err-cell-clause-taken g c =
    let slots = c.self.inside.slots in
    rw (← c.self.view_is) (c.from_residual.ensures ∙ none_found g.T.Keyed.key_of c.args.key slots.cells.items slots.order.items c.in_err-cell.ensures.none)

pub returns-in_err-cell-clause-others : goal.returns-in_err-cell-clause-others
returns-in_err-cell-clause-others g c =
    let slots = c.self.inside.slots in
    rw (← c.self.view_is) (sym (none_taken g.T.Keyed.key_of c.args.key slots.cells.items slots.order.items c.in_err-cell.ensures.none))

pub invariant_of-self : goal.invariant_of-self
invariant_of-self g c =
    let slots = c.self.inside.slots in
    let cell = c.in_ok-cell.cell in
    let is : is_of g.T.Keyed.key_of c.args.key (content slots.cells.items cell) ≡ true = c.in_ok-cell.ensures.some in
    let inside = used_within slots.cells.items cell (used_of g.T.Keyed.key_of c.args.key (content slots.cells.items cell) is) in (
      rw (c.empty.ensures.cells, c.empty.ensures.order, c.remove.ensures.items) (emptied_keyed g.T.Keyed.key_of g.row.N slots.cells.items slots.order.items c.self.inside.away.items cell c.self.invariant.0 inside),
      omega (arith, c.remove.ensures.room, c.self.invariant.1),
    )

pub returns-clause-taken : goal.returns-clause-taken
returns-clause-taken g c =
    let slots = c.self.inside.slots in
    rw (← c.self.view_is) (c.empty.ensures.item ∙ found_is g.T.Keyed.key_of g.row.N c.args.key slots.cells.items slots.used.items slots.order.items c.self.inside.away.items c.in_ok-cell.cell slots.are_slots c.self.invariant.0 c.in_ok-cell.ensures.some)

pub returns-clause-others : goal.returns-clause-others
returns-clause-others g c =
    let slots = c.self.inside.slots in
    rw (← c.self.view_is, c.empty.ensures.cells, c.empty.ensures.order)
    (sym (others_are g.T.Keyed.key_of g.row.N c.args.key slots.cells.items slots.order.items c.self.inside.away.items c.in_ok-cell.cell c.self.invariant.0 c.in_ok-cell.ensures.some))
