use Rattle.std.proofs.Common.{◌∙◌, ap}
use Rattle.std.specs.Option.{option_copied}
use Rattle.ordered_cells.proofs.Found.{found_is, none_found, differ}
use Rattle.ordered_cells.proofs.keyed.KeyedCells.find.Goals as goal

pub returns-clause-found : goal.returns-clause-found
returns-clause-found g c =
    let slots = c.self.inside.slots in
    rw (← c.self.view_is) (c.at.ensures ∙ found_is g.T.Keyed.key_of g.row.N c.args.key slots.cells.items slots.used.items slots.order.items c.self.inside.away.items c.in_ok-cell.cell slots.are_slots c.self.invariant.0 c.in_ok-cell.ensures.some)

pub returns-clause-differ : goal.returns-clause-differ
returns-clause-differ g c =
    let slots = c.self.inside.slots in
    rw (← c.self.view_is) (differ g.T.Keyed.key_of slots.cells.items slots.order.items c.self.invariant.0.unique slots.are_slots.once)

pub returns-in_err-cell-clause-found : goal.returns-in_err-cell-clause-found
returns-in_err-cell-clause-found g c =
    let slots = c.self.inside.slots in
    rw (← c.self.view_is) (ap option_copied c.from_residual.ensures ∙ none_found g.T.Keyed.key_of c.args.key slots.cells.items slots.order.items c.in_err-cell.ensures.none)

pub returns-in_err-cell-clause-differ : goal.returns-in_err-cell-clause-differ
returns-in_err-cell-clause-differ g c =
    let slots = c.self.inside.slots in
    rw (← c.self.view_is) (differ g.T.Keyed.key_of slots.cells.items slots.order.items c.self.invariant.0.unique slots.are_slots.once)
