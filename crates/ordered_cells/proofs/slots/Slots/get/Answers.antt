use Rattle.std.proofs.Common.{sym, ap, ◌∙◌}
use Rattle.std.specs.Option.{option_copied}
use Rattle.ordered_cells.specs.Cells.{content}
use Rattle.ordered_cells.proofs.Orders.{found_at, none_at}
use Rattle.ordered_cells.proofs.slots.Slots.get.Goals as goal

pub returns : goal.returns
returns g c =
    let self = c.args.self.now in
    c.at.ensures ∙ ap (content self.cells.items) c.from.ensures ∙ found_at self.cells.items self.order.items c.args.k c.in_ok-cell.cell self.are_slots.used (sym c.cell_at.ensures ∙ c.in_ok-cell.was)

pub returns-in_err-cell : goal.returns-in_err-cell
returns-in_err-cell g c =
    let self = c.args.self.now in
    ap option_copied c.from_residual.ensures ∙ none_at self.cells.items self.order.items c.args.k self.are_slots.used (sym c.cell_at.ensures ∙ c.in_err-cell.was)
