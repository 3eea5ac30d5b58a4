use Rattle.std.proofs.Common.{◌≡◌, ℕ, ◌%◌, false, sym, ap, ◌∙◌}
use Rattle.ordered_cells.specs.Cells.{content}
use Rattle.ordered_cells.specs.Keys.{is_of}
use Rattle.ordered_cells.proofs.Found.{hit, nowhere}
use Rattle.ordered_cells.proofs.keyed.cell_of.Goals as goal

pub returns-clause-some : goal.returns-clause-some
returns-clause-some g c =
    let cells = c.args.slots.now.cells.items in
    let key = c.args.key in
    ap (λ (a : ℕ). is_of g.T.Keyed.key_of key (content cells a)) c.from.ensures
    ∙ hit (λ a. is_of g.T.Keyed.key_of key (content cells a)) c.args.away.now c.in_ok-cell.cell (sym c.away_of.ensures ∙ c.in_ok-cell.was)

pub returns-in_err-cell-clause-none : goal.returns-in_err-cell-clause-none
returns-in_err-cell-clause-none g c =
    let slots = c.args.slots.now in
    let key_of = g.T.Keyed.key_of in
    let home : is_of key_of c.args.key (content slots.cells.items (c.args.key % g.row.N)) ≡ false =
    ap (λ (k : ℕ). is_of key_of c.args.key (content slots.cells.items (k % g.row.N))) (sym c.from-home.ensures) ∙ sym c.is_of.ensures ∙ c.if-is_of.false in
    rw c.from_residual.ensures (nowhere key_of g.row.N c.args.key slots.cells.items slots.order.items c.args.away.now c.requires.keyed slots.are_slots.ordered home (sym c.away_of.ensures ∙ c.in_err-cell.was))
