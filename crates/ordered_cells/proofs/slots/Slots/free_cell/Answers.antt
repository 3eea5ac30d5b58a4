use Rattle.std.proofs.Common.{◌≡◌, ◌<◌, ◌*◌, ℕ, length, false, true}
use Rattle.ordered_cells.specs.Words.{flag}
use Rattle.ordered_cells.proofs.Kept.{first_free, some_free}
use Rattle.ordered_cells.proofs.slots.Slots.free_cell.Goals as goal

pub unreachable-requires : goal.unreachable-requires
unreachable-requires g c =
    let self = c.args.self.now in
    let set : (d : ℕ) → d < 64 * length self.used.items → flag self.used.items d ≡ true = rw (← c.as_slice.ensures.value) (c.in-None.ensures.none) in
    some_free g.row.N self.cells.items self.used.items self.order.items self.are_slots c.requires.room set

pub returns-clause-within : goal.returns-clause-within
returns-clause-within g c =
    let self = c.args.self.now in
    let first : (flag self.used.items c.in-Some.cell ≡ false) × ((d : ℕ) → d < c.in-Some.cell → flag self.used.items d ≡ true) = rw (← c.as_slice.ensures.value) (c.in-Some.ensures.some) in
    (first_free g.row.N self.cells.items self.used.items self.order.items c.in-Some.cell self.are_slots c.requires.room first.0 first.1).0
