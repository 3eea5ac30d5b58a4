use Rattle.std.proofs.Common.{◌≡◌, ℕ, List, length, ap, ◌∙◌, arith}
use Rattle.std.specs.Prelude.{◌==◌, ◌||◌}
use Rattle.std.proofs.lemmas.List.{with_items_is}
use Rattle.ordered_cells.specs.Words.{flag}
use Rattle.ordered_cells.proofs.Kept.{put_slots}
use Rattle.ordered_cells.proofs.slots.Slots.put.Goals as goal

pub invariant_of-self : goal.invariant_of-self
invariant_of-self g c =
    let self = c.args.self.now in
    let cell = c.free_cell-cell.result in
    let len : length c.set.new.words ≡ length self.used.items = c.set.ensures.len ∙ ap length c.as_mut_slice.ensures.value in
    let flags : (d : ℕ) → flag c.set.new.words d ≡ (d == cell || flag self.used.items d) = λ d. c.set.ensures.flags d ∙ ap (λ (words : List ℕ). (d == cell || flag words d)) c.as_mut_slice.ensures.value in
    let same = with_items_is self.used c.set.new.words (c.set.ensures.len ∙ c.as_mut_slice.ensures.len) in
    let kept = put_slots g.row.N self.cells.items self.used.items c.set.new.words self.order.items cell c.args.item self.are_slots c.free_cell-cell.ensures.within c.free_cell-cell.ensures.free len flags in
    record {
      are_slots = rw (same, c.push_reserved.ensures.items) kept;
      room = omega arith;
    }
