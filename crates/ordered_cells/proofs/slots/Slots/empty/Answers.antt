use Rattle.std.proofs.Common.{◌≡◌, ℕ, List, length, ap, ◌∙◌, arith}
use Rattle.std.specs.Prelude.{◌==◌, ◌&&◌, not}
use Rattle.std.proofs.lemmas.List.{with_items_is}
use Rattle.ordered_cells.specs.Words.{flag}
use Rattle.ordered_cells.proofs.Kept.{emptied_slots}
use Rattle.ordered_cells.proofs.slots.Slots.empty.Goals as goal

pub invariant_of-self : goal.invariant_of-self
invariant_of-self g c =
    let self = c.args.self.now in
    let cell = c.args.cell in
    let len : length c.clear.new.words ≡ length self.used.items = c.clear.ensures.len ∙ ap length c.as_mut_slice.ensures.value in
    let flags : (d : ℕ) → flag c.clear.new.words d ≡ (not (d == cell) && flag self.used.items d) = λ d. c.clear.ensures.flags d ∙ ap (λ (words : List ℕ). (not (d == cell) && flag words d)) c.as_mut_slice.ensures.value in
    let same = with_items_is self.used c.clear.new.words (c.clear.ensures.len ∙ c.as_mut_slice.ensures.len) in
    let kept = emptied_slots g.row.N self.cells.items self.used.items c.clear.new.words self.order.items cell self.are_slots c.requires.within len flags in
    record {
      are_slots = rw (same, c.remove.ensures.items, c.take-item.ensures.after) kept;
      room = omega arith;
    }
