use Rattle.std.proofs.Common.{◌≡◌, ℕ, length, replicate, ap, ◌∙◌, arith, None}
use Rattle.std.specs.Prelude.{vec_len}
use Rattle.std.proofs.lemmas.List.{length-replicate}
use Rattle.ordered_cells.proofs.Flags.{none_flagged}
use Rattle.ordered_cells.proofs.Kept.{empty_slots}
use Rattle.ordered_cells.proofs.slots.Slots.clear.Goals as goal

pub invariant_of-self : goal.invariant_of-self
invariant_of-self g c =
    let self = c.args.self.now in
    let slots = self.are_slots in
    let zeros : c.fill.new.self.items ≡ replicate (vec_len self.used) 0 = c.fill.ensures.items (λ y e. e) in
    let cells : c.empty_all.new.cells.items ≡ replicate g.row.N None = c.empty_all.ensures ∙ ap (λ (n : ℕ). replicate n None) slots.all_cells in
    let len : length (replicate {A = ℕ} (vec_len self.used) 0) ≡ length self.used.items = omega (arith, length-replicate {A = ℕ} (vec_len self.used) 0) in
    let kept = empty_slots {X = g.row.T.Denot} g.row.N (replicate (vec_len self.used) 0) slots.some_cell slots.few (omega (arith, len, slots.room)) (omega (arith, len, slots.few_words)) (none_flagged (vec_len self.used)) in
    record {
      are_slots = rw (cells, zeros, c.clear.ensures.items) kept;
      room = omega arith;
    }
