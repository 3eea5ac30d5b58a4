use Rattle.std.proofs.Common.{◌≡◌, ◌≤◌, ◌*◌, ℕ, length, filter, Option, List, ap, ◌∙◌, arith}
use Rattle.std.specs.Prelude.{nat_lt}
use Rattle.std.specs.List.{list_all}
use Rattle.ordered_cells.specs.Words.{flag}
use Rattle.ordered_cells.specs.Cells.{is_used, is_among, items}
use Rattle.ordered_cells.proofs.Updates.{all_within, used_filter, updated_slots, items_updated}
use Rattle.ordered_cells.proofs.slots.Slots.update.Goals as goal

pub flag_all-requires : goal.flag_all-requires
flag_all-requires g c =
    let self = c.args.self.now in
    let now = c.update_all.new.cells.items in
    let room : length now ≤ 64 * length self.used.items = omega (arith, c.update_all.ensures.len, self.are_slots.all_cells, self.are_slots.room) in
    let order : c.as_slice-2.result.now ≡ filter (λ (a : ℕ). is_used now a) self.order.items = c.as_slice-2.ensures.value ∙ c.keep_used.ensures.items ∙ ap (λ (cells : List (Option g.row.T.Denot)). filter (λ (a : ℕ). is_used cells a) self.order.items) c.as_slice.ensures.value in
    record { within = ap (list_all (λ (a : ℕ). nat_lt a (64 * length self.used.items))) order ∙ all_within now (filter (λ (a : ℕ). is_used now a) self.order.items) (64 * length self.used.items) room (used_filter now self.order.items) }

pub invariant_of-self : goal.invariant_of-self
invariant_of-self g c =
    let self = c.args.self.now in
    let now = c.update_all.new.cells.items in
    let kept : c.keep_used.new.order.items ≡ filter (λ (a : ℕ). is_used now a) self.order.items = c.keep_used.ensures.items ∙ ap (λ (cells : List (Option g.row.T.Denot)). filter (λ (a : ℕ). is_used cells a) self.order.items) c.as_slice.ensures.value in
    let flags : (a : ℕ) → flag c.flag_all.new.words.items a ≡ is_among (filter (λ (b : ℕ). is_used now b) self.order.items) a = λ a. c.flag_all.ensures.flags a ∙ ap (λ (ns : List ℕ). is_among ns a) (c.as_slice-2.ensures.value ∙ kept) in
    record {
      are_slots = rw kept (updated_slots g.row.N self.cells.items now self.used.items c.flag_all.new.words.items self.order.items self.are_slots c.update_all.ensures.len c.update_all.ensures.fewer c.flag_all.ensures.len flags);
      room = omega arith;
    }

pub returns : goal.returns
returns g c = λ p answers.
    let self = c.args.self.now in
    let now = c.update_all.new.cells.items in
    let kept : c.keep_used.new.order.items ≡ filter (λ (a : ℕ). is_used now a) self.order.items = c.keep_used.ensures.items ∙ ap (λ (cells : List (Option g.row.T.Denot)). filter (λ (a : ℕ). is_used cells a) self.order.items) c.as_slice.ensures.value in
    ap (items now) kept
    ∙ ap (λ (cells : List (Option g.row.T.Denot)). items cells (filter (λ (a : ℕ). is_used cells a) self.order.items)) (c.update_all.ensures.answers p answers)
    ∙ items_updated p self.cells.items self.order.items
