use Rattle.std.proofs.Common.{sym, ap, ◌∙◌}
use Rattle.std.specs.Option.{option_copied}
use Rattle.ordered_cells.specs.Cells.{items}
use Rattle.ordered_cells.proofs.Searches.{found_here, found_later}
use Rattle.ordered_cells.proofs.slots.Slots.find.Goals as goal

pub returns-then-test : goal.returns-then-test
returns-then-test g c = λ p tests.
    found_here p (items c.args.self.now.cells.items c.args.self.now.order.items) c.loop-k.k c.in_ok-item.item.now (sym c.get.ensures ∙ ap option_copied c.in_ok-item.was) (sym (tests c.in_ok-item.item c.test.result c.test.ensures) ∙ c.if-test.true) (c.loop-k.invariant p tests)

pub loop-k-preserved : goal.loop-k-preserved
loop-k-preserved g c = λ p tests.
    found_later p (items c.args.self.now.cells.items c.args.self.now.order.items) c.loop-k.k c.in_ok-item.item.now (sym c.get.ensures ∙ ap option_copied c.in_ok-item.was) (sym (tests c.in_ok-item.item c.test.result c.test.ensures) ∙ c.if-test.false) (c.loop-k.invariant p tests)
