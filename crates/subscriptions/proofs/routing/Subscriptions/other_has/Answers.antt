use Rattle.std.proofs.Common.{◌==◌, ◌∙◌, not, ap}
use Rattle.std.specs.Str.{bytes_eq}
use Rattle.subscriptions.specs.Routing.{Routing, other_has}
use Rattle.subscriptions.proofs.Reached.{reached_first, reached_second}
use Rattle.subscriptions.proofs.routing.Subscriptions.other_has.Goals as goal

pub returns-then-other_has : goal.returns-then-other_has
returns-then-other_has g c =
    reached_first (λ t. not (t == c.args.task)) (λ f. bytes_eq f c.args.filter.now) c.self.inside.granted c.self.inside.asked.items c.other_has.result c.other_has.ensures c.if-other_has.true
    ∙ ap (λ (k : Routing). other_has k c.args.task c.args.filter.now) c.self.view_is

pub returns-else-other_has : goal.returns-else-other_has
returns-else-other_has g c =
    reached_second (λ t. not (t == c.args.task)) (λ f. bytes_eq f c.args.filter.now) c.self.inside.granted c.self.inside.asked.items c.other_has.result c.other_asks.result c.other_has.ensures c.if-other_has.false (rw c.deref.ensures.value at c.other_asks.ensures)
    ∙ ap (λ (k : Routing). other_has k c.args.task c.args.filter.now) c.self.view_is
