use Rattle.std.proofs.Common.{◌==◌}
use Rattle.std.specs.Str.{bytes_eq}
use Rattle.subscriptions.proofs.Reached.{reached_first, reached_second}
use Rattle.subscriptions.proofs.room.is_route.Goals as goal

pub returns-then-has : goal.returns-then-has
returns-then-has g c = reached_first (λ t. t == c.args.task) (λ f. bytes_eq f c.args.filter.now) c.args.granted.now c.args.asked.now c.has.result c.has.ensures c.if-has.true

pub returns-else-has : goal.returns-else-has
returns-else-has g c = reached_second (λ t. t == c.args.task) (λ f. bytes_eq f c.args.filter.now) c.args.granted.now c.args.asked.now c.has.result c.are_asked.result c.has.ensures c.if-has.false c.are_asked.ensures
