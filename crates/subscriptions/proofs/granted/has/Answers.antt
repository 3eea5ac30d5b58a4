use Rattle.std.proofs.Common.{rules, ◌==◌, ◌&&◌, not}
use Rattle.std.specs.Str.{bytes_eq}
use Rattle.subscriptions.specs.Routing.{Granted}
use Rattle.subscriptions.proofs.granted.has.Goals as goal

pub returns : goal.returns
returns g c = c.any.ensures (λ (route : Granted). route.task == c.args.task && bytes_eq route.topics c.args.filter.now) (λ route answer k. search rules)
