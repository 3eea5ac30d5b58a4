use Rattle.std.proofs.Common.{rules, ◌∙◌, Option, Some, None}
use Rattle.std.specs.Prelude.{if◌then◌else◌}
use Rattle.subscriptions.specs.Routing.{Granted, is_any_of}
use Rattle.subscriptions.proofs.Lists.{none_where}
use Rattle.subscriptions.proofs.granted.drop_filters.Goals as goal

pub returns : goal.returns
returns g c = c.update.ensures (λ route. if is_any_of c.args.task c.args.filters.now route then None else Some route) (λ route answer k. search rules) ∙ none_where (is_any_of c.args.task c.args.filters.now) c.args.granted.now
