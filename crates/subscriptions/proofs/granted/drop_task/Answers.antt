use Rattle.std.proofs.Common.{rules, ◌∙◌, Option, Some, None, ◌==◌}
use Rattle.std.specs.Prelude.{if◌then◌else◌}
use Rattle.subscriptions.specs.Routing.{Granted}
use Rattle.subscriptions.proofs.Lists.{none_where}
use Rattle.subscriptions.proofs.granted.drop_task.Goals as goal

pub returns : goal.returns
returns g c = c.update.ensures (λ route. if route.task == c.args.task then None else Some route) (λ route answer k. search rules) ∙ none_where (λ (route : Granted). route.task == c.args.task) c.args.granted.now
