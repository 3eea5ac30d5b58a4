use Rattle.std.proofs.Common.{rules, ◌∙◌, Some}
use Rattle.subscriptions.specs.Routing.{unsure_now}
use Rattle.subscriptions.proofs.Lists.{some_of_each}
use Rattle.subscriptions.proofs.granted.unsure_all.Goals as goal

pub returns : goal.returns
returns g c = c.update.ensures (λ route. Some (unsure_now route)) (λ route answer k. search rules) ∙ some_of_each unsure_now c.args.granted.now
