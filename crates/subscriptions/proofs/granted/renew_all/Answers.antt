use Rattle.std.proofs.Common.{rules, ◌∙◌, Option, Some}
use Rattle.agent_table.specs.Routes.{coded, granted_in}
use Rattle.subscriptions.specs.Routing.{Granted, renewed_as}
use Rattle.subscriptions.proofs.Lists.{some_of_each}
use Rattle.subscriptions.proofs.granted.renew_all.Goals as goal

pub returns : goal.returns
returns g c =
    let f : Granted → Granted = renewed_as (granted_in (coded c.args.asks.now c.args.codes.now)) c.args.asks.now in
    c.update.ensures (λ route. Some (f route)) (λ route answer k. search rules) ∙ some_of_each f c.args.granted.now
