use Rattle.std.proofs.Common.{◌∙◌, sym, ap}
use Rattle.std.specs.Option.{unwrap_or}
use Rattle.agent_table.specs.Routes.{coded, granted_in}
use Rattle.subscriptions.specs.Routing.{Granted, renewed_as}
use Rattle.subscriptions.proofs.Subacks.{renewed_is}
use Rattle.subscriptions.proofs.granted.Granted.renew.Goals as goal

pub returns-then-grants : goal.returns-then-grants
returns-then-grants c =
    let route : Granted = record { task = c.self.inside.task; topics = c.self.inside.filter; qos = c.self.inside.qos; sure = c.self.inside.sure } in
    renewed_is c.args.asks.now c.args.codes.now route c.unwrap_or-self-inside.result (sym c.grants.ensures ∙ c.if-grants.true)
    (c.unwrap_or-self-inside.ensures ∙ ap (λ later. unwrap_or later c.self.inside.qos) c.last_asked.ensures)
    ∙ ap (renewed_as (granted_in (coded c.args.asks.now c.args.codes.now)) c.args.asks.now) c.self.view_is
