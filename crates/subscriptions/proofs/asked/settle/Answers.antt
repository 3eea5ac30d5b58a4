use Rattle.std.proofs.Common.{◌∙◌, sym, ap}
use Rattle.std.specs.Option.{unwrap_or}
use Rattle.subscriptions.proofs.Subacks.{settled_is, unsettled_is}
use Rattle.subscriptions.proofs.asked.settle.Goals as goal

pub returns-then-grants : goal.returns-then-grants
returns-then-grants c =
    settled_is c.args.asks.now c.args.codes.now c.args.ask.now c.unwrap_or-ask.result (sym c.grants.ensures ∙ c.if-grants.true)
    (c.unwrap_or-ask.ensures ∙ ap (λ later. unwrap_or later c.args.ask.now.qos) c.last_asked.ensures)

pub returns-else-grants : goal.returns-else-grants
returns-else-grants c = unsettled_is c.args.asks.now c.args.codes.now c.args.ask.now (sym c.grants.ensures ∙ c.if-grants.false)
