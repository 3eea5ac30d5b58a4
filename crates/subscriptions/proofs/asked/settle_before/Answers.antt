use Rattle.std.proofs.Common.{◌<◌, ◌∙◌, ap, length, arith}
use Rattle.agent_table.specs.Routes.{coded, granted_in}
use Rattle.subscriptions.specs.Parts.{settled_by}
use Rattle.subscriptions.proofs.Lists.{changed}
use Rattle.subscriptions.proofs.asked.settle_before.Goals as goal

pub loop-at-preserved : goal.loop-at-preserved
loop-at-preserved c =
    let inside : c.loop-at.at < length c.args.asked.now.items = omega arith in
    changed (settled_by (granted_in (coded c.args.asks.now c.args.codes.now)) c.args.asks.now) c.args.asked.now.items c.loop-at.asked.items c.loop-at.at c.index_mut-earlier.result.now c.settle.new.self inside c.loop-at.invariant
    (c.settle.ensures ∙ ap (settled_by (granted_in (coded c.args.asks.now c.args.codes.now)) c.args.asks.now) c.index_mut-earlier.ensures.value)
