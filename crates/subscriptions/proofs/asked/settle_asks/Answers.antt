use Rattle.std.proofs.Common.{◌<◌, length, arith}
use Rattle.agent_table.specs.Routes.{coded, granted_in}
use Rattle.subscriptions.specs.Routing.{settled}
use Rattle.subscriptions.proofs.Lists.{changed}
use Rattle.subscriptions.proofs.asked.settle_asks.Goals as goal

pub loop-ask-preserved : goal.loop-ask-preserved
loop-ask-preserved c =
    let inside : c.loop-ask.ask-index < length c.args.own.now.items = omega arith in
    changed (settled (granted_in (coded c.args.asks.now c.args.codes.now)) c.args.asks.now) c.args.own.now.items c.loop-ask.ask-items c.loop-ask.ask-index c.ask-item.result c.settle.new.ask inside c.loop-ask.invariant c.settle.ensures
