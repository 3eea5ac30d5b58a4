use Rattle.std.proofs.Common.{◌<◌, length, arith}
use Rattle.subscriptions.specs.Routing.{leaves}
use Rattle.subscriptions.proofs.Lists.{changed}
use Rattle.subscriptions.proofs.asked.leave_all.Goals as goal

pub loop-open-preserved : goal.loop-open-preserved
loop-open-preserved c =
    let inside : c.loop-open.open-index < length c.args.asked.now.items = omega arith in
    changed (leaves c.args.task) c.args.asked.now.items c.loop-open.open-items c.loop-open.open-index c.open-item.result c.leave.new.self inside c.loop-open.invariant c.leave.ensures
