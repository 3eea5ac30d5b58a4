use Rattle.std.proofs.Common.{arith}
use Rattle.broker_core.specs.Session as spec
use Rattle.broker_core.proofs.Offers.{changed}
use Rattle.broker_core.proofs.passing.offer_all.Goals as goal

pub loop-at-preserved : goal.loop-at-preserved
loop-at-preserved c =
    changed (spec.offered c.args.qos c.args.name.now c.args.place) c.args.sessions.now c.loop-at.sessions c.loop-at.at c.index-sessions-at.result c.offer.new.self (omega arith) c.loop-at.invariant c.in_default.ensures.ok
