use Rattle.std.proofs.Common.{arith}
use Rattle.topic_filter.specs.Fitting.{fits}
use Rattle.subscriptions.specs.Routing.{Granted}
use Rattle.subscriptions.proofs.Leasts.{least_more, least_all}
use Rattle.subscriptions.proofs.granted.least_granted.Goals as goal

pub loop-k-preserved : goal.loop-k-preserved
loop-k-preserved g c =
    least_more (λ (g : Granted). g.task) (λ (g : Granted). fits g.topics c.args.name.now) c.args.granted.now c.loop-k.k c.at-route.result.now c.args.from c.loop-k.least c.nearest-least.result
    (omega arith) c.at-route.ensures c.loop-k.invariant c.nearest-least.ensures

pub returns : goal.returns
returns g c = least_all (λ (g : Granted). g.task) (λ (g : Granted). fits g.topics c.args.name.now) c.args.granted.now c.loop-k.k c.args.from c.loop-k.least (omega (arith, c.loop-k-test.false)) c.loop-k.invariant
