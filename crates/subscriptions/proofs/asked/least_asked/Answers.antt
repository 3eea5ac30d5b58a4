use Rattle.std.proofs.Common.{◌&&◌, not, arith}
use Rattle.std.specs.List.{list_any}
use Rattle.topic_filter.specs.Fitting.{fits}
use Rattle.subscriptions.specs.Routing.{Asked}
use Rattle.subscriptions.proofs.Leasts.{least_more, least_all}
use Rattle.subscriptions.proofs.asked.least_asked.Goals as goal

pub loop-open-preserved : goal.loop-open-preserved
loop-open-preserved c =
    least_more (λ (a : Asked). a.task) (λ (a : Asked). not a.left && list_any (λ ask. fits ask.filter c.args.name.now) a.asks) c.args.asked.now c.loop-open.open-index c.open-item.result c.args.from c.loop-open.least c.nearest-least.result
    (omega arith) c.open-item.is c.loop-open.invariant c.nearest-least.ensures

pub returns : goal.returns
returns c =
    least_all (λ (a : Asked). a.task) (λ (a : Asked). not a.left && list_any (λ ask. fits ask.filter c.args.name.now) a.asks) c.args.asked.now c.loop-open.open-index c.args.from c.loop-open.least c.loop-open-test.false c.loop-open.invariant
