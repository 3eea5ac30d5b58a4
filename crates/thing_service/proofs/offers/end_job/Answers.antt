use Rattle.std.proofs.Common.{◌<◌, length, arith}
use Rattle.thing_service.specs.Offers.{ended}
use Rattle.thing_service.proofs.Lists.{changed}
use Rattle.thing_service.proofs.offers.end_job.Goals as goal

pub loop-offer-preserved : goal.loop-offer-preserved
loop-offer-preserved c =
    let inside : c.loop-offer.offer-index < length c.args.offers.now.items = omega arith in
    changed (ended c.args.name.now) c.args.offers.now.items c.loop-offer.offer-items c.loop-offer.offer-index c.offer-item.result c.end.new.self inside c.loop-offer.invariant c.end.ensures
