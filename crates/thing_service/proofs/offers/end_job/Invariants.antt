use Rattle.std.proofs.Common.{◌≡◌, ◌++◌, map, take, drop}
use Rattle.thing_service.specs.Offers.{ended}
use Rattle.thing_service.proofs.offers.end_job.Given as goal

abbrev pub invariant-loop-offer : goal.invariant-loop-offer
invariant-loop-offer l = l.offer-items ≡ map (ended l.name) (take l.offer-index l.fn.offers.items) ++ drop l.offer-index l.fn.offers.items
