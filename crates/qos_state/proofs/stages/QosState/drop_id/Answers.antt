use Rattle.std.proofs.Common.{arith, ap}
use Rattle.std.specs.Prelude.{length}
use Rattle.qos_state.proofs.Rooms.{no_more, apart_without}
use Rattle.qos_state.proofs.stages.QosState.drop_id.Goals as goal

pub invariant_of-self : goal.invariant_of-self
invariant_of-self g c =
    let inside = c.self.inside in
    let id = c.args.id in (
      omega (
        arith,
        c.self.invariant.0,
        ap length c.take.ensures.others,
        ap length c.take-2.ensures.others,
        ap length c.take-3.ensures.others,
        no_more id inside.at_least_once,
        no_more id inside.exactly_once,
        no_more id inside.released,
      ),
      rw (c.take-2.ensures.others, c.take-3.ensures.others) (apart_without id inside.exactly_once inside.released c.self.invariant.1),
    )
