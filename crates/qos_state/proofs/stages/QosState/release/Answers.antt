use Rattle.std.proofs.Common.{◌≡◌, ◌≤◌, ◌+◌, true, arith, ap, ◌∙◌}
use Rattle.std.specs.Prelude.{length}
use Rattle.std.proofs.lemmas.List.{length_push}
use Rattle.qos_state.specs.Deliveries.{is_among, Deliveries}
use Rattle.qos_state.proofs.Rooms.{fewer, apart_released}
use Rattle.qos_state.proofs.stages.QosState.release.Goals as goal

pub invariant_of-self : goal.invariant_of-self
invariant_of-self g c =
    let inside = c.self.inside in
    let id = c.args.id in
    let sent : is_among inside.exactly_once id ≡ true = ap (λ (d : Deliveries). is_among d.exactly_once id) c.self.view_is ∙ c.requires.sent in (
      omega (arith, c.self.invariant.0, ap length c.take.ensures.others, ap length c.push.ensures, length_push inside.released id, fewer id inside.exactly_once sent),
      rw (c.take.ensures.others, c.push.ensures) (apart_released id inside.exactly_once inside.released c.self.invariant.1),
    )
