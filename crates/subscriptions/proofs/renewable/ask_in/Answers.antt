use Rattle.std.proofs.Common.{◌∙◌, ap}
use Rattle.std.specs.Option.{unwrap_or}
use Rattle.mqtt_packet.specs.declared.qos.Qos.TheVariants.{AtMostOnce}
use Rattle.subscriptions.proofs.Orders.{first_qos_is}
use Rattle.subscriptions.proofs.renewable.ask_in.Goals as goal

pub returns : goal.returns
returns g c =
    let qos = c.unwrap_or.ensures ∙ ap (λ first. unwrap_or first AtMostOnce) c.first_qos.ensures ∙ first_qos_is c.args.granted.now c.args.filter.now in
    let filter = c.in_ok-from_str.ensures in
    λ i. record { filter = filter i; qos = qos i }
