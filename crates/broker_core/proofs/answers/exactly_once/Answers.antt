use Rattle.std.proofs.Common.{◌≡◌, Bool, false, rules}
use Rattle.mqtt_packet.specs.declared.qos.Qos.TheVariants.{ExactlyOnce}
use Rattle.agent_table.specs.Deliveries.{is_among}
use Rattle.broker_core.specs.declared.link.Link.{Link}
use Rattle.broker_core.specs.declared.link.Link.TheVariants as links
use Rattle.broker_core.specs.Kept.{keeps}
use Rattle.broker_core.specs.Rules.{publish_at, passes_on}
use Rattle.broker_core.proofs.Publishing.{first_time, passed_on}
use Rattle.broker_core.proofs.answers.exactly_once.Goals as goal

pub returns-else-is_err-clause-ok : goal.returns-else-is_err-clause-ok
returns-else-is_err-clause-ok c =
    let new : is_among c.args.session.now.received c.args.id ≡ false = search rules in
    let k = λ (link : Link). keeps link c.args.others.now c.args.passed.now in
    let before = λ (clean : Bool). links.Accepted clean c.args.session.now in
    passed_on c.pass_on-answered.result (λ clean. publish_at ExactlyOnce clean c.args.session.now c.args.topic.now c.args.id c.args.message.now (k (before clean)))
    (λ clean link. passes_on c.in_ok-packets.packets clean c.enter.new.self ExactlyOnce c.args.topic.now c.args.message.now (k link)) before (λ clean. links.Accepted clean c.pass_on-answered.new.session)
    c.pass_on-answered.new.others c.args.passed.now c.args.message.now
    (λ clean. first_time clean c.args.session.now c.enter.new.self c.args.topic.now c.args.id c.args.message.now (k (before clean)) c.in_ok-packets.packets new c.in_ok-enter.ensures.ok c.in_ok-packets.ensures)
    c.pass_on-answered.ensures.ok c.pass_on-answered.ensures.goes_on
