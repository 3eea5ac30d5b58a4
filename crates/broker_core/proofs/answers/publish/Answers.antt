use Rattle.std.proofs.Common.{◌≡◌, Bool, true, rules}
use Rattle.topic_filter.specs.Texts.{is_name}
use Rattle.broker_core.specs.declared.link.Link.{Link}
use Rattle.broker_core.specs.declared.link.Link.TheVariants as links
use Rattle.broker_core.specs.Kept.{keeps}
use Rattle.broker_core.specs.Rules.{publish, passes_on}
use Rattle.broker_core.proofs.Publishing.{at_most_once, at_least_once, passed_on}
use Rattle.broker_core.proofs.answers.publish.Goals as goal

pub returns-in-AtMostOnce-clause-ok : goal.returns-in-AtMostOnce-clause-ok
returns-in-AtMostOnce-clause-ok c =
    let name : is_name c.args.topic.now ≡ true = search rules in
    let k = λ (link : Link). keeps link c.args.others.now c.args.passed.now in
    let before = λ (clean : Bool). links.Accepted clean c.args.session.now in
    passed_on c.pass_on.result (λ clean. publish c.args.qos clean c.args.session.now c.args.topic.now c.args.id c.args.message.now (k (before clean)))
    (λ clean link. passes_on c.new-packets.result clean c.args.session.now c.args.qos c.args.topic.now c.args.message.now (k link)) before (λ clean. links.Accepted clean c.pass_on.new.session)
    c.pass_on.new.others c.args.passed.now c.args.message.now
    (λ clean. at_most_once c.args.qos clean c.args.session.now c.args.topic.now c.args.id c.args.message.now (k (before clean)) c.new-packets.result c.in-AtMostOnce.is name c.new-packets.ensures)
    c.pass_on.ensures.ok c.pass_on.ensures.goes_on

pub returns-in_ok-packets-in-AtLeastOnce-clause-ok : goal.returns-in_ok-packets-in-AtLeastOnce-clause-ok
returns-in_ok-packets-in-AtLeastOnce-clause-ok c =
    let name : is_name c.args.topic.now ≡ true = search rules in
    let k = λ (link : Link). keeps link c.args.others.now c.args.passed.now in
    let before = λ (clean : Bool). links.Accepted clean c.args.session.now in
    passed_on c.pass_on-in-AtLeastOnce.result (λ clean. publish c.args.qos clean c.args.session.now c.args.topic.now c.args.id c.args.message.now (k (before clean)))
    (λ clean link. passes_on c.in_ok-packets-in-AtLeastOnce.packets clean c.args.session.now c.args.qos c.args.topic.now c.args.message.now (k link)) before (λ clean. links.Accepted clean c.pass_on-in-AtLeastOnce.new.session)
    c.pass_on-in-AtLeastOnce.new.others c.args.passed.now c.args.message.now
    (λ clean. at_least_once c.args.qos clean c.args.session.now c.args.topic.now c.args.id c.args.message.now (k (before clean)) c.in_ok-packets-in-AtLeastOnce.packets c.in-AtLeastOnce.is name c.in_ok-packets-in-AtLeastOnce.ensures)
    c.pass_on-in-AtLeastOnce.ensures.ok c.pass_on-in-AtLeastOnce.ensures.goes_on
