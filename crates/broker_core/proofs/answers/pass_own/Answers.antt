use Rattle.std.proofs.Common.{◌∷◌, [], ◌++◌}
use Rattle.broker_core.specs.declared.link.Link.TheVariants as links
use Rattle.broker_core.specs.Kept.{keeps}
use Rattle.broker_core.proofs.Publishing.{own_passed}
use Rattle.broker_core.proofs.answers.pass_own.Goals as goal

pub returns-in-Accepted-clause-ok : goal.returns-in-Accepted-clause-ok
returns-in-Accepted-clause-ok c =
    let answered = c.in_ok-answered.answered in
    own_passed c.args.link.now c.in-Accepted.clean c.in-Accepted.session c.args.qos c.args.topic.now c.args.message.now (keeps c.args.link.now c.args.others.now c.args.passed.now)
    (keeps (links.Accepted c.in-Accepted.clean c.pass_on.new.session) c.pass_on.new.others (c.args.passed.now ++ c.args.message.now ∷ [])) c.new-packets.result answered.replies.packets answered.replies.close
    c.in-Accepted.is c.new-packets.ensures c.in_ok-answered.ensures.goes_on.0 (c.in_ok-answered.ensures.ok c.in-Accepted.clean c.args.link.now)
