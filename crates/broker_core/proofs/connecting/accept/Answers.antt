use Rattle.std.proofs.Common.{◌≡◌, Some}
use Rattle.std.specs.List.{position}
use Rattle.broker_core.specs.Session.{is_of}
use Rattle.broker_core.proofs.Resuming.{goes_on, with_both}
use Rattle.broker_core.proofs.connecting.accept.Goals as goal

pub returns-in-Some-clause-ok : goal.returns-in-Some-clause-ok
returns-in-Some-clause-ok c =
    let at : position (is_of c.args.client.now) c.args.others.now.items ≡ Some c.in-Some.place = cc in
    with_both c.resume.result _ _ _ _
    (λ r replies link left. goes_on c.args.clean c.args.client.now c.args.link.now c.resume.new.link c.args.others.now.items c.resume.new.others.items c.args.passed.now c.in-Some.place r c.if-clean.false at replies link left)
    c.resume.ensures.ok c.resume.ensures.link c.resume.ensures.others
