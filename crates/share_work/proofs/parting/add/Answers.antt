use Rattle.share_work.proofs.Parts.{added}
use Rattle.share_work.proofs.parting.add.Goals as goal

pub returns : goal.returns
returns c = λ tasks lines are. added c.args.parts.now.items c.args.line c.index_mut.result.now c.push.new.self c.requires.task c.index_mut.ensures.value c.in_ok-push.ensures.ok tasks lines are
