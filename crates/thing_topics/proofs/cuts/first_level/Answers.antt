use Rattle.thing_topics.proofs.Cutting.{cut_level, cut_whole}
use Rattle.thing_topics.proofs.cuts.first_level.Goals as goal

pub returns-in-Some : goal.returns-in-Some
returns-in-Some c = cut_level c.args.text.now (c.in-Some.level, c.in-Some.below) c.in-Some.ensures.cases

pub returns-in-None : goal.returns-in-None
returns-in-None c = cut_whole c.args.text.now c.split_once.result c.split_once.ensures.cases c.in-None.is
