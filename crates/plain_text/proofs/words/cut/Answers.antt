use Rattle.plain_text.proofs.Cuts.{cut_found, cut_nowhere}
use Rattle.plain_text.proofs.words.cut.Goals as goal

pub returns-in-Some : goal.returns-in-Some
returns-in-Some c =
    let first = c.in-Some.ensures in
    let found = cut_found c.args.mark c.args.bytes.now c.in-Some.at first.0.high first.0.before first.1 in
    rw (c.split_at.ensures.front, c.split_at-in-Some.ensures.back, c.split_at.ensures.back) found

pub returns-in-None : goal.returns-in-None
returns-in-None c = cut_nowhere c.args.mark c.args.bytes.now c.in-None.ensures
