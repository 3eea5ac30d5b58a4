use Rattle.std.proofs.lemmas.Result.{err_from_is_err_and}
use Rattle.stream_blocks.proofs.Members.{at_map_end, at_member, at_stop}
use Rattle.stream_blocks.proofs.map.members_of.Goals as goal

pub returns-in-Some : goal.returns-in-Some
returns-in-Some c = at_map_end c.args.form _ _ c.members.rest.now _ _ c.in-Some.ensures c.members.invariant

pub returns-in_err-more : goal.returns-in_err-more
returns-in_err-more c =
    let stopped = at_stop c.args.form _ _ c.members.rest.now _ _ c.in_default.ensures c.in_err-more.ensures.value c.members.invariant in
    let p = err_from_is_err_and c.from_residual.result c.from_residual.ensures.1 in
    rw (p.1, p.2) stopped

pub members-preserved : goal.members-preserved
members-preserved c =
    rw c.one_less-left.ensures (at_member c.args.form c.members.left c.members.fields c.in_ok-more.more c.members.rest.now c.in_ok-more.behind.now _ c.in_default.ensures c.in_ok-more.ensures.value c.members.invariant)
