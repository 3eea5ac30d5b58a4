use Rattle.std.proofs.Common.{arith}
use Rattle.topic_filter.proofs.Parts.{place_found}
use Rattle.topic_filter.proofs.levels.level_len.Goals as goal

pub returns-else-text-len-ne47-clause-place : goal.returns-else-text-len-ne47-clause-place
returns-else-text-len-ne47-clause-place c = place_found _ _ c.loop-len.invariant.within c.loop-len.invariant.before (λ _. c.if-text-len-ne47.false)

pub returns-after-loop-len-clause-place : goal.returns-after-loop-len-clause-place
returns-after-loop-len-clause-place c = place_found _ _ c.loop-len.invariant.within c.loop-len.invariant.before (λ below. absurd (omega arith))
