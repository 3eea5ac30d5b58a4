use Rattle.std.proofs.Common.{arith}
use Rattle.stream_blocks.proofs.Bits.{is_first, none_on, none_at_all}
use Rattle.stream_blocks.proofs.words.first_set.Goals as goal

pub returns-then-word-ne0-clause-some : goal.returns-then-word-ne0-clause-some
returns-then-word-ne0-clause-some c =
    rw c.place_in.ensures (is_first c.args.words.now c.loop-at.at (omega (arith, c.if-word-ne0.true)) (omega (arith, c.type_inv.words c.loop-at.at)) c.loop-at.invariant)

pub loop-at-preserved : goal.loop-at-preserved
loop-at-preserved c = none_on c.args.words.now c.loop-at.at c.if-word-ne0.false c.loop-at.invariant

pub returns-clause-none : goal.returns-clause-none
returns-clause-none c = none_at_all c.args.words.now c.loop-at.at c.loop-at-test.false c.loop-at.invariant
