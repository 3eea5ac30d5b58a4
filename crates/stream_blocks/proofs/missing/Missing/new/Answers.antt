use Rattle.std.proofs.Common.{arith}
use Rattle.stream_blocks.proofs.Bits.{kept_first, all_missing}
use Rattle.stream_blocks.proofs.missing.Missing.new.Goals as goal

pub invariant_of-result : goal.invariant_of-result
invariant_of-result g c = (
  omega (arith, c.loop.invariant.len, c.loop-test.false, c.loop.auto.counter-end),
  kept_first c.args.count c.loop.words.items (omega (arith, c.requires.0)) (omega (arith, c.loop.invariant.len, c.loop-test.false, c.loop.auto.counter-end, c.requires.1)) (omega (arith, c.ranges.count.fits)) c.loop.invariant.words,
)

pub returns : goal.returns
returns g c = all_missing c.args.count c.loop.words.items (omega (arith, c.loop.invariant.len, c.loop-test.false, c.loop.auto.counter-end, c.requires.1)) c.loop.invariant.words
