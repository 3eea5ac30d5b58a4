use Rattle.std.proofs.Common.{arith}
use Rattle.stream_blocks.proofs.Chunks.{at_break, at_chunk, at_other}
use Rattle.stream_blocks.proofs.strings.chunks_end.Goals as goal

pub returns-in-Some-clause-value : goal.returns-in-Some-clause-value
returns-in-Some-clause-value c = at_break c.args.major c.chunks.rest.now _ _ c.in-Some.ensures.value c.chunks.invariant.so_far

pub chunks-preserved : goal.chunks-preserved
chunks-preserved c = record {
  within = omega (arith, c.chunks.invariant.within, c.in-Some-piece_at.ensures.shorter);
  so_far = at_chunk c.args.major c.chunks.rest.now _ _ _ c.in_default.ensures.value c.in-Some-piece_at.ensures.value c.chunks.invariant.so_far;
}

pub returns-in-None-clause-value : goal.returns-in-None-clause-value
returns-in-None-clause-value c = at_other c.args.major c.chunks.rest.now _ c.in_default.ensures.value c.in-None.ensures.value c.chunks.invariant.so_far
