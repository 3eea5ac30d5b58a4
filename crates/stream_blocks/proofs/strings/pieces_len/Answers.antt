use Rattle.std.proofs.Common.{arith}
use Rattle.stream_blocks.proofs.Chunks.{len_more, len_end}
use Rattle.stream_blocks.proofs.strings.pieces_len.Goals as goal

pub pieces-preserved : goal.pieces-preserved
pieces-preserved c = record {
  within = omega (arith, c.pieces.invariant.within, c.in-Some.ensures.shorter);
  so_far = len_more c.pieces.rest.now _ _ _ _ c.in-Some.ensures.value c.pieces.invariant.so_far;
}

pub returns-in-None : goal.returns-in-None
returns-in-None c = len_end c.pieces.rest.now _ _ c.in-None.ensures.value c.pieces.invariant.so_far
