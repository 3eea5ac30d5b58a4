use Rattle.std.proofs.Common.{◌+◌, ◌++◌, ◌∙◌, List, ℕ, length, ap, arith}
use Rattle.stream_blocks.specs.Reading.{pieces_content}
use Rattle.stream_blocks.proofs.Chunks.{room_more, put_more, put_end, drop_on}
use Rattle.stream_blocks.proofs.strings.put_pieces.Goals as goal

pub put-at-requires : goal.put-at-requires
put-at-requires c = omega (arith, room_more c.pieces.rest.now _ _ _ _ c.in-Some.ensures.value c.pieces.invariant.room)

pub pieces-preserved : goal.pieces-preserved
pieces-preserved c =
    let inv = c.pieces.invariant in
    let here = c.in-Some.ensures.value in
    let left = pieces_content (length c.in-Some.behind.now + 1) c.in-Some.behind.now in
    record {
      len = c.put-at.ensures.len ∙ inv.len;
      room = omega (arith, c.put-at.ensures.end, c.put-at.ensures.len, room_more c.pieces.rest.now _ _ _ _ here inv.room);
      so_far = ap (λ (t : List ℕ). t ++ left) c.put-at.ensures.front ∙ put_more c.pieces.rest.now _ _ _ _ here inv.so_far;
      back = c.put-at.ensures.back ∙ drop_on _ _ _ _ _ c.put-at.ensures.end inv.back;
    }

pub returns-in-None : goal.returns-in-None
returns-in-None c = put_end c.pieces.rest.now _ _ _ _ c.in-None.ensures.value c.pieces.invariant.so_far c.pieces.invariant.back (omega (arith, c.pieces.invariant.room))
