use Rattle.std.proofs.Common.{arith}
use Rattle.stream_blocks.proofs.request.put_request.Goals as goal

pub put_number-requires : goal.put_number-requires
put_number-requires c =
    omega (
      arith,
      c.requires.short,
      c.requires.room,
      c.put_head-at.ensures.most,
      c.put_token-at.ensures.end,
      c.put_number-at.ensures.most,
      c.put_number-at-2.ensures.most,
      c.put_number-at-3.ensures.most,
      c.put_bytes-at.ensures.most,
      c.put_head-at.ensures.len,
      c.put_token-at.ensures.len,
      c.put_number-at.ensures.len,
      c.put_number-at-2.ensures.len,
      c.put_number-at-3.ensures.len,
      c.put_bytes-at.ensures.len,
    )

pub returns-clause-most : goal.returns-clause-most
returns-clause-most c =
    omega (arith, c.requires.short, c.put_head-at.ensures.most, c.put_token-at.ensures.end, c.put_number-at.ensures.most, c.put_number-at-2.ensures.most, c.put_number-at-3.ensures.most, c.put_bytes-at.ensures.most, c.put_number.ensures.most)
