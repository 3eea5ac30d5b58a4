use Rattle.std.proofs.Common.{rules, length}
use Rattle.stream_blocks.specs.Spelling as spelling
use Rattle.stream_blocks.proofs.Puts.{two_puts}
use Rattle.stream_blocks.proofs.block.write_block.Goals as goal

pub returns-clause-text : goal.returns-clause-text
returns-clause-text c =
    two_puts c.put.new.out c.put-at.new.out c.args.out.now (spelling.block_front c.args.file c.args.index (length c.args.payload.now)) c.args.payload.now c.put.result c.put-at.result
    (search rules) c.put-at.ensures.back c.put.ensures.front c.put.ensures.back c.put.ensures.end (search rules)
