use Rattle.std.proofs.Common.{◌≡◌, ◌*◌, ◌-◌, ap, sym, ◌∙◌, arith, min}
use Rattle.stream_blocks.specs.Spelling as spelling
use Rattle.thing_service.specs.Blocks.{block_in, message}
use Rattle.thing_service.specs.Generator.{bytes}
use Rattle.thing_service.proofs.Bytes.{bytes_at, block_is, ok_same}
use Rattle.thing_service.proofs.blocks.block.Goals as goal

pub returns : goal.returns
returns c =
    let offer = c.args.offer.now in
    let size = c.args.size in
    let at = c.args.index * size in
    let same : bytes offer.seed (size * c.args.index) c.min.result ≡ block_in offer size c.args.index =
    bytes_at offer.seed (size * c.args.index) at c.min.result (min (offer.job.size - at) size) (omega arith) (omega (arith, c.min.ensures, c.saturating_sub-left.ensures)) ∙ sym (block_is offer.seed offer.job.size size at) in
    ok_same c.message.result (spelling.block offer.job.file c.args.index (bytes offer.seed (size * c.args.index) c.min.result)) (message offer size c.args.index) (ap (spelling.block offer.job.file c.args.index) same) c.message.ensures
