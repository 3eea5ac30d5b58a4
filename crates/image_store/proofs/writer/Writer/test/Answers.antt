use Rattle.std.proofs.Common.{length, arith}
use Rattle.std.proofs.lemmas.List.{length-take-le}
use Rattle.image_store.proofs.Pieces.{front_is}
use Rattle.image_store.proofs.writer.Writer.test.Goals as goal

pub returns-clause-begins : goal.returns-clause-begins
returns-clause-begins g c bytes told =
    rw (front_is bytes _ c.read_at.new.buf (length c.args.magic.now) _ c.in_ok-read_at.ensures.len (length-take-le (length c.args.magic.now) _ (omega (arith, c.requires.short))) (c.in_ok-read_at.ensures.bytes bytes told)) at c.is_same.ensures
