use Rattle.std.proofs.Common.{◌≡◌, length, take, drop, ap, ◌∙◌, arith, length-append}
use Rattle.std.proofs.lemmas.List.{length-take-le, length-drop, take_all}
use Rattle.image_store.specs.Banks.{fresh_of}
use Rattle.image_store.proofs.Pieces.{told_len, next_piece}
use Rattle.image_store.proofs.digest.digest_of.Goals as goal

pub loop-at-preserved : goal.loop-at-preserved
loop-at-preserved g c =
    let count = c.min-count.result in
    let piece = c.loop-at.piece in
    let buf = c.read_at.new.buf in
    let all : length (take count piece) ≡ count = length-take-le count piece (omega (arith, c.loop-at.invariant.piece, c.min-count.ensures)) in
    let len : length buf ≡ length (take count piece) = c.in_ok-read_at.ensures.len in record {
      low = omega (arith, c.min-count.ensures, c.loop-at-test.true);
      piece = length-append buf (drop count piece) ∙ omega (arith, len, all, length-drop count piece, c.loop-at.invariant.piece, c.min-count.ensures);
      shape = c.in_ok-read_at.ensures.shape ∙ c.loop-at.invariant.shape;
      contents = c.in_ok-read_at.ensures.contents ∙ c.loop-at.invariant.contents;
      faults = omega (arith, c.in_ok-read_at.ensures.cause.later, c.loop-at.invariant.faults);
      held = λ bytes told. rw (next_piece bytes piece buf c.loop-at.at count (length (take count piece)) len all (c.in_ok-read_at.ensures.bytes bytes (ap fresh_of c.loop-at.invariant.contents ∙ told)))
          at (c.update.ensures (take c.loop-at.at bytes) (c.loop-at.invariant.held bytes told));
    }

pub returns-clause-digest : goal.returns-clause-digest
returns-clause-digest g c bytes told =
    let size = told_len (g.B.Bank.shape c.args.bank.now) (g.B.Bank.contents c.args.bank.now) c.args.size bytes (g.met.B.Bank.agrees c.args.bank.now) c.requires.made told in
    c.finalize.ensures bytes (rw (take_all c.loop-at.at bytes (omega (arith, size, c.loop-at-test.false))) at (c.loop-at.invariant.held bytes told))
