use Rattle.std.proofs.Common.{◌≡◌, length, take, drop, refl, subst, ap, ◌∙◌, arith, List, ℕ}
use Rattle.std.proofs.lemmas.List.{length-take-le, length-drop, length-append}
use Rattle.sha2.specs.Hashers.{Holds256}
use Rattle.sha2.specs.Sha256.{sha256}
use Rattle.thing_service.specs.Generator.{bytes}
use Rattle.thing_service.proofs.Bytes.{bytes_len, piece_more, no_bytes}
use Rattle.thing_service.proofs.images.digest_of.Goals as goal

pub loop-at-init : goal.loop-at-init
loop-at-init c = record { low = omega arith; piece = refl; held = subst (λ (t : List ℕ). Holds256 c.new-hasher.result t) (no_bytes c.args.seed) c.new-hasher.ensures }

pub loop-at-preserved : goal.loop-at-preserved
loop-at-preserved c =
    let count = c.min-count.result in
    let piece = c.loop-at.piece in
    let all : length (take count piece) ≡ count = length-take-le count piece (omega (arith, c.loop-at.invariant.piece, c.min-count.ensures)) in
    let len : length c.fill.new.out ≡ count = ap (λ (t : List ℕ). length t) c.fill.ensures ∙ bytes_len c.args.seed c.loop-at.at (length (take count piece)) ∙ all in
    record {
      low = omega (arith, c.min-count.ensures, c.loop-at-test.true);
      piece = length-append c.fill.new.out (drop count piece) ∙ omega (arith, len, length-drop count piece, c.loop-at.invariant.piece, c.min-count.ensures);
      held = subst (λ (t : List ℕ). Holds256 c.update.new.self t) (piece_more c.args.seed c.loop-at.at count (length (take count piece)) piece c.fill.new.out all c.fill.ensures)
          (c.update.ensures (bytes c.args.seed 0 c.loop-at.at) c.loop-at.invariant.held);
    }

pub returns : goal.returns
returns c =
    let all : c.loop-at.at ≡ c.args.size = omega (arith, c.loop-at-test.false, c.loop-at.invariant.low) in
    c.finalize.ensures (bytes c.args.seed 0 c.loop-at.at) c.loop-at.invariant.held ∙ ap (λ (n : ℕ). sha256 (bytes c.args.seed 0 n)) all
