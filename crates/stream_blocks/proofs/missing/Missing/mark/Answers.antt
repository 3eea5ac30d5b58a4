use Rattle.std.proofs.Common.{◌≡◌, ℕ, ◌<◌, List, length, take, ap, ◌∙◌, arith}
use Rattle.std.proofs.lemmas.List.{with_items_is}
use Rattle.stream_blocks.specs.Sets.{all_bits}
use Rattle.stream_blocks.proofs.Bits.{flags_len, marked_view}
use Rattle.stream_blocks.proofs.missing.Missing.mark.Goals as goal

pub returns-clause-marked : goal.returns-clause-marked
returns-clause-marked g c =
    let kept = c.self.invariant.1 in
    let blocks = c.self.inside.blocks in
    let words = c.self.inside.words.items in
    let viewed : length (take blocks (all_bits words)) ≡ length c.args.self.now = ap length c.self.view_is in
    let low : c.args.i < blocks = omega (arith, c.requires, viewed, flags_len blocks words kept) in
    let same = with_items_is c.self.inside.words c.clear.new.words (c.clear.ensures.len ∙ c.as_mut_slice.ensures.len) in
    ap (λ (t : List ℕ). take blocks (all_bits t)) same ∙ rw (← c.self.view_is) (marked_view blocks c.args.i words c.clear.new.words kept low (rw (← c.as_mut_slice.ensures.value) c.clear.ensures.cleared))
