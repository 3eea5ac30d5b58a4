use Rattle.std.proofs.Common.{◌+◌, ◌∙◌, ap, count_ones, arith, sym}
use Rattle.std.specs.List.{sum_by}
use Rattle.std.proofs.lemmas.List.{take_all}
use Rattle.std.proofs.lemmas.List.Sums.{sum_by_more, sum_by-take-le}
use Rattle.stream_blocks.proofs.Bits.{all_ones}
use Rattle.stream_blocks.proofs.words.count_set.Goals as goal

pub overflow_add-total : goal.overflow_add-total
overflow_add-total c =
    let words = c.args.words.now in
    let at = c.loop-word.word-index in
    omega (arith, c.requires, c.loop-word.invariant, all_ones words (λ k. omega (arith, c.type_inv.words k)), sum_by_more count_ones words at 0 c.loop-word-test.true, sum_by-take-le count_ones words (at + 1))

pub returns : goal.returns
returns c =
    let words = c.args.words.now in
    c.loop-word.invariant ∙ ap (sum_by count_ones) (take_all c.loop-word.word-index words c.loop-word-test.false) ∙ sym (all_ones words (λ k. omega (arith, c.type_inv.words k)))
