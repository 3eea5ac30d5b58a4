use Rattle.std.proofs.Common.{arith}
use Rattle.stream_blocks.proofs.Bits.{lowest_set}
use Rattle.stream_blocks.proofs.words.place_in.Goals as goal

pub overflow_cast-result : goal.overflow_cast-result
overflow_cast-result c =
    let low = lowest_set c.args.words.now c.args.at c.requires.some (omega (arith, c.type_inv.words c.args.at)) in
    omega (arith, c.requires.small _ low.1)

pub overflow_mul-result : goal.overflow_mul-result
overflow_mul-result c =
    let low = lowest_set c.args.words.now c.args.at c.requires.some (omega (arith, c.type_inv.words c.args.at)) in
    omega (arith, c.requires.small _ low.1)

pub overflow_add-result : goal.overflow_add-result
overflow_add-result c =
    let low = lowest_set c.args.words.now c.args.at c.requires.some (omega (arith, c.type_inv.words c.args.at)) in
    omega (arith, c.requires.small _ low.1)
