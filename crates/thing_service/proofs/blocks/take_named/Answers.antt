use Rattle.std.proofs.Common.{◌+◌, ◌-◌, ◌/◌, ◌++◌, ℕ, ap, sym, ◌∙◌, arith}
use Rattle.stream_blocks.specs.Sets.{bits}
use Rattle.thing_service.specs.Blocks.{more}
use Rattle.thing_service.proofs.Naming.{bit_passed, next_place, bits_done, bits_begin}
use Rattle.thing_service.proofs.blocks.take_named.Goals as goal

pub loop-bit-init : goal.loop-bit-init
loop-bit-init c rest = bits_begin c.args.number c.args.blocks c.args.at c.args.byte c.args.found.now.items rest

pub loop-bit-preserved : goal.loop-bit-preserved
loop-bit-preserved c rest =
    let at = c.args.at in
    let bit = c.loop-bit.bit in
    let left = c.loop-bit.left in
    let flags = bits (8 - (bit + 1)) (left / 2) ++ rest in
    ap (λ (k : ℕ). more c.args.number c.args.blocks k c.take_one.new.found.items flags) (next_place at bit) ∙ c.in_ok-take_one.ensures flags
    ∙ sym (bit_passed c.args.number c.args.blocks at bit left c.loop-bit.found.items rest (omega (arith, c.loop-bit-test.true))) ∙ c.loop-bit.invariant rest

pub returns : goal.returns
returns c rest =
    bits_done c.args.number c.args.blocks c.args.at c.loop-bit.bit c.loop-bit.left c.loop-bit.found.items rest (omega (arith, c.loop-bit-test.false)) (omega (arith, c.loop-bit.auto.bit-end)) ∙ c.loop-bit.invariant rest
