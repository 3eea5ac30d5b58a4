use Rattle.std.proofs.Common.{ℕ, ◌-◌, ◌^◌, ap, ◌∙◌, arith}
use Rattle.std.proofs.lemmas.Nat.Bits.{ones_shr}
use Rattle.stream_blocks.proofs.words.low_bits.Goals as goal

pub returns : goal.returns
returns c = ones_shr 64 (64 - c.args.number) (omega arith) ∙ ap (λ (k : ℕ). 2 ^ k - 1) (omega (arith, c.requires))
