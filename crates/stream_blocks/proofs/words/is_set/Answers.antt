use Rattle.std.proofs.Common.{ℕ, ◌/◌, ◌%◌, get_or, ap, sym, ◌∙◌}
use Rattle.std.specs.Prelude.{◌==◌}
use Rattle.std.proofs.lemmas.Nat.Bits.{shr_and_one}
use Rattle.stream_blocks.proofs.Bits.{flag_at}
use Rattle.stream_blocks.proofs.words.is_set.Goals as goal

pub returns : goal.returns
returns c = ap (λ (n : ℕ). n == 1) (shr_and_one (get_or c.args.words.now (c.args.i / 64) 0) (c.args.i % 64)) ∙ sym (flag_at c.args.words.now c.args.i)
