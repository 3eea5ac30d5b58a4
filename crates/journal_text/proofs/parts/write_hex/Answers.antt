use Rattle.std.proofs.Common.{refl, arith}
use Rattle.agent_link.proofs.Writing.{stopped}
use Rattle.journal_text.proofs.Piecewise.{hex_none, hex_stopped}
use Rattle.journal_text.proofs.parts.write_hex.Goals as goal

pub loop-at-init : goal.loop-at-init
loop-at-init g c = record {
  within = omega arith;
  so_far = hex_none (g.O.Sink.written c.args.out.now) c.args.bytes.now;
  faults = refl;
}

pub returns-in_err-write_digits-clause-text : goal.returns-in_err-write_digits-clause-text
returns-in_err-write_digits-clause-text g c =
    stopped _ _ _ c.from_residual.result _ c.from_residual.ensures.1
    (hex_stopped _ _ _ c.args.bytes.now c.split_at.result.1.now c.split_at-in-loop-at.result.0.now c.loop-at.at c.min.result c.loop-at.invariant.so_far c.in_err-write_digits.ensures.text
    c.split_at-in-loop-at.ensures.front c.split_at.ensures.back)
