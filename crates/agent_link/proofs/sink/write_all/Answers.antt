use Rattle.std.proofs.Common.{List, ℕ, ◌++◌, ◌∙◌, take, subst, arith, rules}
use Rattle.std.specs.Io.KnownBytes.{Appends}
use Rattle.std.proofs.KnownBytes.{Appends-trans}
use Rattle.std.proofs.Math.Seq.{take-add}
use Rattle.agent_link.proofs.sink.write_all.Goals as goal

pub loop-at-preserved : goal.loop-at-preserved
loop-at-preserved g c = record {
  within = omega (arith, c.in_ok-at.ensures.bound, c.split_at.ensures.back_len);
  so_far =
      rw take-add
      (subst (λ (rest : List ℕ). Appends (g.O.Sink.written c.args.out.now) (g.O.Sink.written c.write.new.self) (take c.loop-at.at c.args.bytes.now ++ take c.in_ok-at.field-0 rest))
      c.split_at.ensures.back (Appends-trans _ _ _ _ _ c.loop-at.invariant.so_far c.in_ok-at.ensures.bytes));
  faults = search rules;
}
