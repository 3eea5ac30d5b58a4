use Rattle.std.proofs.Common.{refl, arith}
use Rattle.mirror_run.proofs.Rows.{row_more}
use Rattle.mirror_run.proofs.printing.rows_of.Goals as goal

pub loop-version-preserved : goal.loop-version-preserved
loop-version-preserved c =
    let at = c.loop-version in
    record {
      so_far = row_more c.args.versions.now at.rows.items c.push.new.self.items at.version-index at.reader _ 0 c.loop-version-test.true at.invariant.number refl at.invariant.so_far c.in_ok-push.ensures.items;
      number = omega (arith, at.invariant.number);
    }
