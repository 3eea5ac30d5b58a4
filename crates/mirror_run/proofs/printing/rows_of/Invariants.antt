-- The rows so far.
use Rattle.std.proofs.Common.{◌≡◌, take}
use Rattle.mirror_run.specs.Answers.{numbered}
use Rattle.mirror_run.proofs.printing.rows_of.Given as goal

abbrev pub invariant-loop-version : goal.invariant-loop-version
invariant-loop-version l = record {
  so_far : l.rows.items ≡ numbered 0 (take l.version-index l.versions);
  number : l.reader ≡ l.version-index;
}
