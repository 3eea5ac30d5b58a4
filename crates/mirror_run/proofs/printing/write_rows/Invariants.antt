-- The lines of so many rows were written.
use Rattle.std.proofs.Common.{◌≡◌, ◌++◌, take, flat_map}
use Rattle.mirror_run.specs.Answers.{reader_line}
use Rattle.mirror_run.proofs.printing.write_rows.Given as goal

abbrev pub invariant-loop-row : goal.invariant-loop-row
invariant-loop-row l = l.page ≡ l.fn.page ++ flat_map (reader_line l.reads) (take l.row-index l.rows)
