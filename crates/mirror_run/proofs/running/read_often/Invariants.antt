-- The reader stays one of its mirror.
use Rattle.std.proofs.Common.{◌≡◌}
use Rattle.mirror_run.proofs.running.read_often.Given as goal

abbrev pub invariant-loop : goal.invariant-loop
invariant-loop g l = l.reader.book ≡ l.fn.reader.book
