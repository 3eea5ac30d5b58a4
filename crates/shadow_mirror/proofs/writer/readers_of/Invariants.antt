use Rattle.std.proofs.Common.{◌≡◌, replicate}
use Rattle.left_right.specs.Sides.{view}
use Rattle.shadow_mirror.proofs.writer.readers_of.Given as goal

abbrev pub invariant-loop : goal.invariant-loop
invariant-loop l = record {
  known : view l.writer.desk.place ≡ view l.fn.writer.desk.place;
  shown : l.writer.desk.shown ≡ l.fn.writer.desk.shown;
  log : l.writer.log ≡ l.fn.writer.log;
  behind : l.writer.behind ≡ l.fn.writer.behind;
  all : l.all.items ≡ replicate l.counter (record { book = l.history.book; seen = l.history.changes; told = l.history.changes });
}
