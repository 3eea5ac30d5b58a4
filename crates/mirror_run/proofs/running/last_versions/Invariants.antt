-- The readers that are left are of this mirror, and each version so far is one of all that was published, or a later one.
use Rattle.std.proofs.Common.{◌≡◌, ◌≤◌, ◌+◌, length}
use Rattle.std.specs.List.{All}
use Rattle.std.specs.Result.{IfOk}
use Rattle.std.specs.Vec.Iter.{into_iter_items, into_iter_len}
use Rattle.shadow_mirror.specs.Documents.{doc}
use Rattle.mirror_run.proofs.running.last_versions.Given as goal

abbrev pub invariant-loop-reader : goal.invariant-loop-reader
invariant-loop-reader g l = record {
  kept : l.writer ≡ l.fn.writer;
  books : All (λ reader. IfOk reader (λ r. r.book ≡ l.fn.writer.published.book)) (into_iter_items l.reader-iterator);
  left : into_iter_len l.reader-iterator ≡ length (into_iter_items l.reader-iterator);
  count : length l.versions.items + length (into_iter_items l.reader-iterator) ≡ length l.fn.readers.items;
  late : All (λ version. (doc l.fn.writer.published.changes).version ≤ version) l.versions.items;
}
