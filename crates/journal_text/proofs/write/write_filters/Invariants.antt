-- So many filters were written.
use Rattle.std.proofs.Common.{◌≡◌, ◌≤◌, take}
use Rattle.std.specs.List.{flat_map}
use Rattle.std.specs.Io.KnownBytes.{Appends}
use Rattle.journal_text.specs.Texts.{filter_text}
use Rattle.journal_text.proofs.write.write_filters.Given as goal

abbrev pub invariant-loop-filter : goal.invariant-loop-filter
invariant-loop-filter g l = record {
  so_far : Appends (g.O.Sink.written l.fn.out) (g.O.Sink.written l.out) (flat_map filter_text (take l.filter-index l.filters));
  faults : g.O.Sink.faults l.out ≡ g.O.Sink.faults l.fn.out;
}
