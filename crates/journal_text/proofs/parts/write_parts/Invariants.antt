-- So many parts were written.
use Rattle.std.proofs.Common.{◌≡◌, ◌≤◌, take}
use Rattle.std.specs.List.{flat_map}
use Rattle.std.specs.Io.KnownBytes.{Appends}
use Rattle.journal_text.specs.Parts.{part_text}
use Rattle.journal_text.proofs.parts.write_parts.Given as goal

abbrev pub invariant-loop-part : goal.invariant-loop-part
invariant-loop-part g l = record {
  so_far : Appends (g.O.Sink.written l.fn.out) (g.O.Sink.written l.out) (flat_map part_text (take l.part-index l.parts));
  faults : g.O.Sink.faults l.out ≡ g.O.Sink.faults l.fn.out;
}
