-- So many bytes were written with their escapes.
use Rattle.std.proofs.Common.{◌≡◌, length, ◌-◌, ◌≤◌, take}
use Rattle.std.specs.Io.KnownBytes.{Appends}
use Rattle.plain_text.specs.Escapes.{escaped}
use Rattle.journal_text.proofs.parts.write_escaped.Given as goal

abbrev pub invariant-loop-at : goal.invariant-loop-at
invariant-loop-at g l = record {
  within : l.at ≤ length l.text;
  so_far : Appends (g.O.Sink.written l.fn.out) (g.O.Sink.written l.out) (escaped (take l.at l.text));
  faults : g.O.Sink.faults l.out ≡ g.O.Sink.faults l.fn.out;
}

abbrev pub decreases-loop-at : goal.decreases-loop-at
decreases-loop-at g l = length l.text - l.at
