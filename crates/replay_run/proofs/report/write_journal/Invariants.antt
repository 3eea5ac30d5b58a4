-- The lines of so many entries were written.
use Rattle.std.proofs.Common.{◌≡◌, ◌≤◌, take}
use Rattle.std.specs.List.{flat_map}
use Rattle.std.specs.Io.KnownBytes.{Appends}
use Rattle.journal_text.specs.Texts.{entry_text}
use Rattle.replay_run.proofs.report.write_journal.Given as goal

abbrev pub invariant-loop-entry : goal.invariant-loop-entry
invariant-loop-entry g l = record {
  so_far : Appends (g.O.Sink.written l.fn.out) (g.O.Sink.written l.out) (flat_map entry_text (take l.entry-index l.journal));
  faults : g.O.Sink.faults l.out ≡ g.O.Sink.faults l.fn.out;
}
