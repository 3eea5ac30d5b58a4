-- So many filters were written.
use Rattle.std.proofs.Common.{◌≡◌, ◌≤◌, take}
use Rattle.std.specs.List.{flat_map}
use Rattle.std.specs.Io.KnownBytes.{Appends}
use Rattle.journal_text.specs.Texts.{ask_text}
use Rattle.journal_text.proofs.write.write_asks.Given as goal

abbrev pub invariant-loop-ask : goal.invariant-loop-ask
invariant-loop-ask g l = record {
  so_far : Appends (g.O.Sink.written l.fn.out) (g.O.Sink.written l.out) (flat_map ask_text (take l.ask-index l.asks));
  faults : g.O.Sink.faults l.out ≡ g.O.Sink.faults l.fn.out;
}
