-- The lines of so many effects were written.
use Rattle.std.proofs.Common.{◌≡◌, ◌≤◌, take}
use Rattle.std.specs.List.{flat_map}
use Rattle.std.specs.Io.KnownBytes.{Appends}
use Rattle.journal_text.specs.Texts.{effect_text}
use Rattle.journal_text.proofs.write.write_effects.Given as goal

abbrev pub invariant-loop-effect : goal.invariant-loop-effect
invariant-loop-effect g l = record {
  so_far : Appends (g.O.Sink.written l.fn.out) (g.O.Sink.written l.out) (flat_map effect_text (take l.effect-index l.effects));
  faults : g.O.Sink.faults l.out ≡ g.O.Sink.faults l.fn.out;
}
