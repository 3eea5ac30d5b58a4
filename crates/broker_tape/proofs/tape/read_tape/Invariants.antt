-- The items so far, and behind them what the lines from here on spell, are what the text spells.
use Rattle.std.proofs.Common.{length, drop, ◌-◌, ◌+◌, ◌≤◌, ◌≡◌}
use Rattle.plain_text.specs.Lines.{lines_of}
use Rattle.broker_tape.specs.Tape.{tape_from, tape_of}
use Rattle.broker_tape.proofs.Tapes.{behind}
use Rattle.broker_tape.proofs.tape.read_tape.Given as goal

abbrev pub invariant-lines : goal.invariant-lines
invariant-lines l = record {
  small : l.number ≤ l.at + 1;
  within : l.at ≤ length l.text;
  so_far : behind l.items (tape_from l.place l.number (lines_of (drop l.at l.text))) ≡ tape_of l.text;
}

abbrev pub decreases-lines : goal.decreases-lines
decreases-lines l = length l.text - l.at
