-- The first line from here on that isn't passed over is the first of all.
use Rattle.std.proofs.Common.{◌≡◌, ◌-◌, ◌+◌, ◌≤◌, length, drop}
use Rattle.plain_text.specs.Lines.{lines_of}
use Rattle.replay_run.specs.Commands.{first_said}
use Rattle.replay_run.proofs.lines.first_said.Given as goal

abbrev pub invariant-lines : goal.invariant-lines
invariant-lines l = record {
  small : l.number ≤ l.at + 1;
  within : l.at ≤ length l.text;
  so_far : first_said l.number (lines_of (drop l.at l.text)) ≡ first_said 1 (lines_of l.text);
}

abbrev pub decreases-lines : goal.decreases-lines
decreases-lines l = length l.text - l.at
