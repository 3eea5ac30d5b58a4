-- The lines so far, and those from here on.
use Rattle.std.proofs.Common.{◌≡◌, ◌-◌, ◌+◌, ◌≤◌, length, drop}
use Rattle.plain_text.specs.Lines.{lines_of}
use Rattle.replay_run.proofs.lines.count_lines.Given as goal

abbrev pub invariant-lines : goal.invariant-lines
invariant-lines l = record {
  small : l.count ≤ l.at;
  within : l.at ≤ length l.text;
  so_far : l.count + length (lines_of (drop l.at l.text)) ≡ length (lines_of l.text);
}

abbrev pub decreases-lines : goal.decreases-lines
decreases-lines l = length l.text - l.at
