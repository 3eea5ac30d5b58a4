-- The lines so far, and behind them what the text from here on says, are what it says from the start.
use Rattle.std.proofs.Common.{◌≡◌, ◌-◌, ◌+◌, ◌≤◌, length, drop}
use Rattle.plain_text.specs.Lines.{lines_of}
use Rattle.agent_script.specs.Scripts.{lines_from}
use Rattle.agent_script.proofs.ScriptLoops.{behind}
use Rattle.agent_script.proofs.reading.read_lines.Given as goal

abbrev pub invariant-lines : goal.invariant-lines
invariant-lines l = record {
  small : l.number ≤ l.at + 1;
  within : l.at ≤ length l.text;
  so_far : behind l.lines (lines_from l.tasks l.number (lines_of (drop l.at l.text))) ≡ lines_from l.tasks l.fn.first (lines_of (drop l.fn.from l.text));
}

abbrev pub decreases-lines : goal.decreases-lines
decreases-lines l = length l.text - l.at
