-- The steps so far, and behind them what the text from here on says, are what it says from the start.
use Rattle.std.proofs.Common.{◌≡◌, ◌-◌, ◌+◌, ◌≤◌, length, drop}
use Rattle.plain_text.specs.Lines.{lines_of}
use Rattle.mirror_run.specs.Steps.{steps_from}
use Rattle.mirror_run.proofs.StepLoops.{behind}
use Rattle.mirror_run.proofs.steps.read_steps.Given as goal

abbrev pub invariant-lines : goal.invariant-lines
invariant-lines l = record {
  small : l.number ≤ l.at + 1;
  within : l.at ≤ length l.text;
  so_far : behind l.steps (steps_from l.number (lines_of (drop l.at l.text))) ≡ steps_from 1 (lines_of l.text);
}

abbrev pub decreases-lines : goal.decreases-lines
decreases-lines l = length l.text - l.at
