-- The lines so far were passed over.
use Rattle.std.proofs.Common.{◌≡◌, ◌-◌, ◌+◌, ◌≤◌, length, drop}
use Rattle.plain_text.specs.Lines.{lines_of}
use Rattle.agent_script.specs.Scripts.{script_from, script_of}
use Rattle.agent_script.proofs.reading.read_tasks.Given as goal

abbrev pub invariant-lines : goal.invariant-lines
invariant-lines l = record {
  small : l.number ≤ l.at + 1;
  within : l.at ≤ length l.text;
  so_far : script_from l.number (lines_of (drop l.at l.text)) ≡ script_of l.text;
}

abbrev pub decreases-lines : goal.decreases-lines
decreases-lines l = length l.text - l.at
