use Rattle.std.proofs.Common.{length, ◌-◌, ◌≤◌}
use Rattle.agent_main.proofs.place.place_of.Given as goal

abbrev pub invariant-lines : goal.invariant-lines
invariant-lines l = record { within : l.at ≤ length l.text }

abbrev pub decreases-lines : goal.decreases-lines
decreases-lines l = length l.text - l.at
