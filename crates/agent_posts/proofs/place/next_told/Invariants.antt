use Rattle.std.proofs.Common.{◌-◌, length}
use Rattle.agent_posts.specs.Waiting.{WaitsAlike}
use Rattle.agent_posts.proofs.place.next_told.Given as goal

abbrev pub invariant-loop-entry : goal.invariant-loop-entry
invariant-loop-entry l = WaitsAlike l.tasks l.entries l.fn.from l.place

abbrev pub decreases-loop-entry : goal.decreases-loop-entry
decreases-loop-entry l = length l.entries - l.place.entry
