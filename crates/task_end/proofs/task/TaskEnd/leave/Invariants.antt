use Rattle.std.proofs.Common.{◌≡◌, ℕ, ◌+◌, ◌++◌, List}
use Rattle.task_queues.specs.declared.note.Note.{Note}
use Rattle.task_end.specs.Sides.{trying}
use Rattle.task_end.proofs.task.TaskEnd.leave.Given as goal

abbrev pub invariant-loop : goal.invariant-loop
invariant-loop g l = (more : List Note) × (looks : ℕ) × (fulls : ℕ) × (l.side ≡ trying more looks fulls l.fn.self.side)
