use Rattle.std.proofs.Common.{◌≡◌, List}
use Rattle.task_queues.specs.declared.note.Note.{Note}
use Rattle.task_end.specs.Sides.{took}
use Rattle.task_end.proofs.left.LeftEnd.collect.Given as goal

abbrev pub invariant-loop : goal.invariant-loop
invariant-loop g l = (more : List Note) × (l.self ≡ took more l.fn.self) × (l.ticket ≡ l.fn.ticket)
