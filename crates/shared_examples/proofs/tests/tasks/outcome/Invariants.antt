use Rattle.std.proofs.Common.{◌≡◌}
use Rattle.task_end.specs.Sides.{IsOut}
use Rattle.shared_examples.proofs.tests.tasks.outcome.Given as goal

abbrev pub invariant-loop : goal.invariant-loop
invariant-loop g l = IsOut l.ticket l.end.side × (l.end.side.getter.mailbox ≡ l.fn.end.side.getter.mailbox)
