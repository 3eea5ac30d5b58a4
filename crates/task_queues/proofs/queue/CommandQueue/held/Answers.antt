use Rattle.std.proofs.Common.{rules, refl}
use Rattle.crossbeam_queue.specs.Passes.{view}
use Rattle.task_queues.proofs.QueueMoves.{stays, meets, parts, compares}
use Rattle.task_queues.proofs.queue.CommandQueue.held.Goals as goal

pub another-spare-requires-clause-rule : goal.another-spare-requires-clause-rule
another-spare-requires-clause-rule g c = stays _ _ _ _ refl refl refl refl refl refl refl

pub absorb-requires-clause-rule : goal.absorb-requires-clause-rule
absorb-requires-clause-rule g c = meets _ _ _ _ _ (search rules) (search rules)

pub another-requires-clause-rule : goal.another-requires-clause-rule
another-requires-clause-rule g c = parts _ _ _ (search rules) (search rules)

pub returns-clause-held : goal.returns-clause-held
returns-clause-held g c = compares g.J.Named.board _ _ _ (view c.absorb.new.pass) (search rules) (search rules)
