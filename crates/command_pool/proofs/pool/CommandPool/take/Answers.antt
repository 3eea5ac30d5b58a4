use Rattle.std.proofs.Common.{rules}
use Rattle.command_pool.proofs.Tries.{taken_within, missed_within, empties_taken, empties_missed, onward_empty, onward_taken, onward_missed}
use Rattle.command_pool.proofs.pool.CommandPool.take.Goals as goal

pub returns-in-Some-clause-bound : goal.returns-in-Some-clause-bound
returns-in-Some-clause-bound g c = taken_within _ c.load-seen.result c.in-Some.id _ _ c.in-Some.ensures.id.1 (search rules)

pub returns-in-None-clause-bound : goal.returns-in-None-clause-bound
returns-in-None-clause-bound g c = missed_within _ c.load-seen.result _ _ (search rules)

pub returns-in-Some-clause-empties : goal.returns-in-Some-clause-empties
returns-in-Some-clause-empties g c = empties_taken c.load-seen.result c.in-Some.id c.args.pass.now.steps c.take_one_of.new.pass.steps (search rules) (search rules)

pub returns-in-None-clause-empties : goal.returns-in-None-clause-empties
returns-in-None-clause-empties g c = empties_missed g.row.POOL c.load-seen.result c.args.pass.now.steps c.take_one_of.new.pass.steps (search rules) (search rules)

pub returns-in-Some-clause-onward : goal.returns-in-Some-clause-onward
returns-in-Some-clause-onward g c = onward_taken c.load-seen.result c.in-Some.id _ _ (search rules)

pub returns-in-None-clause-onward : goal.returns-in-None-clause-onward
returns-in-None-clause-onward g c = onward_missed g.row.POOL c.load-seen.result _ _ (search rules)

pub returns-then-seen-eq0-clause-onward : goal.returns-then-seen-eq0-clause-onward
returns-then-seen-eq0-clause-onward g c = onward_empty c.load-seen.result _ _ (search rules)
