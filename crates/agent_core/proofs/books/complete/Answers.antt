use Rattle.agent_core.proofs.Ties.{tied_on}
use Rattle.agent_core.proofs.books.complete.Goals as goal

pub returns-clause-tied : goal.returns-clause-tied
returns-clause-tied g c = tied_on c.command.inside.id c.args.pending.now c.take.new.self c.args.qos.now c.drop_id.new.self c.requires.tied c.take.ensures.others c.drop_id.ensures
