use Rattle.share_work.proofs.Onward.{begins}
use Rattle.share_work.proofs.worker.Worker.new.Goals as goal

pub returns-clause-begun : goal.returns-clause-begun
returns-clause-begun g c =
    let fresh = c.requires.fresh in
    begins c.args.end fresh.0 fresh.1 fresh.3 fresh.4 c.args.steps.items c.args.task c.new.result c.from_vec.result.items c.new-2.result c.new.ensures c.from_vec.ensures.items c.new-2.ensures
