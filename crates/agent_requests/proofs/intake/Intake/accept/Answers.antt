use Rattle.std.proofs.Common.{ap}
use Rattle.std.specs.Prelude.{Ok}
use Rattle.agent_requests.proofs.Working.{works_took, works_lost}
use Rattle.agent_requests.proofs.intake.Intake.accept.Goals as goal

pub returns-in-Ok-clause-works : goal.returns-in-Ok-clause-works
returns-in-Ok-clause-works g c =
    works_took c.in-Ok.popped c.args.now g.J.Named.board c.args.self.now c.take.new.self (λ p e. c.in-Ok.ensures.taken p (ap Ok e)) (λ e. let n = c.in-Ok.ensures.none (ap Ok e) in (n.0, n.1))

pub returns-in-Err-clause-works : goal.returns-in-Err-clause-works
returns-in-Err-clause-works g c = works_lost c.args.now c.args.self.now c.take.new.self c.in-Err.popped c.in-Err.ensures.err
