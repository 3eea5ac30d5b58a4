use Rattle.std.proofs.Common.{ap}
use Rattle.std.specs.Prelude.{Ok}
use Rattle.agent_requests.proofs.Working.{works_grown, grows_opened}
use Rattle.agent_requests.proofs.intake.Intake.reopen.Goals as goal

pub returns-in-Ok-clause-works : goal.returns-in-Ok-clause-works
returns-in-Ok-clause-works g c =
    works_grown c.args.now c.args.self.now c.open.new.self
    (grows_opened c.in-Ok.field-0 c.args.now c.args.self.now.recorded c.open.new.self.recorded (λ e. c.in-Ok.ensures.opened (ap Ok e)) (λ e. c.in-Ok.ensures.failed (ap Ok e))) c.in-Ok.ensures.same
