use Rattle.std.proofs.Common.{sym, subst}
use Rattle.agent_requests.specs.Intake.{Taking, IsServed}
use Rattle.agent_requests.proofs.Taken.{serves_grown}
use Rattle.agent_requests.proofs.intake.Intake.receive.Goals as goal

pub returns-clause-served : goal.returns-clause-served
returns-clause-served g c =
    λ h.
    serves_grown c.args.now (record { recorded = c.self.inside.recorder; stream = c.self.inside.line.splitter; idle = c.self.inside.line.idle; receiver = c.self.inside.receiver }) c.receive.new.recorder c.receive.new.self.splitter c.receive.new.self.idle c.receive.ensures.grown
    (subst (λ (t : Taking). IsServed t) (sym c.self.view_is) h)
