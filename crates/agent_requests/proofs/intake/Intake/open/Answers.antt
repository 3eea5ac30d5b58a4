use Rattle.std.proofs.Common.{sym, subst}
use Rattle.std.specs.Prelude.{OnErr}
use Rattle.agent_line.specs.Recorded.{Grows}
use Rattle.agent_requests.specs.Intake.{Taking, IsServed}
use Rattle.agent_requests.proofs.Taken.{served_opened, maybe_opened}
use Rattle.agent_requests.proofs.intake.Intake.open.Goals as goal

pub returns-clause-served : goal.returns-clause-served
returns-clause-served g c =
    λ h.
    served_opened c.open.result c.args.now (record { recorded = c.self.inside.recorder; stream = c.self.inside.line.splitter; idle = c.self.inside.line.idle; receiver = c.self.inside.receiver }) c.open.new.recorder c.open.new.self.splitter c.open.new.self.idle c.open.ensures.opened
    c.open.ensures.failed (maybe_opened c.open.result c.args.now c.self.inside.recorder c.open.new.recorder c.open.ensures.err) (subst (λ (t : Taking). IsServed t) (sym c.self.view_is) h)

pub returns-clause-err : goal.returns-clause-err
returns-clause-err g c =
    subst (λ (t : Taking). OnErr c.open.result (Grows c.args.now t.recorded c.open.new.recorder)) c.self.view_is (maybe_opened c.open.result c.args.now c.self.inside.recorder c.open.new.recorder c.open.ensures.err)
