use Rattle.std.proofs.Common.{sym, subst}
use Rattle.std.specs.Prelude.{OnErr}
use Rattle.agent_line.specs.Recorded.{Grows}
use Rattle.agent_requests.specs.Intake.{Taking, IsServed}
use Rattle.agent_requests.proofs.Taken.{served_due, maybe_due}
use Rattle.agent_requests.proofs.intake.Intake.do_due.Goals as goal

pub returns-clause-served : goal.returns-clause-served
returns-clause-served g c =
    λ h.
    served_due c.do_due.result c.args.now (record { recorded = c.self.inside.recorder; stream = c.self.inside.line.splitter; idle = c.self.inside.line.idle; receiver = c.self.inside.receiver }) c.do_due.new.recorder c.do_due.new.self.splitter c.do_due.new.self.idle c.do_due.ensures.due
    (λ e. (c.do_due.ensures.none e).1) (maybe_due c.do_due.result c.args.now c.self.inside.recorder c.do_due.new.recorder c.do_due.ensures.err) (subst (λ (t : Taking). IsServed t) (sym c.self.view_is) h)

pub returns-clause-err : goal.returns-clause-err
returns-clause-err g c =
    subst (λ (t : Taking). OnErr c.do_due.result (Grows c.args.now t.recorded c.do_due.new.recorder)) c.self.view_is (maybe_due c.do_due.result c.args.now c.self.inside.recorder c.do_due.new.recorder c.do_due.ensures.err)
