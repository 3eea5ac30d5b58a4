use Rattle.std.proofs.Common.{◌∙◌, sym, ap}
use Rattle.std.specs.Prelude.{Ok}
use Rattle.agent_line.specs.Recorded.{phase_in}
use Rattle.agent_line.proofs.Growing.{grows_entered}
use Rattle.agent_requests.proofs.Taken.{due_is_other}
use Rattle.agent_requests.proofs.Working.{works_grown, spilled_is_due}
use Rattle.agent_requests.proofs.intake.Intake.serve.Goals as goal

pub returns-in-Ok-true-clause-works : goal.returns-in-Ok-true-clause-works
returns-in-Ok-true-clause-works g c =
    let due = c.in-Ok-true.ensures.due (ap Ok c.in-Ok-true.field-0-test) in
    works_grown c.args.now c.args.self.now c.do_due.new.self
    (grows_entered c.args.now due.0 c.args.self.now.recorded c.do_due.new.self.recorded (due_is_other c.args.self.now.recorded c.args.now due.0 due.1) due.2) c.do_due.ensures.same

pub unreachable-requires : goal.unreachable-requires
unreachable-requires g c =
    let none = c.in-Ok-false.ensures.none (ap Ok c.in-Ok-false.field-0-test) in
    spilled_is_due c.args.self.now.recorded c.args.now c.requires.time none.0 (ap phase_in (sym (c.recorder.ensures ∙ none.1)) ∙ sym c.phase.ensures ∙ c.in-Spilled.is)
