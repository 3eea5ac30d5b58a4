use Rattle.std.proofs.Common.{◌≡◌, ◌≤◌, ◌<◌, length, true, sym, subst, ap, arith, rules}
use Rattle.agent_journal.specs.Readings.{last_time_of}
use Rattle.task_queues.specs.Fronts.{front_of, number_in}
use Rattle.task_queues.specs.Submissions.{task_of}
use Rattle.agent_line.specs.Recorded.{phase_in}
use Rattle.agent_requests.specs.Intake.{Taking, IsServed, takes_now}
use Rattle.agent_requests.proofs.Taken.{take_there, serves_taken}
use Rattle.agent_requests.proofs.intake.Intake.take.Goals.{in-Some-front, in_default-front}
use Rattle.agent_requests.proofs.intake.Intake.take.Goals as goal

pub take-requires : goal.take-requires
take-requires g c =
    let served : IsServed (record { recorded = c.self.inside.recorder; stream = c.self.inside.line.splitter; idle = c.self.inside.line.idle; receiver = c.self.inside.receiver }) = subst (λ (t : Taking). IsServed t) (sym c.self.view_is) c.requires.served in
    let time : last_time_of c.self.inside.recorder.past ≤ c.args.now = subst (λ (t : Taking). last_time_of t.recorded.past ≤ c.args.now) (sym c.self.view_is) c.requires.time in
    let phase : takes_now (phase_in c.self.inside.recorder) ≡ true = subst (λ (t : Taking). takes_now (phase_in t.recorded) ≡ true) (sym c.self.view_is) c.requires.phase in
    let within : task_of c.in-Some.submission < c.self.inside.recorder.setup.tasks = subst (λ n. task_of c.in-Some.submission < n) served.tasks c.in-Some.ensures.sender in (
      omega arith,
      take_there c.self.inside.recorder.setup c.self.inside.recorder.sizes c.self.inside.recorder.past c.args.now c.self.inside.receiver.taken c.in-Some.submission served.takes within c.in-Some.ensures.turn time phase,
    )

pub returns-clause-served : goal.returns-clause-served
returns-clause-served g c =
    let served : IsServed (record { recorded = c.self.inside.recorder; stream = c.self.inside.line.splitter; idle = c.self.inside.line.idle; receiver = c.self.inside.receiver }) = subst (λ (t : Taking). IsServed t) (sym c.self.view_is) c.requires.served in
    let most : c.args.shown.now ≤ length c.self.inside.recorder.past = subst (λ (t : Taking). c.args.shown.now ≤ length t.recorded.past) (sym c.self.view_is) c.requires.raised in
    let seen : number_in (front_of c.in-Some.submission) ≤ length c.self.inside.recorder.past =
    elim c.match-front.branch [
      | in-Some-front w ↦ let met = w.meet.ensures.within in let is = ap number_in w.in-Some-front.is in omega (arith, most, met, is)
      | in_default-front w ↦ search rules
    ] in
    serves_taken c.args.now (record { recorded = c.self.inside.recorder; stream = c.self.inside.line.splitter; idle = c.self.inside.line.idle; receiver = c.self.inside.receiver }) c.in-Some.submission c.take.new.recorder c.take.new.self.splitter c.take.new.self.idle c.recv.new.pass c.in-Ok.ensures.taken c.in-Some.ensures.taken seen served
