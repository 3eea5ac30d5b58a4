use Rattle.std.proofs.Common.{sym, subst, arith}
use Rattle.std.specs.Prelude.{IfErr}
use Rattle.std.proofs.lemmas.Result.{err_from_is_err_and}
use Rattle.agent_requests.specs.declared.answers.Short.{Short}
use Rattle.agent_requests.specs.Intake.{FallsShort}
use Rattle.agent_requests.proofs.Working.{no_shorter, grows_time, works_behind, short_behind}
use Rattle.agent_requests.proofs.intake.Intake.work.Goals as goal

pub take_behind-requires : goal.take_behind-requires
take_behind-requires g c =
    let grown = c.listen.ensures.grown in
    let longer = no_shorter c.args.now c.args.self.now.recorded c.listen.new.self.recorded grown in
    let most = c.requires.raised in
    (omega arith, (c.listen.ensures.served c.requires.served, (grows_time c.args.now c.args.self.now.recorded c.listen.new.self.recorded grown c.requires.time, omega (arith, most, longer))))

pub returns-in_err-popped-clause-works : goal.returns-in_err-popped-clause-works
returns-in_err-popped-clause-works g c = works_behind c.args.now c.args.self.now c.listen.new.self c.take_behind.new.self c.listen.ensures.grown c.listen.ensures.same c.take_behind.ensures.works

pub returns-in_err-popped-clause-short : goal.returns-in_err-popped-clause-short
returns-in_err-popped-clause-short g c =
    let p = err_from_is_err_and c.from_residual-in_err-popped.result c.from_residual-in_err-popped.ensures.1 in
    subst (λ r. IfErr r (FallsShort c.args.now c.args.self.now c.take_behind.new.self)) (sym p.1)
    (short_behind c.args.now c.args.self.now c.listen.new.self c.take_behind.new.self p.0 c.listen.ensures.grown c.listen.ensures.same
    (subst (λ (e : Short). FallsShort c.args.now c.listen.new.self c.take_behind.new.self e) (sym p.2) c.in_err-popped.ensures.short))

pub returns-then-branch-clause-works : goal.returns-then-branch-clause-works
returns-then-branch-clause-works g c = works_behind c.args.now c.args.self.now c.listen.new.self c.take_behind.new.self c.listen.ensures.grown c.listen.ensures.same c.take_behind.ensures.works

pub returns-in_err-popped-2-clause-short : goal.returns-in_err-popped-2-clause-short
returns-in_err-popped-2-clause-short g c =
    let p = err_from_is_err_and c.from_residual-in_err-popped-2.result c.from_residual-in_err-popped-2.ensures.1 in
    subst (λ r. IfErr r (FallsShort c.args.now c.args.self.now c.accept.new.self)) (sym p.1)
    (short_behind c.args.now c.args.self.now c.listen.new.self c.accept.new.self p.0 c.listen.ensures.grown c.listen.ensures.same
    (subst (λ (e : Short). FallsShort c.args.now c.listen.new.self c.accept.new.self e) (sym p.2) c.in_err-popped-2.ensures.short))
