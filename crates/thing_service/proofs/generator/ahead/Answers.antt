use Rattle.std.proofs.Common.{◌≡◌, ℕ, ◌*◌, ◌%◌, ◌/◌, sym, ap, ◌∙◌}
use Rattle.thing_service.proofs.Steps.{run, step, state_is, even_steps, odd_steps, none_left}
use Rattle.thing_service.proofs.generator.ahead.Goals.{then-left-eq1, else-left-eq1}
use Rattle.thing_service.proofs.generator.ahead.Goals as goal

pub loop-left-init : goal.loop-left-init
loop-left-init c = sym (state_is c.args.seed c.args.steps)

pub loop-left-preserved : goal.loop-left-preserved
loop-left-preserved c =
    let f = c.loop-left.factor in
    let s = c.loop-left.summand in
    let n = c.loop-left.left in
    let x = c.loop-left.state in
    let next : run (f * f % 18446744073709551616) (step f s s) (n / 2) c.if-left-eq1.state ≡ run f s n x =
    elim c.if-left-eq1.branch [
      | then-left-eq1 w ↦ ap (run (f * f % 18446744073709551616) (step f s s) (n / 2)) (w.state-is ∙ w.step-state.ensures) ∙ sym (odd_steps f s n x w.if-left-eq1.true)
      | else-left-eq1 w ↦ ap (run (f * f % 18446744073709551616) (step f s s) (n / 2)) w.state-is ∙ sym (even_steps f s n x w.if-left-eq1.false)
    ] in
    ap (λ (a : ℕ). run (f * f % 18446744073709551616) a (n / 2) c.if-left-eq1.state) c.step-summand.ensures ∙ next ∙ c.loop-left.invariant

pub returns : goal.returns
returns c = none_left c.loop-left.factor c.loop-left.summand c.loop-left.left c.loop-left.state c.loop-left-test.false ∙ c.loop-left.invariant
