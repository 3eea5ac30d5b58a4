use Rattle.std.proofs.Common.{rules, false, ◌≡◌, ◌≤◌, [], length, sym, ap, ◌∙◌, subst, arith}
use Rattle.std.specs.Arc.{arc_value}
use Rattle.agent_end.specs.Serving.{Serving, IsServing}
use Rattle.agent_shared.specs.Opened.{fresh_agent}
use Rattle.agent_shared.proofs.Fresh.{fresh_serves}
use Rattle.agent_shared.proofs.opening.open.Goals as goal

pub new-requires-2 : goal.new-requires-2
new-requires-2 g c =
    let ends = c.in-Ok.ensures.ends in
    let agent : Serving = record { taking = c.new-intake.result; mail = c.new-posts.result; short = false } in
    let fresh = fresh_agent c.args.setup c.in_ok-recorder.recorder.sizes (arc_value c.in-Ok.parts.queue) ends.1 in
    let is : agent ≡ fresh = search rules in
    let past : c.new-intake.result.recorded.past ≡ [] = ap (λ (a : Serving). a.taking.recorded.past) is in
    let tasks : c.new-intake.result.recorded.setup.tasks ≡ c.args.setup.tasks = ap (λ (a : Serving). a.taking.recorded.setup.tasks) is in
    let few = c.requires.tasks.1 in
    (omega arith, (omega arith, (omega arith, (subst IsServing (sym is) (fresh_serves c.args.setup c.in_ok-recorder.recorder.sizes (arc_value c.in-Ok.parts.queue) ends.1 ends.2.counted), (c.in-Ok.ensures.shown ∙ sym (ap length past), (past, omega (arith, tasks, few)))))))
