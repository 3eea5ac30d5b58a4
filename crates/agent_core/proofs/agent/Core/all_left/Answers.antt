use Rattle.std.proofs.Common.{◌≡◌, ap, ◌∙◌, subst}
use Rattle.std.specs.List.{list_all}
use Rattle.agent_table.specs.Breaks.{all_left}
use Rattle.agent_core.specs.Kept.{Kept, readings_in}
use Rattle.agent_core.proofs.Left.{all_left_list}
use Rattle.agent_core.proofs.agent.Core.all_left.Goals as goal

pub returns : goal.returns
returns g c =
    subst (λ (k : Kept). c.all_true.result ≡ all_left k.setup.tasks (readings_in k).left) c.self.view_is
    (all_left_list c.self.inside.left.items c.self.inside.setup.tasks c.all_true.result (c.all_true.ensures ∙ ap (list_all (λ flag. flag)) c.as_slice.ensures.value) c.self.invariant.1)
