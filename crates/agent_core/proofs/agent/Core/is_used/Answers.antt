use Rattle.std.proofs.Common.{◌≡◌, ◌++◌, ap, ◌∙◌, subst}
use Rattle.std.specs.Prelude.{is_some}
use Rattle.agent_table.specs.Deliveries.{is_among}
use Rattle.agent_core.specs.Kept.{Kept, used_in}
use Rattle.agent_core.proofs.Used.{used_is}
use Rattle.agent_core.proofs.agent.Core.is_used.Goals as goal

pub returns : goal.returns
returns g c =
    subst (λ (k : Kept). c.any_of.result ≡ is_among (c.args.drawn.now ++ used_in k) c.args.id) c.self.view_is
    (used_is c.args.drawn.now c.self.inside.pending c.self.inside.subscriptions c.args.id c.contains.result c.has.result c.is_some.result c.any_of.result
    c.contains.ensures.value c.has.ensures (c.is_some.ensures ∙ ap is_some c.renewal_len.ensures) c.any_of.ensures)
