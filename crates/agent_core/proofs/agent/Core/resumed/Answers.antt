use Rattle.std.proofs.Common.{◌≡◌, subst}
use Rattle.agent_table.specs.Effects.{resume}
use Rattle.agent_core.specs.Kept.{Kept, readings_in}
use Rattle.agent_core.proofs.Arrivals.{resumed_is}
use Rattle.agent_core.proofs.agent.Core.resumed.Goals as goal

pub returns : goal.returns
returns g c =
    resumed_is c.args.self.now c.in_ok-effects.effects c.push_renewals.new.effects c.requires
    (subst (λ (k : Kept). c.in_ok-effects.effects ≡ resume (readings_in k)) c.self.view_is (c.in_ok-effects.ensures (readings_in c.args.self.now))) c.in_ok-push_renewals.ensures
