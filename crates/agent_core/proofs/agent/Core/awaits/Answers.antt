use Rattle.std.proofs.Common.{◌≡◌, false, sym, ap, ◌∙◌, subst}
use Rattle.std.specs.Prelude.{◌&&◌, ◌==◌}
use Rattle.std.specs.List.{list_any}
use Rattle.std.specs.Option.{option_copied}
use Rattle.agent_journal.specs.Readings.{Pending}
use Rattle.agent_core.specs.Awaited.{awaits}
use Rattle.agent_core.specs.Kept.{Kept}
use Rattle.agent_core.proofs.Acknowledged.{any_one, any_none}
use Rattle.agent_core.proofs.agent.Core.awaits.Goals as goal

pub returns-in-Some : goal.returns-in-Some
returns-in-Some g c =
    subst (λ (k : Kept). c.awaits.result ≡ list_any (λ command. command.id == c.args.id && awaits c.args.kind command.request) k.pending) c.self.view_is
    (c.awaits.ensures ∙ ap (λ (d : Pending). awaits c.args.kind d.request) c.command.view_is
    ∙ any_one c.args.id (λ command. awaits c.args.kind command.request) c.self.inside.pending c.in-Some.command.now c.find.ensures.differ (sym (ap option_copied c.in-Some.is) ∙ c.find.ensures.found))

pub returns-in-None : goal.returns-in-None
returns-in-None g c =
    subst (λ (k : Kept). false ≡ list_any (λ command. command.id == c.args.id && awaits c.args.kind command.request) k.pending) c.self.view_is
    (any_none c.args.id (λ command. awaits c.args.kind command.request) c.self.inside.pending c.find.ensures.differ (sym (ap option_copied c.in-None.is) ∙ c.find.ensures.found))
