use Rattle.std.proofs.Common.{◌≡◌, false, not, sym, ap, ◌∙◌, subst}
use Rattle.std.specs.Prelude.{◌&&◌, ◌==◌, length, filter}
use Rattle.std.specs.List.{list_any}
use Rattle.std.specs.Option.{option_copied}
use Rattle.agent_journal.specs.Readings.{Pending}
use Rattle.agent_table.specs.Arrivals.{at, counts_of, is_subscribe}
use Rattle.agent_table.specs.Routes.{asks_in}
use Rattle.agent_core.specs.Kept.{Kept}
use Rattle.agent_core.proofs.Acknowledged.{counted_some, counted_none}
use Rattle.agent_core.proofs.agent.Core.subscribe_differs.Goals as goal

pub returns-in-Some : goal.returns-in-Some
returns-in-Some g c =
    subst (λ (k : Kept). c.asks_others.result ≡ list_any (λ asked. not (asked == c.args.count)) (counts_of (filter (λ command. is_subscribe command.request) (at c.args.id k.pending)))) c.self.view_is
    (counted_some c.args.count c.args.id c.self.inside.pending c.in-Some.command.now c.asks_others.result c.find.ensures.differ (sym (ap option_copied c.in-Some.is) ∙ c.find.ensures.found)
    (c.asks_others.ensures ∙ ap (λ (d : Pending). is_subscribe d.request && not (length (asks_in d.request) == c.args.count)) c.command.view_is))

pub returns-in-None : goal.returns-in-None
returns-in-None g c =
    subst (λ (k : Kept). false ≡ list_any (λ asked. not (asked == c.args.count)) (counts_of (filter (λ command. is_subscribe command.request) (at c.args.id k.pending)))) c.self.view_is
    (counted_none c.args.count c.args.id c.self.inside.pending c.find.ensures.differ (sym (ap option_copied c.in-None.is) ∙ c.find.ensures.found))
