use Rattle.std.proofs.Common.{◌≡◌, Some, map, sym, ap, ◌∙◌, subst}
use Rattle.std.specs.Prelude.{filter, IfOk}
use Rattle.std.specs.Option.{option_copied}
use Rattle.agent_table.specs.Arrivals.{at}
use Rattle.agent_table.specs.Effects.{done}
use Rattle.agent_table.specs.Rows.{to}
use Rattle.agent_core.specs.Awaited.{awaits}
use Rattle.agent_journal.specs.declared.setup.Phase.TheVariants.{Up}
use Rattle.agent_core.specs.Kept.{Kept}
use Rattle.agent_core.proofs.Acknowledged.{completed_none, completed_ok}
use Rattle.agent_core.proofs.agent.Core.completed.Goals as goal

pub returns-in-Some : goal.returns-in-Some
returns-in-Some g c =
    subst (λ (k : Kept). IfOk c.completed_by.result (λ row. to Up (map (done c.args.outcome) (filter (λ command. awaits c.args.kind command.request) (at c.args.id k.pending))) ≡ Some row)) c.self.view_is
    (completed_ok c.args.kind c.args.outcome c.args.id c.self.inside.pending c.in-Some.command.now c.completed_by.result c.find.ensures.differ (sym (ap option_copied c.in-Some.is) ∙ c.find.ensures.found) c.completed_by.ensures)

pub returns-in-None : goal.returns-in-None
returns-in-None g c =
    subst (λ (k : Kept). to Up (map (done c.args.outcome) (filter (λ command. awaits c.args.kind command.request) (at c.args.id k.pending))) ≡ Some c.still.result) c.self.view_is
    (completed_none c.args.kind c.args.outcome c.args.id c.self.inside.pending c.find.ensures.differ (sym (ap option_copied c.in-None.is) ∙ c.find.ensures.found) ∙ ap Some (sym c.still.ensures))
