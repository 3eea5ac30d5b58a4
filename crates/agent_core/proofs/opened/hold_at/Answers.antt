use Rattle.std.proofs.Common.{sym, ap, ◌∙◌}
use Rattle.agent_table.specs.Deliveries.{held_at}
use Rattle.agent_core.proofs.opened.hold_at.Goals as goal

pub returns-in-ExactlyOnce-clause-held : goal.returns-in-ExactlyOnce-clause-held
returns-in-ExactlyOnce-clause-held g c = λ at cause.
    c.hold.ensures.held at cause ∙ ap (λ level. held_at level c.args.id (record { at = at; cause = cause; effects = c.args.effects.now }) c.args.qos.now.held) (sym c.in-ExactlyOnce.is)
