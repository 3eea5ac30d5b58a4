use Rattle.std.proofs.Common.{◌≡◌, ◌++◌, ap, sym, ◌∙◌, subst}
use Rattle.std.specs.List.{flat_map}
use Rattle.mqtt_packet.specs.declared.packet.Packet.TheVariants as p
use Rattle.agent_journal.specs.declared.effect.Effect.TheVariants as f
use Rattle.agent_journal.specs.declared.outcome.Outcome.TheVariants as o
use Rattle.agent_journal.specs.declared.setup.Phase.TheVariants.{Off}
use Rattle.agent_table.specs.Effects.{cancel_all, close}
use Rattle.agent_table.specs.Takes.{disconnect_row}
use Rattle.agent_table.specs.Rows.{to}
use Rattle.agent_core.specs.declared.effects.Ending.TheVariants as ends
use Rattle.agent_core.specs.Endings.{ending_of}
use Rattle.agent_core.specs.Kept.{Kept, readings_in}
use Rattle.agent_core.proofs.Endings.{cancelled, two_behind}
use Rattle.agent_core.proofs.agent.Core.disconnected.Goals as goal

pub returns : goal.returns
unfolding disconnect_row
returns g c =
    ap (to Off) (sym (two_behind (cancel_all (readings_in c.args.self.now)) c.push_endings.new.effects c.push.new.self c.push_done.new.effects c.push_close.new.effects
    (close c.args.self.now.setup (readings_in c.args.self.now)) (f.Send p.Disconnect) (f.Done c.args.task c.args.seq o.Done)
    (subst (λ (k : Kept). c.push_endings.new.effects ≡ cancel_all (readings_in k)) c.self.view_is
    (c.in_ok-push_endings.ensures ∙ ap (λ es. es ++ flat_map (ending_of ends.Cancelled) c.self.inside.pending) c.new-effects.ensures ∙ cancelled c.self.inside.pending))
    c.in_ok-push.ensures.ok c.in_ok-push_done.ensures c.in_ok-push_close.ensures))
