use Rattle.std.proofs.Common.{◌≡◌, ◌++◌, ◌∷◌, [], false, sym, subst, arith}
use Rattle.std.specs.List.{list_any}
use Rattle.agent_journal.specs.Readings.{Pending}
use Rattle.pending_acks.specs.Commands.{has_id}
use Rattle.agent_core.specs.Tied.{IsTied}
use Rattle.agent_core.proofs.Openings.{none_yet, few_open, tied_opened}
use Rattle.agent_core.proofs.opened.start.Goals as goal

pub start_request-requires : goal.start_request-requires
start_request-requires g c =
    let fresh = subst (λ (d : Pending). list_any (has_id d.id) c.args.pending.now ≡ false) (sym c.command.view_is) c.requires.fresh in
    (omega arith, (none_yet c.args.pending.now c.args.qos.now c.requires.tied c.command.inside.id fresh, few_open c.args.pending.now c.args.qos.now c.requires.tied _ c.requires.room))

pub returns-clause-tied : goal.returns-clause-tied
returns-clause-tied g c =
    subst (λ (d : Pending). IsTied (c.args.pending.now ++ d ∷ []) c.start_request.new.qos) c.command.view_is
    (tied_opened c.args.pending.now c.args.qos.now c.requires.tied (record { id = c.command.inside.id; task = c.command.inside.task; seq = c.command.inside.seq; request = c.command.inside.request; sent_filters = c.command.inside.sent_filters }) c.start_request.new.qos (subst (λ (d : Pending). list_any (has_id d.id) c.args.pending.now ≡ false) (sym c.command.view_is) c.requires.fresh) c.start_request.ensures)
