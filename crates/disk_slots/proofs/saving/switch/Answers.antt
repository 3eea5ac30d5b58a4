use Rattle.std.proofs.Common.{sym, subst, inl}
use Rattle.disk_slots.specs.Slots.{AllCount}
use Rattle.disk_slots.proofs.Slots.{other_of, counted_as}
use Rattle.disk_slots.proofs.saving.switch.Goals as goal

pub returns-in_err-stage-clause-kept : goal.returns-in_err-stage-clause-kept
returns-in_err-stage-clause-kept g c t old all image left =
    let back = sym (other_of c.args.counts c.other-to.result c.other-to.ensures) in
    inl (counted_as c.args.slot_len _ old image (c.stage.ensures.kept t old (subst (λ s. AllCount c.args.slot_len s old (g.D.Disk.may_leave c.args.disk.now)) back all) image left))

pub returns-clause-kept : goal.returns-clause-kept
returns-clause-kept g c t old all =
    let back = sym (other_of c.args.counts c.other-to.result c.other-to.ensures) in
    let file = g.D.Disk.seen c.stage.new.disk in
    let counts = c.stage.ensures.kept t old (subst (λ s. AllCount c.args.slot_len s old (g.D.Disk.may_leave c.args.disk.now)) back all) file (g.met.D.Disk.seen_is_one c.stage.new.disk t) in
    c.turn.ensures.kept t old _ counts.1 (c.in_ok-stage.ensures.written t)
