use Rattle.std.proofs.Common.{◌∙◌}
use Rattle.std.proofs.lemmas.Result.{on_ok_weaker}
use Rattle.disk_slots.specs.Slots.{Counts, other}
use Rattle.disk_slots.proofs.Slots.{has_written}
use Rattle.disk_slots.proofs.Stages.{staged, sync_keeps}
use Rattle.disk_slots.proofs.saving.stage.Goals as goal

pub returns-in_err-write_at-clause-kept : goal.returns-in_err-write_at-clause-kept
returns-in_err-write_at-clause-kept g c t old all =
    staged c.args.slot_len _ c.args.to old _ _ _ c.requires.framed.fits c.start.ensures (c.write_at.ensures.crash t) all

pub returns-clause-kept : goal.returns-clause-kept
returns-clause-kept g c t old all =
    let written = staged c.args.slot_len _ c.args.to old _ _ _ c.requires.framed.fits c.start.ensures (c.write_at.ensures.crash t) all in
    sync_keeps c.sync.result _ _ _ (Counts c.args.slot_len (other c.args.to) old) (c.sync.ensures.durable t) (c.sync.ensures.failed t) (g.met.D.Disk.seen_is_one c.write_at.new.self t) written

pub returns-clause-written : goal.returns-clause-written
returns-clause-written g c t =
    let long = g.met.D.Disk.images_fit c.args.disk.now (g.D.Disk.seen c.args.disk.now) t (g.met.D.Disk.seen_is_one c.args.disk.now t) ∙ c.requires.slots.1 in
    on_ok_weaker c.sync.result (λ same. has_written c.args.slot_len c.args.to c.args.frame.now _ _ _ c.requires.slots.0 c.requires.framed c.start.ensures long (same ∙ c.in_ok-write_at.ensures.written t)) (c.sync.ensures.seen t)
