use Rattle.std.proofs.Common.{◌∙◌}
use Rattle.std.proofs.lemmas.Result.{on_ok_weaker}
use Rattle.disk_slots.proofs.Stages.{formatted}
use Rattle.disk_slots.proofs.formatting.write_both.Goals as goal

pub returns-clause-saved : goal.returns-clause-saved
returns-clause-saved g c t =
    let long = g.met.D.Disk.images_fit c.args.disk.now (g.D.Disk.seen c.args.disk.now) t (g.met.D.Disk.seen_is_one c.args.disk.now t) ∙ c.requires.slots.1 in
    on_ok_weaker c.sync.result (λ only. formatted c.args.slot_len c.args.frame.now _ _ _ _ _ c.requires.slots.0 c.requires.framed long (c.in_ok-write_at.ensures.written t) (c.in_ok-write_at-2.ensures.written t) (c.in_ok-write_at-3.ensures.written t) only) (c.sync.ensures.durable t)
