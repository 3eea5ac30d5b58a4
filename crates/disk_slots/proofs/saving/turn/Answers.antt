use Rattle.std.proofs.Common.{◌≡◌, ◌⊎◌, List, ℕ, Some}
use Rattle.std.proofs.lemmas.Result.{on_ok_weaker}
use Rattle.disk_slots.specs.Slots.{counting}
use Rattle.disk_slots.proofs.Stages.{turned, saved_at, sync_keeps}
use Rattle.disk_slots.proofs.saving.turn.Goals as goal

pub returns-in_err-write_at-clause-kept : goal.returns-in_err-write_at-clause-kept
returns-in_err-write_at-clause-kept g c t old new has_old has_new =
    turned c.args.slot_len c.args.to old new _ _ _ (c.requires.settled t) has_old has_new (c.write_at.ensures.crash t)

pub returns-clause-kept : goal.returns-clause-kept
returns-clause-kept g c t old new has_old has_new =
    let written = turned c.args.slot_len c.args.to old new _ _ _ (c.requires.settled t) has_old has_new (c.write_at.ensures.crash t) in
    sync_keeps c.sync.result _ _ _ (λ (image : List ℕ). (counting c.args.slot_len image ≡ Some old) ⊎ (counting c.args.slot_len image ≡ Some new)) (c.sync.ensures.durable t) (c.sync.ensures.failed t) (g.met.D.Disk.seen_is_one c.write_at.new.self t) written

pub returns-clause-saved : goal.returns-clause-saved
returns-clause-saved g c t new has =
    on_ok_weaker c.sync.result (λ only. saved_at c.args.slot_len c.args.to _ new _ _ _ c.gate.ensures has (c.in_ok-write_at.ensures.written t) only) (c.sync.ensures.durable t)
