use Rattle.std.proofs.Common.{◌≡◌, sym, ◌∙◌, ap}
use Rattle.shadow_mirror.specs.Pasts.{Past}
use Rattle.shadow_mirror.proofs.Adding.{adds_moves}
use Rattle.shadow_mirror.proofs.history.History.push.Goals as goal

pub compare_exchange-found-requires : goal.compare_exchange-found-requires
compare_exchange-found-requires c =
    let h = c.head.invariant in
    let offer = c.plain-offer.ensures in
    let pen = c.no_pen-pen.ensures in
    let same : c.self.inside.seen.book ≡ c.head.inside.head.book = ap (λ (p : Past). p.book) c.self.view_is ∙ sym c.requires.1 ∙ sym c.head.view_is in (
      ap (λ w. w.tracked) h,
      same,
      pen.0 ∙ same,
      offer.0,
      rw (ap (λ w. w.key) h, pen.1, offer.1, offer.3) (adds_moves c.self.inside.seen.log c.args.change.now c.self.inside.count (sym c.self.invariant)),
    )
