use Rattle.std.proofs.Common.{List, fold, sym, ◌∙◌, ap}
use Rattle.shadow_mirror.specs.Pasts.{Past}
use Rattle.shadow_mirror.proofs.Sights.{sights}
use Rattle.shadow_mirror.proofs.writer.mirror.Goals as goal

pub publish_as-writer-requires : goal.publish_as-writer-requires
publish_as-writer-requires g c next is =
    let x = c.in_ok-writer.writer.desk.shown.value in
    sights _ _ x next (sym (ap (λ (p : Past). p.book) (is ∙ ap (λ (l : List Past). fold (λ (_ n : Past). n) x l) c.in_ok-writer.ensures.1)))
