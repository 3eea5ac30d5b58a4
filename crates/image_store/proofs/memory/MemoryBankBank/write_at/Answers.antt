use Rattle.std.proofs.Common.{ap, ◌∙◌}
use Rattle.image_store.specs.Memory.{contents_of}
use Rattle.image_store.proofs.Ranges.{unchanged}
use Rattle.image_store.proofs.memory.MemoryBankBank.write_at.Goals as goal

pub returns-then-fails-clause-contents : goal.returns-then-fails-clause-contents
returns-then-fails-clause-contents c =
    let m = c.args.self.now in
    let same = unchanged c.args.at _ m.testing m.kept m.fresh c.requires.inside in
    (same.0, same.1, ap contents_of c.self.view_is ∙ same.2)
