-- The document is what the changes so far make of it.
use Rattle.std.proofs.Common.{◌≡◌, fold, take}
use Rattle.shadow_mirror.specs.Documents.{changed}
use Rattle.shadow_mirror.proofs.writer.change_all.Given as goal

abbrev pub invariant-loop-change : goal.invariant-loop-change
invariant-loop-change l = l.document ≡ fold changed l.fn.document (take l.change-index l.changes)
