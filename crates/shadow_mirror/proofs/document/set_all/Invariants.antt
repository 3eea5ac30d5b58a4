-- The entries are what the keys so far make of them.
use Rattle.std.proofs.Common.{◌≡◌, fold, take}
use Rattle.shadow_mirror.specs.Documents.{set_one}
use Rattle.shadow_mirror.proofs.document.set_all.Given as goal

abbrev pub invariant-loop-set : goal.invariant-loop-set
invariant-loop-set l = l.entries.items ≡ fold set_one l.fn.entries.items (take l.set-index l.sets)
