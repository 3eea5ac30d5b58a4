-- The copies so far are the items that were gone through.
use Rattle.std.proofs.Common.{◌≡◌, take}
use Rattle.list_types.proofs.seq.copy_all.Given as goal

abbrev pub invariant-loop-item : goal.invariant-loop-item
invariant-loop-item g l = l.items.items ≡ take l.item-index l.source
