-- The copies so far are the entries that were gone through.
use Rattle.std.proofs.Common.{◌≡◌, take}
use Rattle.shadow_mirror.proofs.document.copy_entries.Given as goal

abbrev pub invariant-loop-entry : goal.invariant-loop-entry
invariant-loop-entry l = l.entries.items ≡ take l.entry-index l.source
