use Rattle.std.proofs.Common.{◌≡◌, ◌-◌, ◌≤◌, ◌++◌, List, length, take}
use Rattle.device_docs.specs.declared.changes.Change.{Change}
use Rattle.shadow_mirror.proofs.writer.log_all.Given as goal

abbrev pub invariant-loop-logged : goal.invariant-loop-logged
invariant-loop-logged l = record {
  within : l.logged ≤ length l.pending;
  book : l.history.book ≡ l.fn.history.book;
  more : (base : List Change) → l.fn.history.changes ≡ base ++ take l.fn.logged l.pending → l.history.changes ≡ base ++ take l.logged l.pending;
}

abbrev pub decreases-loop-logged : goal.decreases-loop-logged
decreases-loop-logged l = length l.pending - l.logged
