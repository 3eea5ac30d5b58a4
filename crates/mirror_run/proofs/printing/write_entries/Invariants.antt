-- The lines of so many entries were written.
use Rattle.std.proofs.Common.{◌≡◌, ◌++◌, take, flat_map}
use Rattle.mirror_run.specs.Answers.{entry_line}
use Rattle.mirror_run.proofs.printing.write_entries.Given as goal

abbrev pub invariant-loop-entry : goal.invariant-loop-entry
invariant-loop-entry l = l.page ≡ l.fn.page ++ flat_map entry_line (take l.entry-index l.entries)
