use Rattle.ordered_cells.proofs.Flags.{set_flags}
use Rattle.ordered_cells.proofs.words.set.Goals as goal

pub returns-clause-flags : goal.returns-clause-flags
returns-clause-flags c = set_flags c.args.words.now c.args.i c.requires
