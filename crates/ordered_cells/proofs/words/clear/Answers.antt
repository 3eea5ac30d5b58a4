use Rattle.ordered_cells.proofs.Flags.{cleared_flags}
use Rattle.ordered_cells.proofs.words.clear.Goals as goal

pub returns-clause-flags : goal.returns-clause-flags
returns-clause-flags c = cleared_flags c.args.words.now c.args.i c.requires
