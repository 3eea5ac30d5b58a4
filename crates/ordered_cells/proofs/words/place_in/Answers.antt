use Rattle.std.proofs.Common.{arith}
use Rattle.ordered_cells.proofs.Flags.{lowest_clear}
use Rattle.ordered_cells.proofs.words.place_in.Goals as goal

pub returns-clause-clear : goal.returns-clause-clear
returns-clause-clear c = (lowest_clear c.args.words.now c.args.at c.requires.some (omega (arith, c.type_inv.words c.args.at))).0

pub returns-clause-first : goal.returns-clause-first
returns-clause-first c = (lowest_clear c.args.words.now c.args.at c.requires.some (omega (arith, c.type_inv.words c.args.at))).1
