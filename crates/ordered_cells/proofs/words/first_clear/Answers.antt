use Rattle.std.proofs.Common.{rules}
use Rattle.ordered_cells.proofs.Flags.{all_set, first_of_all}
use Rattle.ordered_cells.proofs.words.first_clear.Goals as goal

pub returns-then-word-clause-some : goal.returns-then-word-clause-some
returns-then-word-clause-some c = (
  c.place_in.ensures.clear,
  first_of_all c.args.words.now c.loop-at.at c.place_in.result c.loop-at.invariant c.place_in.ensures.first,
)

pub loop-at-preserved : goal.loop-at-preserved
loop-at-preserved c = all_set c.args.words.now c.loop-at.at (search rules) c.loop-at.invariant
