-- The levels before `rest` are levels of a filter.
use Rattle.std.proofs.Common.{◌≡◌, length}
use Rattle.topic_filter.specs.Levels.{levels_of}
use Rattle.topic_filter.specs.Texts.{are_filter_levels}
use Rattle.topic_filter.proofs.texts.has_filter_levels.Given as goal

abbrev pub invariant-levels : goal.invariant-levels
invariant-levels l = are_filter_levels (levels_of l.rest) ≡ are_filter_levels (levels_of l.text)

abbrev pub decreases-levels : goal.decreases-levels
decreases-levels l = length l.rest
