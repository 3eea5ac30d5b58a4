-- What is left of the filter fits what is left of the name where the whole filter fits the whole name.
use Rattle.std.proofs.Common.{◌≡◌, ◌≤◌, length, drop, true}
use Rattle.topic_filter.specs.Levels.{levels_of}
use Rattle.topic_filter.specs.Texts.{are_filter_levels}
use Rattle.topic_filter.specs.Fitting.{fits_levels}
use Rattle.topic_filter.proofs.fitting.fits_levels.Given as goal

abbrev pub invariant-loop-at : goal.invariant-loop-at
invariant-loop-at l = record {
  within : l.read ≤ length l.name;
  filter : are_filter_levels (levels_of (drop l.at l.filter)) ≡ true;
  left : fits_levels (levels_of (drop l.at l.filter)) (levels_of (drop l.read l.name)) ≡ fits_levels (levels_of l.filter) (levels_of l.name);
}
