use Rattle.std.proofs.Common.{◌≡◌}
use Rattle.left_right.specs.Sides.{view}
use Rattle.shadow_mirror.specs.Known.{known_of}
use Rattle.shadow_mirror.proofs.reader.look_until.Given as goal

abbrev pub invariant-loop : goal.invariant-loop
invariant-loop g l = view l.reader.place ≡ known_of l.seen.book
