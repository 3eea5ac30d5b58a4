-- The hasher holds the front of the image.
use Rattle.std.proofs.Common.{◌≡◌, ◌-◌, ◌≤◌, length}
use Rattle.sha2.specs.Hashers.{Holds256}
use Rattle.thing_service.specs.Generator.{bytes}
use Rattle.thing_service.proofs.images.digest_of.Given as goal

abbrev pub invariant-loop-at : goal.invariant-loop-at
invariant-loop-at l = record {
  low : l.at ≤ l.size;
  piece : length l.piece ≡ 4096;
  held : Holds256 l.hasher (bytes l.seed 0 l.at);
}

abbrev pub decreases-loop-at : goal.decreases-loop-at
decreases-loop-at l = l.size - l.at
