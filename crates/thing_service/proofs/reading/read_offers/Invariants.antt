-- With the offers so far the lines from here on say what all lines say.
use Rattle.std.proofs.Common.{◌≡◌, ◌-◌, ◌+◌, ◌≤◌, [], length, drop}
use Rattle.std.specs.List.{AllByRecursion}
use Rattle.plain_text.specs.Lines.{lines_of}
use Rattle.thing_service.specs.Offers.{IsOffered}
use Rattle.thing_service.specs.ServiceTexts.{offers_from}
use Rattle.thing_service.proofs.reading.read_offers.Given as goal

abbrev pub invariant-lines : goal.invariant-lines
invariant-lines l = record {
  small : l.number ≤ l.at + 1;
  within : l.at ≤ length l.text;
  nameable : AllByRecursion IsOffered l.offers.items;
  so_far : offers_from l.offers.items l.number (lines_of (drop l.at l.text)) ≡ offers_from [] l.fn.first (lines_of (drop l.fn.from l.text));
}

abbrev pub decreases-lines : goal.decreases-lines
decreases-lines l = length l.text - l.at
