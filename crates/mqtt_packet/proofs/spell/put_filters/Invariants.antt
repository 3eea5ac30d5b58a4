use Rattle.std.proofs.Common.{◌≡◌, ◌+◌, ◌++◌, length, take}
use Rattle.std.specs.List.{flat_map}
use Rattle.mqtt_packet.specs.Spelling.{string}
use Rattle.mqtt_packet.proofs.spell.put_filters.Given as goal

abbrev pub invariant-loop-filter : goal.invariant-loop-filter
invariant-loop-filter l = record {
  place : l.end ≡ l.at + length (flat_map string (take l.filter-index l.filters));
  front : take l.end l.out ≡ take l.at l.fn.out ++ flat_map string (take l.filter-index l.filters);
}
