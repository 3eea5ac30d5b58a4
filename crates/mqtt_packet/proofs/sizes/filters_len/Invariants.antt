use Rattle.std.proofs.Common.{◌≡◌, ◌-◌, ◌^◌, length, min, take}
use Rattle.std.specs.List.{flat_map}
use Rattle.mqtt_packet.specs.Spelling.{string}
use Rattle.mqtt_packet.proofs.sizes.filters_len.Given as goal

abbrev pub invariant-loop-filter : goal.invariant-loop-filter
invariant-loop-filter l = l.total ≡ min (length (flat_map string (take l.filter-index l.filters))) (2 ^ 64 - 1)
