use Rattle.std.proofs.Common.{◌≡◌, true, take}
use Rattle.std.specs.List.{list_all}
use Rattle.mqtt_packet.specs.Spelling.{is_string}
use Rattle.mqtt_packet.proofs.soundness.are_filters.Given as goal

abbrev pub invariant-loop-filter : goal.invariant-loop-filter
invariant-loop-filter l = list_all is_string (take l.filter-index l.filters) ≡ true
