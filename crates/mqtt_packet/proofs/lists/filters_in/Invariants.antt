use Rattle.std.proofs.Common.{◌≡◌, ◌≤◌, ◌+◌, ◌-◌, length}
use Rattle.mqtt_packet.specs.Reading.{items_in, string_at}
use Rattle.mqtt_packet.proofs.Members.{all_behind}
use Rattle.mqtt_packet.proofs.lists.filters_in.Given as goal

abbrev pub invariant-loop-rest : goal.invariant-loop-rest
invariant-loop-rest l = record {
  room : length l.rest + length l.filters ≤ length l.bytes;
  so_far : all_behind l.filters (items_in string_at (length l.bytes - length l.filters) l.rest) ≡ items_in string_at (length l.bytes) l.bytes;
}

abbrev pub decreases-loop-rest : goal.decreases-loop-rest
decreases-loop-rest l = length l.rest
