-- How large a remaining length of so many bytes is, and a packet in front.
use Rattle.std.specs.Prelude.{ℕ, ◌<◌, ◌≤◌}
use Rattle.mqtt_packet.specs.declared.remaining.Remaining.{Remaining}
use Rattle.mqtt_packet.specs.declared.remaining.Remaining.TheVariants.{Is, Part, Wrong}
use Rattle.mqtt_packet.specs.declared.front.Front.{Front}
use Rattle.mqtt_packet.specs.declared.front.Front.TheVariants as fronts

abbrev pub IsBelow : ℕ → Remaining → Type 0
IsBelow most (Is n count) = (most ≤ 1 → n < 128) × (most ≤ 2 → n < 16384) × (most ≤ 3 → n < 2097152) × (n < 268435456) × (count ≤ most)
IsBelow most Part = Unit {0}
IsBelow most Wrong = Unit {0}

-- A packet in front takes no more than so many bytes.
abbrev pub IsWithin : ℕ → Front → Type 0
IsWithin len (fronts.Packet packet size) = size ≤ len
IsWithin len fronts.More = Unit {0}
IsWithin len (fronts.Ended verdict) = Unit {0}
