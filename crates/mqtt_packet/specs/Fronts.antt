-- What stands in front of bytes, as a function: a packet and its size, less than one, or a verdict.
use Rattle.std.specs.Prelude.{ℕ, ◌+◌, nat_lt, List, [], ◌∷◌, length, take, drop, Option, Some, None, if◌then◌else◌}
use Rattle.mqtt_packet.specs.declared.packet.Packet.{Packet}
use Rattle.mqtt_packet.specs.declared.kind.Kind.{Kind}
use Rattle.mqtt_packet.specs.declared.remaining.Remaining.{Remaining}
use Rattle.mqtt_packet.specs.declared.remaining.Remaining.TheVariants.{Is, Part, Wrong}
use Rattle.mqtt_packet.specs.declared.front.Front.{Front}
use Rattle.mqtt_packet.specs.declared.front.Front.TheVariants as fronts
use Rattle.mqtt_packet.specs.declared.front.Verdict.TheVariants as verdicts
use Rattle.mqtt_packet.specs.Reading.{kind_of, remaining_in, packet_of}

abbrev pub read_as : Option Packet → ℕ → Front
read_as None size = fronts.Ended verdicts.Bad
read_as (Some packet) size = fronts.Packet packet size

-- behind a first byte of this kind, a remaining length n of so many bytes
unfoldable pub frame_of : Kind → ℕ → ℕ → List ℕ → Front
frame_of kind n count bytes =
    if nat_lt 262144 (1 + count + n) then fronts.Ended (verdicts.TooLong (1 + count + n))
    else if nat_lt (length bytes) (count + n) then fronts.More
    else read_as (packet_of kind (take n (drop count bytes))) (1 + count + n)

abbrev pub measured : Kind → Remaining → List ℕ → Front
measured kind (Is n count) bytes = frame_of kind n count bytes
measured kind Part bytes = fronts.More
measured kind Wrong bytes = fronts.Ended verdicts.Bad

abbrev pub behind_head : Option Kind → List ℕ → Front
behind_head None bytes = fronts.Ended verdicts.Bad
behind_head (Some kind) bytes = measured kind (remaining_in 4 bytes) bytes

unfoldable pub front_of : List ℕ → Front
front_of [] = fronts.More
front_of (head ∷ bytes) = behind_head (kind_of head) bytes
