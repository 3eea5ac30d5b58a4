use Rattle.std.proofs.Common.{◌≡◌, ◌-◌, ◌^◌, length, min, take}
use Rattle.std.specs.List.{flat_map}
use Rattle.mqtt_packet.specs.Spelling.{string}
use Rattle.session_text.proofs.command.texts_len.Given as goal

abbrev pub invariant-loop-text : goal.invariant-loop-text
invariant-loop-text l = l.total ≡ min (length (flat_map string (take l.text-index l.texts))) (2 ^ 64 - 1)
