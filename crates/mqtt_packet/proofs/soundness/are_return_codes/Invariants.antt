use Rattle.std.proofs.Common.{◌≡◌, true, take}
use Rattle.std.specs.List.{list_all}
use Rattle.mqtt_packet.specs.Spelling.{is_return_code}
use Rattle.mqtt_packet.proofs.soundness.are_return_codes.Given as goal

abbrev pub invariant-loop-code : goal.invariant-loop-code
invariant-loop-code l = list_all is_return_code (take l.code-index l.codes) ≡ true
