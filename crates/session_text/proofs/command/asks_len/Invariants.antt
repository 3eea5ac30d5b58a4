use Rattle.std.proofs.Common.{◌≡◌, ◌-◌, ◌^◌, length, min, take}
use Rattle.std.specs.List.{flat_map}
use Rattle.mqtt_packet.specs.Spelling.{ask_bytes}
use Rattle.session_text.proofs.command.asks_len.Given as goal

abbrev pub invariant-loop-ask : goal.invariant-loop-ask
invariant-loop-ask l = l.total ≡ min (length (flat_map ask_bytes (take l.ask-index l.asks))) (2 ^ 64 - 1)
