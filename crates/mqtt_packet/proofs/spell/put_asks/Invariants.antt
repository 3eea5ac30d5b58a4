use Rattle.std.proofs.Common.{◌≡◌, ◌+◌, ◌++◌, length, take}
use Rattle.std.specs.List.{flat_map}
use Rattle.mqtt_packet.specs.Spelling.{ask_bytes}
use Rattle.mqtt_packet.proofs.spell.put_asks.Given as goal

abbrev pub invariant-loop-ask : goal.invariant-loop-ask
invariant-loop-ask l = record {
  place : l.end ≡ l.at + length (flat_map ask_bytes (take l.ask-index l.asks));
  front : take l.end l.out ≡ take l.at l.fn.out ++ flat_map ask_bytes (take l.ask-index l.asks);
}
