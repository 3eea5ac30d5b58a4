use Rattle.std.proofs.Common.{◌≡◌, true, take}
use Rattle.std.specs.List.{list_all}
use Rattle.mqtt_packet.specs.Spelling.{is_ask}
use Rattle.mqtt_packet.proofs.soundness.are_asks.Given as goal

abbrev pub invariant-loop-ask : goal.invariant-loop-ask
invariant-loop-ask l = list_all is_ask (take l.ask-index l.asks) ≡ true
