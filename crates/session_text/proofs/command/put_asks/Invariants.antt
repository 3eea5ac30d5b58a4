use Rattle.std.proofs.Common.{Ok, take}
use Rattle.std.specs.List.{flat_map}
use Rattle.mqtt_packet.specs.Spelling.{ask_bytes}
use Rattle.session_text.specs.Spelling.{Puts}
use Rattle.session_text.proofs.command.put_asks.Given as goal

abbrev pub invariant-loop-ask : goal.invariant-loop-ask
invariant-loop-ask l = Puts (flat_map ask_bytes (take l.ask-index l.asks)) l.at l.fn.out l.out (Ok l.end)
