use Rattle.std.proofs.Common.{Ok, take}
use Rattle.std.specs.List.{flat_map}
use Rattle.mqtt_packet.specs.Spelling.{string}
use Rattle.session_text.specs.Spelling.{Puts}
use Rattle.session_text.proofs.command.put_texts.Given as goal

abbrev pub invariant-loop-text : goal.invariant-loop-text
invariant-loop-text l = Puts (flat_map string (take l.text-index l.texts)) l.at l.fn.out l.out (Ok l.end)
