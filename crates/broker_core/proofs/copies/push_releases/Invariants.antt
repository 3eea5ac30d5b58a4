use Rattle.std.proofs.Common.{◌≡◌, ◌++◌, drop, map}
use Rattle.mqtt_packet.specs.declared.packet.Packet.TheVariants as p
use Rattle.broker_core.proofs.copies.push_releases.Given as goal

abbrev pub invariant-loop-id : goal.invariant-loop-id
invariant-loop-id l = l.packets ++ map (λ id. p.PubRel id) (drop l.id-index l.released) ≡ l.initial.packets ++ map (λ id. p.PubRel id) l.released
