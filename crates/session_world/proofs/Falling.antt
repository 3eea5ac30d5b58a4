-- Labels change no packet on its way down.
use Rattle.std.proofs.Common.{◌≡◌, List, [], ◌∷◌, ◌++◌, map, refl, ap}
use Rattle.mqtt_packet.specs.declared.packet.Packet.{Packet}
use Rattle.mqtt_packet.specs.declared.packet.Packet.TheVariants as p
use Rattle.agent_journal.specs.declared.setup.Setup.{Setup}
use Rattle.agent_table.specs.Sizes.{Sizes}
use Rattle.broker_core.specs.Kept.{Kept}
use Rattle.session_world.specs.World.{Falling, falling}

module _ (s : Setup) (l : Sizes) where
  pub fallen : (k : Kept) (packet : Packet) → (falling s l k packet).packet ≡ packet
  fallen k (p.Publish a b d e f g) = refl
  fallen k p.PingReq = refl
  fallen k p.PingResp = refl
  fallen k p.Disconnect = refl
  fallen k (p.Connect a b d e f g) = refl
  fallen k (p.ConnAck a b) = refl
  fallen k (p.PubAck a) = refl
  fallen k (p.PubRec a) = refl
  fallen k (p.PubRel a) = refl
  fallen k (p.PubComp a) = refl
  fallen k (p.Subscribe a b) = refl
  fallen k (p.SubAck a b) = refl
  fallen k (p.Unsubscribe a b) = refl
  fallen k (p.UnsubAck a) = refl

  -- the packets behind it
  pub fallen_all : (k : Kept) (down : List Falling) (packets : List Packet) → map (λ (x : Falling). x.packet) (down ++ map (falling s l k) packets) ≡ map (λ (x : Falling). x.packet) down ++ packets
  fallen_all k [] [] = refl
  fallen_all k [] (packet ∷ packets) = λ i. fallen k packet i ∷ fallen_all k [] packets i
  fallen_all k (x ∷ down) packets = ap (λ ps. x.packet ∷ ps) (fallen_all k down packets)
