-- What an entry sends has spellings, and labels change no packet.
use Rattle.std.proofs.Common.{◌≡◌, ℕ, true, List, [], ◌∷◌, ◌++◌, map, Option, Some, refl, sym, ap, ◌∙◌, subst}
use Rattle.std.specs.List.{AllByRecursion}
use Rattle.mqtt_packet.specs.declared.packet.Packet.{Packet}
use Rattle.mqtt_packet.specs.declared.packet.Packet.TheVariants as p
use Rattle.mqtt_packet.specs.Spelling.{is_sound}
use Rattle.agent_journal.specs.declared.entry.Cause.{Cause}
use Rattle.agent_journal.specs.declared.entry.Entry.{Entry}
use Rattle.agent_journal.specs.declared.effect.Effect.{Effect}
use Rattle.agent_journal.specs.declared.effect.Effect.TheVariants as f
use Rattle.agent_journal.specs.declared.setup.Setup.{Setup}
use Rattle.agent_journal.specs.Readings.{Pending}
use Rattle.agent_journal.specs.Setups.{is_client}
use Rattle.agent_journal.specs.Sound.{IsSoundEffect}
use Rattle.agent_journal.specs.Wires.{sends}
use Rattle.agent_table.specs.Histories.{IsLegalPast, row, effects_of}
use Rattle.agent_table.specs.Sizes.{Sizes}
use Rattle.agent_table.proofs.SoundPasts.{packets_are_sound}
use Rattle.session_world.specs.Ready.{Rises}
use Rattle.session_world.specs.World.{Rising, rising}

module _ (s : Setup) (l : Sizes) where
  pub risen : (cause : Cause) (commands : List Pending) (packet : Packet) → (rising s l cause commands packet).packet ≡ packet
  risen cause commands (p.Publish a b d e f g) = refl
  risen cause commands p.PingReq = refl
  risen cause commands p.PingResp = refl
  risen cause commands p.Disconnect = refl
  risen cause commands (p.Connect a b d e f g) = refl
  risen cause commands (p.ConnAck a b) = refl
  risen cause commands (p.PubAck a) = refl
  risen cause commands (p.PubRec a) = refl
  risen cause commands (p.PubRel a) = refl
  risen cause commands (p.PubComp a) = refl
  risen cause commands (p.Subscribe a b) = refl
  risen cause commands (p.SubAck a b) = refl
  risen cause commands (p.Unsubscribe a b) = refl
  risen cause commands (p.UnsubAck a) = refl

  -- the packets behind it
  pub risen_all : (cause : Cause) (commands : List Pending) (up : List Rising) (packets : List Packet)
      → map (λ (x : Rising). x.packet) (up ++ map (rising s l cause commands) packets) ≡ map (λ (x : Rising). x.packet) up ++ packets
  risen_all cause commands [] [] = refl
  risen_all cause commands [] (packet ∷ packets) = λ i. risen cause commands packet i ∷ risen_all cause commands [] packets i
  risen_all cause commands (x ∷ up) packets = ap (λ ps. x.packet ∷ ps) (risen_all cause commands up packets)

  -- the sends of sound effects
  sound_sends : (cause : Cause) (commands : List Pending) (effects : List Effect) → AllByRecursion IsSoundEffect effects → AllByRecursion Rises (map (rising s l cause commands) (sends effects))
  sound_sends cause commands [] h = tt
  sound_sends cause commands (f.Send packet ∷ effects) h = (ap is_sound (risen cause commands packet) ∙ h.0, sound_sends cause commands effects h.1)
  sound_sends cause commands (f.Done task seq outcome ∷ effects) h = sound_sends cause commands effects h.1
  sound_sends cause commands (f.Pass task message ∷ effects) h = sound_sends cause commands effects h.1
  sound_sends cause commands (f.Closed task ∷ effects) h = sound_sends cause commands effects h.1

  pub sound_behind : (cause : Cause) (commands : List Pending) (up : List Rising) (effects : List Effect) → AllByRecursion Rises up → AllByRecursion IsSoundEffect effects
      → AllByRecursion Rises (up ++ map (rising s l cause commands) (sends effects))
  sound_behind cause commands [] effects h g = sound_sends cause commands effects g
  sound_behind cause commands (x ∷ up) effects h g = (h.0, sound_behind cause commands up effects h.1 g)

  -- a row's effects are sound
  pub row_sound : (past : List Entry) (at : ℕ) (cause : Cause) (effects : List Effect) → is_client s.client ≡ true → IsLegalPast s l past
      → effects_of (row s l past at cause) ≡ Some effects → AllByRecursion IsSoundEffect effects
  row_sound past at cause effects client legal e = (packets_are_sound s l (record { at = at; cause = cause; effects = effects } ∷ past) client (e, legal)).0.effects
