-- A packet has one spelling, bytes spell one packet, and no spelling is the front of another.
use Rattle.std.proofs.Common.{◌≡◌, Bool, [], ◌++◌, length, sym, ap, ◌∙◌, arith, length-append}
use Rattle.std.specs.Prelude.{◌↔◌, IsTrue}
use Rattle.std.proofs.lemmas.List.{append-nil, nil_from_length}
use Rattle.mqtt_packet.specs.declared.front.Front.TheVariants as fronts
use Rattle.mqtt_packet.specs.declared.packet.Packet.{Packet}
use Rattle.mqtt_packet.specs.Grammar.{HasSpelling}
use Rattle.mqtt_packet.specs.Spelling.{spelling, is_sound, IsOfItsTypes}
use Rattle.mqtt_packet.specs.Fronts.{front_of}
use Rattle.mqtt_packet.specs.Laws.{SoundAreSpelled, SpelledAreSound, HaveOneSpelling, SpellOnePacket, BeginNoOther}
use Rattle.mqtt_packet.proofs.Fronts.{spell_one, spell_is, front_read}

pub sound_are_spelled : SoundAreSpelled
sound_are_spelled packet fits e = spell_is packet e fits

pub spelled_are_sound : SpelledAreSound
spelled_are_sound packet bytes h = let s = spell_one packet bytes h in (s.1, s.2)

pub have_one_spelling : HaveOneSpelling
have_one_spelling packet a b h k = (spell_one packet a h).0 ∙ sym ((spell_one packet b k).0)

pub spell_one_packet : SpellOnePacket
spell_one_packet one other bytes h k =
    let both : fronts.Packet one (length bytes) ≡ fronts.Packet other (length bytes) = sym (front_read one bytes [] h) ∙ front_read other bytes [] k in
    cc

pub begin_no_other : BeginNoOther
begin_no_other one other bytes more h k =
    let whole : front_of (bytes ++ more) ≡ fronts.Packet other (length (bytes ++ more)) = ap front_of (sym (append-nil (bytes ++ more))) ∙ front_read other (bytes ++ more) [] k in
    let both : fronts.Packet one (length bytes) ≡ fronts.Packet other (length (bytes ++ more)) = sym (front_read one bytes more h) ∙ whole in
    let same : length bytes ≡ length (bytes ++ more) = cc in
    nil_from_length more (omega (arith, same, length-append bytes more))

-- a test of soundness tells whether there is a spelling
pub spelled_where : (packet : Packet) (sound : Bool) → sound ≡ is_sound packet → IsOfItsTypes packet → IsTrue sound ↔ HasSpelling packet
spelled_where packet sound e fits = ((λ t. (spelling packet, spell_is packet (sym e ∙ t) fits)), (λ h. e ∙ (spell_one packet h.0 h.1).1))
