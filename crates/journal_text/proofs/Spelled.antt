-- A packet in hexadecimal is a word, and names the packet.
use Rattle.std.proofs.Common.{◌≡◌, true, List, ℕ, subst}
use Rattle.hex.specs.Hex.{encode_lower}
use Rattle.mqtt_packet.specs.declared.packet.Packet.{Packet}
use Rattle.mqtt_packet.specs.Grammar.{Spells}
use Rattle.mqtt_packet.specs.Spelling.{spelling, is_sound}
use Rattle.mqtt_packet.proofs.Uniqueness.{sound_are_spelled, spell_one_packet}
use Rattle.journal_text.specs.Typed.{IsTypedPacket}
use Rattle.journal_text.proofs.Bytes.{spelling_bytes}
use Rattle.journal_text.proofs.Marks.{IsWord}
use Rattle.journal_text.proofs.Pieces.{hex_word, hex_same}

pub packet_word : (packet : Packet) → IsTypedPacket packet → IsWord (encode_lower (spelling packet))
packet_word packet typed = hex_word (spelling packet) (spelling_bytes packet typed.bytes)

pub packet_same : (one other : Packet) → is_sound one ≡ true → is_sound other ≡ true → IsTypedPacket one → IsTypedPacket other → encode_lower (spelling one) ≡ encode_lower (spelling other) → one ≡ other
packet_same one other first second p q e =
    let same : spelling one ≡ spelling other = hex_same (spelling one) (spelling other) (spelling_bytes one p.bytes) (spelling_bytes other q.bytes) e in
    let its : Spells one (spelling one) = sound_are_spelled one p.numbers first in
    let others : Spells other (spelling other) = sound_are_spelled other q.numbers second in
    spell_one_packet one other (spelling other) (subst (λ (bytes : List ℕ). Spells one bytes) same its) others
