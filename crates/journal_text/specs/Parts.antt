-- Texts in parts, as they are written.
use Rattle.std.specs.Prelude.{◌≡◌, ℕ, true, List, decimal}
use Rattle.hex.specs.Hex.{encode_lower}
use Rattle.mqtt_packet.specs.Spelling.{spelling, is_sound}
use Rattle.plain_text.specs.Escapes.{escaped}
use Rattle.plain_text.specs.Payloads.{payload_text}
use Rattle.journal_text.specs.Texts.{count_text}
use Rattle.journal_text.specs.declared.parts.Part.{Part}
use Rattle.journal_text.specs.declared.parts.Part.TheVariants as parts

abbrev pub part_text : Part → List ℕ
part_text (parts.Plain text) = text.now
part_text (parts.Hex bytes) = encode_lower bytes.now
part_text (parts.Payload bytes) = payload_text bytes.now
part_text (parts.Escaped text) = escaped text.now
part_text (parts.Number n) = decimal n
part_text (parts.Total n) = decimal n
part_text (parts.Count count) = count_text count
part_text (parts.Spelled packet) = encode_lower (spelling packet.now)

abbrev pub IsSoundPart : Part → Type 0
IsSoundPart (parts.Spelled packet) = is_sound packet.now ≡ true
IsSoundPart _ = Unit {0}
