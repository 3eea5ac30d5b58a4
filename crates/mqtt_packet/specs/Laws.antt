-- Laws of the definitions, each the contract of a function that does nothing.
use Rattle.std.specs.Prelude.{◌≡◌, ◌⊎◌, ℕ, true, List, [], ◌++◌}
use Rattle.mqtt_packet.specs.declared.packet.Packet.{Packet}
use Rattle.mqtt_packet.specs.declared.splitter.Next.{Next}
use Rattle.mqtt_packet.specs.declared.splitter.Next.TheVariants as answers
use Rattle.mqtt_packet.specs.Grammar.{Spells}
use Rattle.mqtt_packet.specs.Spelling.{spelling, is_sound, IsOfItsTypes}
use Rattle.mqtt_packet.specs.Stream.{AreBytes, IsStream, BeginsNoPacket, IsBad, HasSizeAboveLimit, IsTooLong, IsPartial}
use Rattle.mqtt_packet.specs.Splitting.{Tells}

-- A packet is sound exactly where it has a spelling.
abbrev pub SoundAreSpelled : Type 0
SoundAreSpelled = (packet : Packet) → IsOfItsTypes packet → is_sound packet ≡ true → Spells packet (spelling packet)

abbrev pub SpelledAreSound : Type 0
SpelledAreSound = (packet : Packet) (bytes : List ℕ) → Spells packet bytes → (is_sound packet ≡ true) × IsOfItsTypes packet

-- A packet has one spelling.
abbrev pub HaveOneSpelling : Type 0
HaveOneSpelling = (packet : Packet) (a b : List ℕ) → Spells packet a → Spells packet b → a ≡ b

-- Bytes spell one packet.
abbrev pub SpellOnePacket : Type 0
SpellOnePacket = (one other : Packet) (bytes : List ℕ) → Spells one bytes → Spells other bytes → one ≡ other

-- No spelling is the front of a longer one.
abbrev pub BeginNoOther : Type 0
BeginNoOther = (one other : Packet) (bytes more : List ℕ) → Spells one bytes → Spells other (bytes ++ more) → more ≡ []

-- Each list of bytes is a stream of packets and a rest, in one way.
abbrev pub BytesAreAStream : Type 0
BytesAreAStream = (bytes : List ℕ) → AreBytes bytes → (packets : List Packet) × (rest : List ℕ) × IsStream bytes packets rest

abbrev pub StreamsAreUnique : Type 0
StreamsAreUnique = (bytes : List ℕ) (packets others : List Packet) (rest other : List ℕ) → IsStream bytes packets rest → IsStream bytes others other → (packets ≡ others) × (rest ≡ other)

-- Each rest is bad, too long or partial; which of them, and how long, is determined, since a verdict excludes those before it.
abbrev pub RestsHaveAVerdict : Type 0
RestsHaveAVerdict = (rest : List ℕ) → AreBytes rest → BeginsNoPacket rest → IsBad rest ⊎ (((size : ℕ) × IsTooLong rest size) ⊎ IsPartial rest)

abbrev pub SizesAreUnique : Type 0
SizesAreUnique = (rest : List ℕ) (one other : ℕ) → HasSizeAboveLimit rest one → HasSizeAboveLimit rest other → one ≡ other

-- Of what was fed and handed out an answer is determined.
abbrev pub AnswersAreDetermined : Type 0
AnswersAreDetermined = (fed : List ℕ) (handed : List Packet) (next other : Next) → Tells fed handed next → Tells fed handed other → next ≡ other

-- However the same bytes were cut into pieces: once an answer is no packet, the packets that were handed out are the same,
-- and so is the answer.
abbrev pub IsNoPacket : Next → Type 0
IsNoPacket (answers.Packet packet) = ⊥
IsNoPacket answers.More = Unit {0}
IsNoPacket (answers.Bad at) = Unit {0}
IsNoPacket (answers.TooLong at len) = Unit {0}

abbrev pub CutsMakeNoDifference : Type 0
CutsMakeNoDifference =
    (fed : List ℕ) (handed others : List Packet) (next other : Next) → IsNoPacket next → IsNoPacket other → Tells fed handed next → Tells fed others other
    → (handed ≡ others) × (next ≡ other)
