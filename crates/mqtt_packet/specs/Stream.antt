-- Streams of control packets: the packets of a list of bytes, the rest behind them, and the rest's verdict. A stream knows
-- nothing of the pieces in which it comes.
use Rattle.std.specs.Prelude.{◌≡◌, ◌⊎◌, ℕ, ◌+◌, ◌<◌, ◌≤◌, List, [], ◌∷◌, ◌++◌, length, slice_index_or}
use Rattle.mqtt_packet.specs.declared.packet.Packet.{Packet}
use Rattle.mqtt_packet.specs.Grammar.{Spells, IsLength}

-- each is a byte
abbrev pub AreBytes : List ℕ → Type 0
AreBytes bytes = (i : ℕ) → slice_index_or bytes i 0 < 256

-- The bytes are spellings of these packets, one behind the other.
abbrev pub SpellAll : List Packet → List ℕ → Type 0
SpellAll [] bytes = bytes ≡ []
SpellAll (packet ∷ packets) bytes = (front behind : List ℕ) × (bytes ≡ front ++ behind) × Spells packet front × SpellAll packets behind

-- no front of the bytes is a spelling
abbrev pub BeginsNoPacket : List ℕ → Type 0
BeginsNoPacket bytes = (packet : Packet) (front behind : List ℕ) → bytes ≡ front ++ behind → Spells packet front → ⊥

-- The bytes are spellings of these packets, which are the front, and then a rest of which no front is a spelling.
abbrev pub Splits : List ℕ → List Packet → List ℕ → List ℕ → Type 0
Splits bytes packets front rest = (bytes ≡ front ++ rest) × SpellAll packets front × BeginsNoPacket rest

abbrev pub IsStream : List ℕ → List Packet → List ℕ → Type 0
IsStream bytes packets rest = (front : List ℕ) × Splits bytes packets front rest

-- ---- The verdict of a rest

-- its first byte begins no spelling
abbrev pub HasWrongHead : List ℕ → Type 0
HasWrongHead [] = ⊥
HasWrongHead (head ∷ bytes) = (packet : Packet) (more : List ℕ) → Spells packet (head ∷ more) → ⊥

-- the bytes behind the first can't be continued to a remaining length
abbrev pub HasWrongLength : List ℕ → Type 0
HasWrongLength [] = ⊥
HasWrongLength (head ∷ bytes) = (more len behind : List ℕ) (n : ℕ) → bytes ++ more ≡ len ++ behind → IsLength len n → ⊥

-- A whole frame stands in front, of at most 262,144 bytes: first byte, remaining length, that many bytes. It spells nothing.
abbrev pub HasWrongFrame : List ℕ → Type 0
HasWrongFrame [] = ⊥
HasWrongFrame (head ∷ bytes) =
    (len body behind : List ℕ) × (bytes ≡ len ++ (body ++ behind)) × IsLength len (length body) × (1 + length len + length body ≤ 262144)
    × ((packet : Packet) → Spells packet (head ∷ len ++ body) → ⊥)

abbrev pub IsBad : List ℕ → Type 0
IsBad rest = HasWrongHead rest ⊎ (HasWrongLength rest ⊎ HasWrongFrame rest)

-- First byte, remaining length and the bytes that it counts are `size` together, which is above 262,144.
abbrev pub HasSizeAboveLimit : List ℕ → ℕ → Type 0
HasSizeAboveLimit [] size = ⊥
HasSizeAboveLimit (head ∷ bytes) size = (len behind : List ℕ) × (n : ℕ) × (bytes ≡ len ++ behind) × IsLength len n × (size ≡ 1 + length len + n) × (262144 < size)

-- Bad comes before TooLong, and these two before More, which stands where neither does.
abbrev pub IsTooLong : List ℕ → ℕ → Type 0
IsTooLong rest size = (IsBad rest → ⊥) × HasSizeAboveLimit rest size

abbrev pub IsPartial : List ℕ → Type 0
IsPartial rest = (IsBad rest → ⊥) × ((size : ℕ) → HasSizeAboveLimit rest size → ⊥)
