-- What a splitter keeps, for which streams it stands, and what its answers say of them.
use Rattle.std.specs.Prelude.{◌≡◌, ℕ, ◌-◌, ◌^◌, ◌≤◌, List, [], ◌∷◌, ◌++◌, length, min, Option, Some, None, IfSome}
use Rattle.mqtt_packet.specs.declared.packet.Packet.{Packet}
use Rattle.mqtt_packet.specs.declared.front.Verdict.{Verdict}
use Rattle.mqtt_packet.specs.declared.front.Verdict.TheVariants as verdicts
use Rattle.mqtt_packet.specs.declared.splitter.Next.{Next}
use Rattle.mqtt_packet.specs.declared.splitter.Next.TheVariants as answers
use Rattle.mqtt_packet.specs.Grammar.{Spells}
use Rattle.mqtt_packet.specs.Stream.{AreBytes, SpellAll, Splits, IsBad, IsTooLong, IsPartial}

pub record Kept : Type 0 where
  -- the bytes that aren't handed out
  pub rest : List ℕ
  -- how many are, or the greatest u64 where they are more
  pub at : ℕ
  -- the verdict that ended the stream, if any
  pub verdict : Option Verdict

-- what a verdict says of a rest
abbrev pub IsVerdict : List ℕ → Verdict → Type 0
IsVerdict rest verdicts.Bad = IsBad rest
IsVerdict rest (verdicts.TooLong size) = IsTooLong rest size

-- Bytes that come behind a verdict are dropped, and no others.
abbrev pub MayDrop : Option Verdict → List ℕ → Type 0
MayDrop None dropped = dropped ≡ []
MayDrop (Some verdict) dropped = Unit {0}

-- The bytes were fed, in whatever pieces, and these packets handed out.
pub record StandsFor (k : Kept) (fed : List ℕ) (handed : List Packet) : Type 0 where
  pub bytes : AreBytes fed
  -- the bytes of the packets that were handed out
  pub front : List ℕ
  pub dropped : List ℕ
  pub stream : fed ≡ front ++ (k.rest ++ dropped)
  pub spelled : SpellAll handed front
  pub at : k.at ≡ min (length front) (2 ^ 64 - 1)
  pub may_drop : MayDrop k.verdict dropped
  pub verdict : IfSome k.verdict (λ verdict. IsVerdict (k.rest ++ dropped) verdict)

-- What an answer says of the bytes that were fed and the packets that were handed out before it: the next packet, or that
-- there is none, and the verdict of the rest. The offset is that of the rest's first byte, or the greatest u64 where it
-- is larger.
abbrev pub Tells : List ℕ → List Packet → Next → Type 0
Tells fed handed (answers.Packet packet) = (front own rest : List ℕ) × (fed ≡ front ++ (own ++ rest)) × SpellAll handed front × Spells packet own
Tells fed handed answers.More = (front rest : List ℕ) × Splits fed handed front rest × IsPartial rest
Tells fed handed (answers.Bad at) = (front rest : List ℕ) × Splits fed handed front rest × IsBad rest × (at ≡ min (length front) (2 ^ 64 - 1))
Tells fed handed (answers.TooLong at len) = (front rest : List ℕ) × Splits fed handed front rest × IsTooLong rest len × (at ≡ min (length front) (2 ^ 64 - 1))

-- the packets that are handed out behind this answer
abbrev pub handed_with : List Packet → Next → List Packet
handed_with handed (answers.Packet packet) = handed ++ packet ∷ []
handed_with handed answers.More = handed
handed_with handed (answers.Bad at) = handed
handed_with handed (answers.TooLong at len) = handed

-- A verdict that is told is kept, and the offset with it. No other answer leaves one.
abbrev pub IsKept : Next → Kept → Type 0
IsKept (answers.Packet packet) k = k.verdict ≡ None
IsKept answers.More k = k.verdict ≡ None
IsKept (answers.Bad at) k = (k.verdict ≡ Some verdicts.Bad) × (k.at ≡ at)
IsKept (answers.TooLong at len) k = (k.verdict ≡ Some (verdicts.TooLong len)) × (k.at ≡ at)

-- a verdict, told with the offset
abbrev pub told : ℕ → Verdict → Next
told at verdicts.Bad = answers.Bad at
told at (verdicts.TooLong len) = answers.TooLong at len

-- Behind More fewer bytes are kept than a packet may have.
abbrev pub IsShortAt : Next → ℕ → Type 0
IsShortAt (answers.Packet packet) held = Unit {0}
IsShortAt answers.More held = held ≤ 262143
IsShortAt (answers.Bad at) held = Unit {0}
IsShortAt (answers.TooLong at len) held = Unit {0}
