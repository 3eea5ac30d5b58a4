-- Entries whose numbers fit their types, as those of each value in the program do.
use Rattle.std.specs.Prelude.{ℕ, ◌^◌, ◌<◌, List, Option, Some, None}
use Rattle.std.specs.List.{AllByRecursion}
use Rattle.mqtt_packet.specs.declared.packet.Packet.{Packet}
use Rattle.mqtt_packet.specs.declared.packet.Packet.TheVariants as p
use Rattle.mqtt_packet.specs.declared.will.Ask.{Ask}
use Rattle.mqtt_packet.specs.declared.will.Will.{Will}
use Rattle.mqtt_packet.specs.Spelling.{IsOfItsTypes}
use Rattle.agent_journal.specs.declared.request.Request.{Request}
use Rattle.agent_journal.specs.declared.request.Request.TheVariants as requests
use Rattle.agent_journal.specs.declared.outcome.Outcome.{Outcome}
use Rattle.agent_journal.specs.declared.outcome.Outcome.TheVariants as o
use Rattle.agent_journal.specs.declared.entry.Why.{Why}
use Rattle.agent_journal.specs.declared.entry.Why.TheVariants as why
use Rattle.agent_journal.specs.declared.entry.Cause.{Cause}
use Rattle.agent_journal.specs.declared.entry.Cause.TheVariants as c
use Rattle.agent_journal.specs.declared.entry.Entry.{Entry}
use Rattle.agent_journal.specs.declared.effect.Effect.{Effect}
use Rattle.agent_journal.specs.declared.effect.Effect.TheVariants as f

abbrev pub IsByte : ℕ → Type 0
IsByte b = b < 256

abbrev pub AreBytes : List ℕ → Type 0
AreBytes bytes = AllByRecursion IsByte bytes

abbrev pub HasBytes : Ask → Type 0
HasBytes ask = AreBytes ask.filter

abbrev pub HasWillBytes : Option Will → Type 0
HasWillBytes None = Unit {0}
HasWillBytes (Some will) = AreBytes will.topic × AreBytes will.message

abbrev pub HasSomeBytes : Option (List ℕ) → Type 0
HasSomeBytes None = Unit {0}
HasSomeBytes (Some bytes) = AreBytes bytes

-- The texts, payloads and codes of a packet are of bytes.
abbrev pub HasFieldsOfBytes : Packet → Type 0
HasFieldsOfBytes (p.Connect clean keep_alive client will user password) = AreBytes client × HasWillBytes will × HasSomeBytes user × HasSomeBytes password
HasFieldsOfBytes (p.ConnAck present code) = IsByte code
HasFieldsOfBytes (p.Publish dup qos retain topic id payload) = AreBytes topic × AreBytes payload
HasFieldsOfBytes (p.Subscribe id asks) = AllByRecursion HasBytes asks
HasFieldsOfBytes (p.SubAck id return_codes) = AreBytes return_codes
HasFieldsOfBytes (p.Unsubscribe id filters) = AllByRecursion AreBytes filters
HasFieldsOfBytes _ = Unit {0}

pub record IsTypedPacket (packet : Packet) : Type 0 where
  pub numbers : IsOfItsTypes packet
  pub bytes : HasFieldsOfBytes packet

abbrev pub IsTypedRequest : Request → Type 0
IsTypedRequest (requests.Publish qos topic payload) = AreBytes topic × AreBytes payload
IsTypedRequest (requests.Subscribe asks) = AllByRecursion HasBytes asks
IsTypedRequest (requests.Unsubscribe filters) = AllByRecursion AreBytes filters
IsTypedRequest _ = Unit {0}

abbrev pub IsTypedWhy : Why → Type 0
IsTypedWhy (why.Bad at) = at < 2 ^ 64
IsTypedWhy (why.TooLong len) = len < 2 ^ 64
IsTypedWhy _ = Unit {0}

abbrev pub IsTypedCause : Cause → Type 0
IsTypedCause (c.Take task seq request) = (task < 2 ^ 32) × (seq < 2 ^ 32) × IsTypedRequest request
IsTypedCause (c.Arrived packet) = IsTypedPacket packet
IsTypedCause (c.Broke reason) = IsTypedWhy reason
IsTypedCause _ = Unit {0}

abbrev pub IsTypedOutcome : Outcome → Type 0
IsTypedOutcome (o.Granted bytes) = AreBytes bytes
IsTypedOutcome _ = Unit {0}

abbrev pub IsTypedEffect : Effect → Type 0
IsTypedEffect (f.Send packet) = IsTypedPacket packet
IsTypedEffect (f.Done task seq outcome) = (task < 2 ^ 32) × (seq < 2 ^ 32) × IsTypedOutcome outcome
IsTypedEffect (f.Pass task message) = (task < 2 ^ 32) × AreBytes message.topic × AreBytes message.payload
IsTypedEffect (f.Closed task) = task < 2 ^ 32

pub record IsTypedEntry (e : Entry) : Type 0 where
  pub at : e.at < 2 ^ 64
  pub cause : IsTypedCause e.cause
  pub effects : AllByRecursion IsTypedEffect e.effects
