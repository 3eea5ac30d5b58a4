-- Entries whose packets have spellings.
use Rattle.std.specs.Prelude.{◌≡◌, true}
use Rattle.std.specs.List.{AllByRecursion}
use Rattle.mqtt_packet.specs.Spelling.{is_sound}
use Rattle.agent_journal.specs.declared.entry.Cause.{Cause}
use Rattle.agent_journal.specs.declared.entry.Cause.TheVariants as c
use Rattle.agent_journal.specs.declared.entry.Entry.{Entry}
use Rattle.agent_journal.specs.declared.effect.Effect.{Effect}
use Rattle.agent_journal.specs.declared.effect.Effect.TheVariants as f

abbrev pub IsSoundEffect : Effect → Type 0
IsSoundEffect (f.Send packet) = is_sound packet ≡ true
IsSoundEffect _ = Unit {0}

abbrev pub IsSoundCause : Cause → Type 0
IsSoundCause (c.Arrived packet) = is_sound packet ≡ true
IsSoundCause _ = Unit {0}

-- Each packet in the entry has a spelling.
pub record IsSoundEntry (e : Entry) : Type 0 where
  pub cause : IsSoundCause e.cause
  pub effects : AllByRecursion IsSoundEffect e.effects
