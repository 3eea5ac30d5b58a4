-- Which sessions have a text, and that reading and writing are one another's inverse.
use Rattle.std.specs.Prelude.{◌≡◌, ℕ, ◌<◌, ◌≤◌, ◌^◌, true, List, [], length, Option, Some, None}
use Rattle.std.specs.List.{AllByRecursion}
use Rattle.mqtt_packet.specs.declared.packet.Packet.{Packet}
use Rattle.mqtt_packet.specs.declared.packet.Packet.TheVariants as p
use Rattle.mqtt_packet.specs.Spelling.{is_sound, is_string, IsOfItsTypes}
use Rattle.mqtt_packet.specs.Stream.{AreBytes}
use Rattle.agent_journal.specs.declared.off.OffBy.{OffBy}
use Rattle.agent_journal.specs.declared.off.OffBy.TheVariants as by
use Rattle.topic_filter.specs.Texts.{is_filter}
use Rattle.session_text.specs.declared.session.Session.{Session}
use Rattle.session_text.specs.declared.session.Connections.{Connections}
use Rattle.session_text.specs.declared.session.Last.{Last}
use Rattle.session_text.specs.declared.session.Command.{Command}
use Rattle.session_text.specs.declared.session.Route.{Route}
use Rattle.session_text.specs.Reading.{session_in}
use Rattle.session_text.specs.Spelling.{session_text}

-- ---- Which have a text: numbers in their widths, packets with a spelling, texts

-- a code that refuses (MQTT 3.1.1, section 3.2.2.3)
abbrev pub IsRefusal : OffBy → Type 0
IsRefusal (by.Refused code) = (1 ≤ code) × (code ≤ 5)
IsRefusal _ = Unit {0}

abbrev pub IsOff : Option OffBy → Type 0
IsOff None = Unit {0}
IsOff (Some off) = IsRefusal off

pub record AreConnections (c : Connections) : Type 0 where
  pub off : IsOff c.off
  pub breaks : c.breaks < 2 ^ 32

pub record IsLast (l : Last) : Type 0 where
  pub time : l.time < 2 ^ 64
  pub id : l.id < 65536

pub record HasSpelling (packet : Packet) : Type 0 where
  pub sound : is_sound packet ≡ true
  pub types : IsOfItsTypes packet

abbrev pub IsString : List ℕ → Type 0
IsString text = is_string text ≡ true

-- only an unsubscribe has filters beside its packet
abbrev pub AreAsked : Packet → List (List ℕ) → Type 0
AreAsked (p.Unsubscribe id named) filters = (length filters < 256) × AllByRecursion IsString filters
AreAsked _ filters = filters ≡ []

pub record IsCommand (c : Command) : Type 0 where
  pub task : c.task < 2 ^ 32
  pub seq : c.seq < 2 ^ 32
  pub packet : HasSpelling c.packet
  pub filters : AreAsked c.packet c.filters

pub record IsFilter (topics : List ℕ) : Type 0 where
  pub text : is_string topics ≡ true
  pub filter : is_filter topics ≡ true

pub record IsRoute (r : Route) : Type 0 where
  pub task : r.task < 2 ^ 32
  pub filter : IsFilter r.filter

abbrev pub IsNumber16 : ℕ → Type 0
IsNumber16 n = n < 65536

abbrev pub IsNumber64 : ℕ → Type 0
IsNumber64 n = n < 2 ^ 64

abbrev pub AreCounted : {A : Type 0} → (A → Type 0) → List A → Type 0
AreCounted Is xs = (length xs < 65536) × AllByRecursion Is xs

pub record AreLists (x : Session) : Type 0 where
  pub held : AreCounted IsNumber16 x.held
  pub commands : AreCounted IsCommand x.commands
  pub released : AreCounted IsNumber16 x.released
  pub routes : AreCounted IsRoute x.routes

pub record HasText (x : Session) : Type 0 where
  pub connections : AreConnections x.connections
  pub left : x.left < 256
  pub taken : (length x.taken ≡ 8) × AllByRecursion IsNumber64 x.taken
  pub last : IsLast x.last
  pub lists : AreLists x

-- ---- Laws

-- The text of a session is read as that session.
abbrev pub TextsAreRead : Type 0
TextsAreRead = (x : Session) → HasText x → session_in (session_text x) ≡ Some x

-- Bytes that are read as a session are its text.
abbrev pub ReadAreTexts : Type 0
ReadAreTexts = (bytes : List ℕ) (x : Session) → AreBytes bytes → session_in bytes ≡ Some x → HasText x × (bytes ≡ session_text x)
