-- The events of the broker, what it keeps behind a list of them, and which lists it stands for.
use Rattle.std.specs.Prelude.{IsUtf8, ◌≡◌, ℕ, ◌≤◌, true, List, [], ◌∷◌, length}
use Rattle.mqtt_packet.specs.declared.qos.Qos.{Qos}
use Rattle.mqtt_packet.specs.declared.packet.Packet.{Packet}
use Rattle.mqtt_packet.specs.Spelling.{is_sound}
use Rattle.topic_filter.specs.Texts.{is_name}
use Rattle.broker_core.specs.declared.link.Link.{Link}
use Rattle.broker_core.specs.declared.link.Link.TheVariants.{Gone, Opened, Accepted}
use Rattle.broker_core.specs.Kept.{Kept, nothing, ended}
use Rattle.broker_core.specs.Rules.{Answer, goes_on, answer, answer_own, with_link}

pub data Event : Type 0 where
  -- a connection begins
  Begins : Event
  -- it ends
  Ends : Event
  -- a packet comes on it
  Comes : Packet → Event
  -- the broker publishes a message of its own
  Publishes : Qos → List ℕ → List ℕ → Event

-- what the broker does at it
abbrev pub answer_to : Event → Kept → Answer
answer_to Begins k = goes_on [] (with_link Opened k)
answer_to Ends k = goes_on [] (ended k)
answer_to (Comes packet) k = answer k packet
answer_to (Publishes qos topic payload) k = answer_own k qos topic payload

-- What is kept behind a list of events, newest first: the connection, sessions with their lists, and the messages that were
-- passed on.
abbrev pub kept_of : List Event → Kept
kept_of [] = nothing
kept_of (event ∷ past) = (answer_to event (kept_of past)).kept

-- the replies to an event behind earlier ones, and what is kept then
abbrev pub reply : List Event → Event → Answer
reply past event = answer_to event (kept_of past)

-- Which events may come: a connection begins where there is none, a packet comes where there is one, and is sound, and a message
-- of the broker has a name, in UTF-8, and at most 131,072 bytes.
abbrev pub IsThere : Link → Type 0
IsThere Gone = ⊥
IsThere Opened = Unit {0}
IsThere (Accepted clean s) = Unit {0}

abbrev pub MayCome : Event → Kept → Type 0
MayCome Begins k = k.link ≡ Gone
MayCome Ends k = Unit {0}
MayCome (Comes packet) k = IsThere k.link × (is_sound packet ≡ true)
MayCome (Publishes qos topic payload) k = (is_name topic ≡ true) × IsUtf8 topic × (length payload ≤ 131072)

abbrev pub IsPast : List Event → Type 0
IsPast [] = Unit {0}
IsPast (event ∷ past) = MayCome event (kept_of past) × IsPast past

-- The broker stands for each list of events that may have come and behind which all of this is kept.
pub record StandsFor (k : Kept) (past : List Event) : Type 0 where
  pub possible : IsPast past
  pub kept : k ≡ kept_of past
