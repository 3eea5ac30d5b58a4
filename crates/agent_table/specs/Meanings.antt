-- What the readings of a journal mean, in the words of MQTT 3.1.1: laws of the definitions that the table reads.
use Rattle.std.specs.Prelude.{◌≡◌, ◌⊎◌, ℕ, zero, suc, ◌<◌, ◌≤◌, Bool, true, false, ◌&&◌, ◌||◌, not, ◌==◌, if◌then◌else◌, List, [], ◌∷◌, ◌++◌, length, Some, None}
use Rattle.std.specs.List.{list_any}
use Rattle.mqtt_packet.specs.declared.packet.Packet.{Packet}
use Rattle.mqtt_packet.specs.declared.packet.Packet.TheVariants as p
use Rattle.agent_journal.specs.declared.entry.Cause.{Cause}
use Rattle.agent_journal.specs.declared.entry.Cause.TheVariants as c
use Rattle.agent_journal.specs.declared.entry.Entry.{Entry}
use Rattle.agent_journal.specs.declared.setup.Setup.{Setup}
use Rattle.agent_journal.specs.Readings.{Pending, opens, pending_of, accepts, accepted_of}
use Rattle.agent_journal.specs.Wires.{is_opened, sends}
use Rattle.agent_table.specs.Awaiting.{is_release_of}
use Rattle.agent_table.specs.Deliveries.{is_among, is_exactly_once, publishes, released_of, held_of}
use Rattle.agent_table.specs.Effects.{used}
use Rattle.agent_table.specs.Histories.{IsLegalPast, readings}
use Rattle.agent_table.specs.Identifiers.{last_drawn_of, behind, fresh}
use Rattle.agent_table.specs.Laws.{IsOneOf, WasReceived}
use Rattle.agent_table.specs.Sends.{sends_received, sends_ping}
use Rattle.agent_table.specs.Sessions.{is_first, loses_session, ping_of}
use Rattle.agent_table.specs.Sizes.{Sizes}

-- ---- Held identifiers (section 4.3.3)

abbrev pub is_delivery_of : ℕ → Packet → Bool
is_delivery_of n (p.Publish dup qos retain topic id payload) = is_exactly_once qos && id == n
is_delivery_of n _ = false

-- whether a QoS 2 PUBLISH of this identifier arrives
abbrev pub delivers : ℕ → Cause → Bool
delivers n (c.Arrived packet) = is_delivery_of n packet
delivers n _ = false

-- whether a PUBREL of it arrives
abbrev pub releases : ℕ → Cause → Bool
releases n (c.Arrived packet) = is_release_of n packet
releases n _ = false

-- None of these entries behind a past is a PUBREL of the identifier or the loss of the session.
abbrev pub StaysHeld : Setup → ℕ → List Entry → List Entry → Type 0
StaysHeld s n [] past = Unit {0}
StaysHeld s n (e ∷ later) past = (releases n e.cause ≡ false) × (loses_session s (accepted_of (later ++ past)) e.cause ≡ false) × StaysHeld s n later past

-- An entry answered a QoS 2 PUBLISH of this identifier with PUBREC, and behind it stands neither a PUBREL of it nor the loss of
-- the session.
abbrev pub IsHeld : Setup → ℕ → List Entry → Type 0
IsHeld s n past =
    (later before : List Entry) × (e : Entry) × (past ≡ later ++ e ∷ before) × (delivers n e.cause ≡ true) × (sends_received n e.effects ≡ true) × StaysHeld s n later (e ∷ before)

abbrev pub HeldAreUnreleased : Type 0
HeldAreUnreleased = (s : Setup) (past : List Entry) (n : ℕ) → is_among (held_of s past) n ≡ true → IsHeld s n past

abbrev pub UnreleasedAreHeld : Type 0
UnreleasedAreHeld = (s : Setup) (past : List Entry) (n : ℕ) → IsHeld s n past → is_among (held_of s past) n ≡ true

-- ---- The unanswered PINGREQ (section 3.12)

abbrev pub is_response : Packet → Bool
is_response p.PingResp = true
is_response _ = false

-- whether a connection begins, or a PINGRESP arrives
abbrev pub begins_anew : Cause → Bool
begins_anew c.Opened = true
begins_anew (c.Arrived packet) = is_response packet
begins_anew _ = false

abbrev pub NoneBeginsAnew : List Entry → Type 0
NoneBeginsAnew [] = Unit {0}
NoneBeginsAnew (e ∷ later) = (begins_anew e.cause ≡ false) × NoneBeginsAnew later

-- No PINGREQ was sent since the last opening or PINGRESP.
abbrev pub NonePinged : List Entry → Type 0
NonePinged [] = Unit {0}
NonePinged (e ∷ past) = (sends_ping e.effects ≡ false) × ((begins_anew e.cause ≡ true) ⊎ NonePinged past)

-- The first PINGREQ behind the last opening or PINGRESP was sent at this time.
abbrev pub IsFirstPing : ℕ → List Entry → Type 0
IsFirstPing at past =
    (later before : List Entry) × (e : Entry) × (past ≡ later ++ e ∷ before) × (e.at ≡ at) × (sends_ping e.effects ≡ true) × NoneBeginsAnew later
    × ((begins_anew e.cause ≡ true) ⊎ NonePinged before)

abbrev pub UnansweredIsFirst : Type 0
UnansweredIsFirst = (past : List Entry) (at : ℕ) → ping_of past ≡ Some at → IsFirstPing at past

abbrev pub FirstIsUnanswered : Type 0
FirstIsUnanswered = (past : List Entry) (at : ℕ) → IsFirstPing at past → ping_of past ≡ Some at

abbrev pub NoneIsUnanswered : Type 0
NoneIsUnanswered = (past : List Entry) → NonePinged past → ping_of past ≡ None

-- ---- Fresh identifiers (section 2.3.1)

-- the k-th behind a number, cyclically in 1 to 65,535
abbrev pub further : ℕ → ℕ → ℕ
further zero n = n
further (suc k) n = further k (behind n)

-- The first behind the last one drawn that isn't in use: each between is.
abbrev pub IsFirstUnused : ℕ → List ℕ → ℕ → Type 0
IsFirstUnused last used id = (k : ℕ) × (id ≡ further k (behind last)) × (is_among used id ≡ false) × ((j : ℕ) → j < k → is_among used (further j (behind last)) ≡ true)

abbrev pub FreshIsFirstUnused : Type 0
FreshIsFirstUnused = (last : ℕ) (used : List ℕ) → last ≤ 65535 → length used < 65535 → IsFirstUnused last used (fresh last used)

-- In a legal journal each command that a Take opens has the fresh identifier: of those that no open command and no open renewal
-- had before.
abbrev pub CommandsDrawFresh : Type 0
CommandsDrawFresh =
    (s : Setup) (l : Sizes) (past : List Entry) (e : Entry) → IsLegalPast s l (e ∷ past) → (command : Pending) → IsOneOf command (opens e.cause e.effects)
    → command.id ≡ fresh (last_drawn_of past) (used (readings s l past))

-- ---- Released publishes (section 4.3.3)

-- In a legal journal an open QoS 2 publish is released exactly where a PUBREC of its own arrived. That a released one was
-- received is a law beside this one.
abbrev pub ReceivedAreReleased : Type 0
ReceivedAreReleased =
    (s : Setup) (l : Sizes) (past : List Entry) → IsLegalPast s l past → (command : Pending) → IsOneOf command (pending_of past) → publishes is_exactly_once command.request ≡ true
    → WasReceived past command → is_among (released_of past) command.id ≡ true

-- whether the first number stands before the second one
abbrev pub precedes : ℕ → ℕ → List ℕ → Bool
precedes a b [] = false
precedes a b (n ∷ ids) = (n == a && is_among ids b) || precedes a b ids

-- An identifier is released behind each of these entries behind a past.
abbrev pub StaysReleased : ℕ → List Entry → List Entry → Type 0
StaysReleased a [] past = is_among (released_of past) a ≡ true
StaysReleased a (e ∷ later) past = (is_among (released_of (e ∷ later ++ past)) a ≡ true) × StaysReleased a later past

-- There was a moment at which the first one was released and the second one wasn't, and the first one has been since.
abbrev pub WasReleasedFirst : ℕ → ℕ → List Entry → Type 0
WasReleasedFirst a b past = (later before : List Entry) × (past ≡ later ++ before) × (is_among (released_of before) b ≡ false) × StaysReleased a later before

-- So the released stand in the order of their first PUBRECs.
abbrev pub ReleasedAreInOrder : Type 0
ReleasedAreInOrder = (past : List Entry) (a b : ℕ) → precedes a b (released_of past) ≡ true → WasReleasedFirst a b past

-- ---- The first session (section 3.2.2.2)

abbrev pub is_clean_connect : Packet → Bool
is_clean_connect (p.Connect clean keep_alive client will user password) = clean
is_clean_connect _ = false

-- whether the newest connection was opened with clean session 1
abbrev pub is_clean : List Entry → Bool
is_clean [] = false
is_clean (e ∷ past) = if is_opened e.cause then list_any is_clean_connect (sends e.effects) else is_clean past

-- whether a CONNACK of code 0 arrived on a connection with clean session 0
abbrev pub has_session : List Entry → Bool
has_session [] = false
has_session (e ∷ past) = (accepts e.cause && not (is_clean past)) || has_session past

-- In a legal journal a connection is the first one as long as none with clean session 0 was accepted.
abbrev pub FirstHasNoSession : Type 0
FirstHasNoSession = (s : Setup) (l : Sizes) (past : List Entry) → IsLegalPast s l past → is_first s (accepted_of past) ≡ not (has_session past)
