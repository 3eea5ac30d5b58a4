-- Laws of the definitions.
use Rattle.std.specs.Prelude.{◌≡◌, ◌⊎◌, ℕ, ◌+◌, ◌<◌, ◌≤◌, length, ◌==◌, ◌&&◌, true, false, if◌then◌else◌, nat_lt, count_by, List, [], ◌∷◌, ◌++◌, Some}
use Rattle.std.specs.List.{AllByRecursion}
use Rattle.mqtt_packet.specs.declared.qos.Qos.{Qos}
use Rattle.mqtt_packet.specs.declared.qos.Qos.TheVariants.{AtMostOnce, AtLeastOnce, ExactlyOnce}
use Rattle.mqtt_packet.specs.declared.packet.Packet.TheVariants as p
use Rattle.agent_journal.specs.declared.request.Request.{Request}
use Rattle.agent_journal.specs.declared.request.Request.TheVariants as requests
use Rattle.agent_journal.specs.declared.outcome.Outcome.{Outcome}
use Rattle.agent_journal.specs.declared.outcome.Outcome.TheVariants as o
use Rattle.agent_journal.specs.declared.entry.Cause.{Cause}
use Rattle.agent_journal.specs.declared.entry.Cause.TheVariants as c
use Rattle.agent_journal.specs.declared.effect.Effect.{Effect}
use Rattle.agent_journal.specs.declared.effect.Effect.TheVariants as f
use Rattle.agent_journal.specs.declared.entry.Entry.{Entry}
use Rattle.agent_journal.specs.declared.setup.Setup.{Setup}
use Rattle.agent_journal.specs.Sound.{IsSoundEntry}
use Rattle.agent_journal.specs.Setups.{is_client}
use Rattle.agent_journal.specs.Projections.{commands_of, completions_of, NoneEarly, CompletesOnce}
use Rattle.agent_journal.specs.Readings.{Pending, pending_of, sent_id}
use Rattle.agent_table.specs.Arrivals.{is_subscribe}
use Rattle.agent_table.specs.Awaiting.{NoneIsPublishedAgain, NoReleasedIsSent}
use Rattle.agent_table.specs.Deliveries.{is_among, released_of}
use Rattle.agent_table.specs.Histories.{IsLegalPast, IsWholePast, readings, row, effects_of}
use Rattle.agent_table.specs.Effects.{used}
use Rattle.agent_table.specs.Identifiers.{fresh}
use Rattle.agent_table.specs.Readings.{Readings}
use Rattle.agent_table.specs.Routes.{asks_in}
use Rattle.agent_table.specs.Sizes.{Sizes}

-- how often command q of task t stands among the open ones
abbrev pub open_of : ℕ → ℕ → List Entry → ℕ
open_of t q past = count_by (λ (command : Pending). command.task == t && command.seq == q) (pending_of past)

-- At each moment of a legal journal each command that was taken is open, once, or completed, once, and not both. What
-- wasn't taken is neither.
abbrev pub EachIsOpenOrDone : Type 0
EachIsOpenOrDone = (s : Setup) (l : Sizes) (past : List Entry) → IsLegalPast s l past → (t q : ℕ) → completions_of t q past + open_of t q past ≡ (if nat_lt q (commands_of t past) then 1 else 0)

-- In a legal journal no command is completed before it was taken.
abbrev pub NoneIsEarly : Type 0
NoneIsEarly = (s : Setup) (l : Sizes) (past : List Entry) → IsLegalPast s l past → NoneEarly past

-- An agent that has ended has nothing open.
abbrev pub EndsWithNoneOpen : Type 0
EndsWithNoneOpen = (s : Setup) (l : Sizes) (past : List Entry) → IsLegalPast s l past → IsWholePast s l past → pending_of past ≡ []

-- A legal journal that has gone through to its end completes each command exactly once.
abbrev pub CommandsCompleteOnce : Type 0
CommandsCompleteOnce = (s : Setup) (l : Sizes) (past : List Entry) → IsLegalPast s l past → IsWholePast s l past → CompletesOnce past

-- one of the commands
abbrev pub IsOneOf : Pending → List Pending → Type 0
IsOneOf command [] = ⊥
IsOneOf command (other ∷ commands) = (command ≡ other) ⊎ IsOneOf command commands

-- What acknowledges a command (MQTT 3.1.1, section 4.3): a PUBACK at QoS 1; at QoS 2 a PUBCOMP, where its PUBREC was received
-- before; an UNSUBACK. The packet names the identifier of the command's own.
abbrev pub AcknowledgesPublish : Type 0 → Cause → ℕ → Qos → Type 0
AcknowledgesPublish received cause id AtMostOnce = ⊥
AcknowledgesPublish received cause id AtLeastOnce = cause ≡ c.Arrived (p.PubAck id)
AcknowledgesPublish received cause id ExactlyOnce = (cause ≡ c.Arrived (p.PubComp id)) × received

abbrev pub AcknowledgesWhere : Type 0 → Cause → ℕ → Request → Type 0
AcknowledgesWhere received cause id (requests.Publish qos topic payload) = AcknowledgesPublish received cause id qos
AcknowledgesWhere received cause id (requests.Unsubscribe filters) = cause ≡ c.Arrived (p.UnsubAck id)
AcknowledgesWhere received cause id _ = ⊥

-- what is done with its own Take
abbrev pub IsDoneAtOnce : Request → Type 0
IsDoneAtOnce (requests.Publish AtLeastOnce topic payload) = ⊥
IsDoneAtOnce (requests.Publish ExactlyOnce topic payload) = ⊥
IsDoneAtOnce (requests.Subscribe asks) = ⊥
IsDoneAtOnce requests.Leave = ⊥
IsDoneAtOnce _ = Unit {0}

-- Done, of one of these open commands; `Received` says of a command that its PUBREC was received.
abbrev pub EarnsDone : (Pending → Type 0) → List Pending → Cause → ℕ → ℕ → Type 0
EarnsDone Received commands cause task seq =
    ((request : Request) × (cause ≡ c.Take task seq request) × IsDoneAtOnce request)
    ⊎ ((command : Pending) × IsOneOf command commands × (command.task ≡ task) × (command.seq ≡ seq) × AcknowledgesWhere (Received command) cause command.id command.request)

-- A subscribe is granted the codes of a SUBACK of its identifier, as many as it has filters.
abbrev pub EarnsCodes : List Pending → Cause → ℕ → ℕ → List ℕ → Type 0
EarnsCodes commands cause task seq codes =
    (command : Pending) × IsOneOf command commands × (command.task ≡ task) × (command.seq ≡ seq) × (cause ≡ c.Arrived (p.SubAck command.id codes))
    × (is_subscribe command.request ≡ true) × (length codes ≡ length (asks_in command.request))

abbrev pub EarnsOutcomeWhere : (Pending → Type 0) → List Pending → Cause → ℕ → ℕ → Outcome → Type 0
EarnsOutcomeWhere Received commands cause task seq o.Done = EarnsDone Received commands cause task seq
EarnsOutcomeWhere Received commands cause task seq (o.Granted codes) = EarnsCodes commands cause task seq codes
EarnsOutcomeWhere Received commands cause task seq o.NoMemory = ⊥
EarnsOutcomeWhere Received commands cause task seq _ = Unit {0}

-- A good outcome is earned: by its own Take where the broker doesn't answer, or by the acknowledgement of its identifier.
abbrev pub EarnsWhere : (Pending → Type 0) → List Pending → Cause → Effect → Type 0
EarnsWhere Received commands cause (f.Done task seq outcome) = EarnsOutcomeWhere Received commands cause task seq outcome
EarnsWhere Received commands cause _ = Unit {0}

-- As the table reads it, a PUBREC was received where the identifier is released.
abbrev pub ReadsReceived : Readings → Pending → Type 0
ReadsReceived r command = is_among r.released command.id ≡ true

abbrev pub Acknowledges : Readings → Cause → ℕ → Request → Type 0
Acknowledges r cause id request = AcknowledgesWhere (is_among r.released id ≡ true) cause id request

abbrev pub EarnsOutcome : Readings → Cause → ℕ → ℕ → Outcome → Type 0
EarnsOutcome r cause task seq outcome = EarnsOutcomeWhere (ReadsReceived r) r.pending cause task seq outcome

abbrev pub Earns : Readings → Cause → Effect → Type 0
Earns r cause effect = EarnsWhere (ReadsReceived r) r.pending cause effect

-- In a legal journal each good outcome is earned, as the table reads it.
abbrev pub OutcomesAreEarned : Type 0
OutcomesAreEarned = (s : Setup) (l : Sizes) (past : List Entry) (at : ℕ) (cause : Cause) (effects : List Effect) → effects_of (row s l past at cause) ≡ Some effects → AllByRecursion (Earns (readings s l past) cause) effects

-- In the journal itself: a PUBREC of a command's identifier arrived behind the command's own Take, while it was open.
abbrev pub WasReceived : List Entry → Pending → Type 0
WasReceived past command =
    (behind before : List Entry) × (e : Entry) × (past ≡ behind ++ e ∷ before) × (e.cause ≡ c.Arrived (p.PubRec command.id)) × IsOneOf command (pending_of before)

-- A command that is open was taken, with this identifier on its own packet.
abbrev pub WasTaken : List Entry → Pending → Type 0
WasTaken past command =
    (behind before : List Entry) × (e : Entry) × (past ≡ behind ++ e ∷ before) × (e.cause ≡ c.Take command.task command.seq command.request)
    × (sent_id e.effects ≡ Some command.id)

abbrev pub OpenWereTaken : Type 0
OpenWereTaken = (past : List Entry) (command : Pending) → IsOneOf command (pending_of past) → WasTaken past command

-- each good outcome of an entry is earned by what came before it
abbrev pub EarnsAll : List Entry → Entry → Type 0
EarnsAll past e = AllByRecursion (EarnsWhere (WasReceived past) (pending_of past) e.cause) e.effects

-- each good outcome of a journal is earned
abbrev pub AreEarned : List Entry → Type 0
AreEarned [] = Unit {0}
AreEarned (e ∷ past) = EarnsAll past e × AreEarned past

-- A fresh identifier is one of 1 to 65,535, and it isn't in use where not all of them are.
abbrev pub FreshIsFresh : Type 0
FreshIsFresh = (last : ℕ) (used : List ℕ) → last ≤ 65535 → length used < 65535 → (0 < fresh last used) × (fresh last used ≤ 65535) × (is_among used (fresh last used) ≡ false)

-- Each packet of a legal journal, sent or arrived, has a spelling, where the client identifier is one.
abbrev pub PacketsAreSound : Type 0
PacketsAreSound = (s : Setup) (l : Sizes) (past : List Entry) → is_client s.client ≡ true → IsLegalPast s l past → AllByRecursion IsSoundEntry past

-- In a legal journal no more identifiers are in use at once than there is room for commands and routes.
abbrev pub IdentifiersAreFew : Type 0
IdentifiersAreFew = (s : Setup) (l : Sizes) (past : List Entry) → IsLegalPast s l past → length (used (readings s l past)) ≤ l.acks + l.routes

-- So with sizes like these some identifier is always free; there are 65,535.
abbrev pub HasIdentifiers : Sizes → Type 0
HasIdentifiers l = l.acks + l.routes < 65535

-- In a legal journal each QoS 2 publish that is open and released is one whose own PUBREC arrived.
abbrev pub ReleasedWereReceived : Type 0
ReleasedWereReceived =
    (s : Setup) (l : Sizes) (past : List Entry) → HasIdentifiers l → IsLegalPast s l past → (command : Pending) → IsOneOf command (pending_of past)
    → is_among (released_of past) command.id ≡ true → WasReceived past command

-- In a legal journal each good outcome is earned, by an acknowledgement of the very command.
abbrev pub GoodAreEarned : Type 0
GoodAreEarned = (s : Setup) (l : Sizes) (past : List Entry) → HasIdentifiers l → IsLegalPast s l past → AreEarned past

-- No entry of a legal journal sends a PUBLISH of an identifier that is released then.
abbrev pub NoReleasedIsPublished : Type 0
NoReleasedIsPublished = (s : Setup) (l : Sizes) (past : List Entry) → HasIdentifiers l → IsLegalPast s l past → NoReleasedIsSent past

-- In a legal journal no PUBLISH is sent while the PUBCOMP of its identifier is awaited (MQTT 3.1.1, section 4.3.3).
abbrev pub AwaitedStayUnpublished : Type 0
AwaitedStayUnpublished = (s : Setup) (l : Sizes) (past : List Entry) → HasIdentifiers l → IsLegalPast s l past → NoneIsPublishedAgain past
