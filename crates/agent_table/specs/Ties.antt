-- How a journal is tied to the link and the clock of its run.
use Rattle.std.specs.Prelude.{◌≡◌, ◌⊎◌, ℕ, ◌+◌, ◌*◌, Bool, true, false, List, [], ◌∷◌, ◌++◌, if◌then◌else◌}
use Rattle.std.specs.List.{list_any, flat_map}
use Rattle.mqtt_packet.specs.declared.packet.Packet.{Packet}
use Rattle.mqtt_packet.specs.declared.splitter.Next.TheVariants as answers
use Rattle.mqtt_packet.specs.Splitting.{Tells}
use Rattle.mqtt_packet.specs.Stream.{SpellAll}
use Rattle.agent_link.specs.Counts.{LinkCounts, RoseBy}
use Rattle.agent_link.specs.Wires.{onto_last}
use Rattle.agent_journal.specs.declared.entry.Cause.{Cause}
use Rattle.agent_journal.specs.declared.entry.Cause.TheVariants as c
use Rattle.agent_journal.specs.declared.entry.Why.{Why}
use Rattle.agent_journal.specs.declared.entry.Why.TheVariants as w
use Rattle.agent_journal.specs.declared.entry.Entry.{Entry}
use Rattle.agent_journal.specs.declared.setup.Phase.{Phase}
use Rattle.agent_journal.specs.declared.setup.Phase.TheVariants.{Down, Opening, Up, Spilled, Off}
use Rattle.agent_journal.specs.declared.setup.Setup.{Setup}
use Rattle.agent_journal.specs.Wires.{is_opened, connections, arrives, Wired, AreReadings}
use Rattle.agent_table.specs.Histories.{phase_of}
use Rattle.agent_table.specs.Sizes.{Sizes}

-- An entry, and the phase behind it.
pub record Moment : Type 0 where
  pub entry : Entry
  pub phase : Phase

abbrev pub moment : Setup → Sizes → Entry → List Entry → Moment
moment s l e past = record { entry = e; phase = phase_of s l (e ∷ past) }

-- The moments of each connection, which begins with its Opened. Connections are counted from 0, and their moments stand in
-- order of time.
abbrev pub stages : Setup → Sizes → List Entry → List (List Moment)
stages s l [] = []
stages s l (e ∷ past) = if is_opened e.cause then stages s l past ++ (moment s l e past ∷ []) ∷ [] else onto_last (stages s l past) (moment s l e past ∷ [])

-- ---- What a connection gave

-- whether packets are handed in
abbrev pub listens : Phase → Bool
listens Down = false
listens Opening = true
listens Up = true
listens Spilled = false
listens Off = false

-- the packets that arrived
abbrev pub arrived : List Moment → List Packet
arrived moments = flat_map (λ m. arrives m.entry.cause) moments

abbrev pub is_bad_bytes : Why → Bool
is_bad_bytes (w.Bad at) = true
is_bad_bytes (w.TooLong len) = true
is_bad_bytes _ = false

-- whether an entry says that bytes are no packet, or too long a one
abbrev pub is_verdict : Cause → Bool
is_verdict (c.Broke why) = is_bad_bytes why
is_verdict _ = false

abbrev pub has_verdict : List Moment → Bool
has_verdict moments = list_any (λ m. is_verdict m.entry.cause) moments

-- what it says of the bytes that came, which are these packets and a rest
abbrev pub Rejects : List ℕ → List Packet → Why → Type 0
Rejects given packets (w.Bad at) = Tells given packets (answers.Bad at)
Rejects given packets (w.TooLong len) = (at : ℕ) × Tells given packets (answers.TooLong at len)
Rejects given packets _ = ⊥

-- All packets of the bytes arrived, in their order, and what is left of the bytes may be the front of another.
abbrev pub IsHeardOut : List Moment → List ℕ → Type 0
IsHeardOut moments given = (has_verdict moments ≡ false) × Tells given (arrived moments) answers.More

-- All packets of the bytes arrived, in their order, and behind them one entry says why what is left is no packet.
abbrev pub IsRejected : List Moment → List ℕ → Type 0
IsRejected moments given =
    (before : List Moment) × (last : Moment) × (after : List Moment) × (why : Why) × (moments ≡ before ++ last ∷ after) × (last.entry.cause ≡ c.Broke why)
    × Rejects given (arrived before) why × (has_verdict before ≡ false) × (has_verdict after ≡ false) × (arrived after ≡ [])

-- The agent listens no more behind this moment, or behind a fault directly behind it.
abbrev pub HasStopped : Moment → List Moment → Type 0
HasStopped m [] = listens m.phase ≡ false
HasStopped m (next ∷ after) = (listens m.phase ≡ false) ⊎ ((next.entry.cause ≡ c.Broke w.Fault) × (listens next.phase ≡ false))

abbrev pub BeginsWith : List ℕ → List Packet → Type 0
BeginsWith given packets = (front rest : List ℕ) × (given ≡ front ++ rest) × SpellAll packets front

-- The first packets of the bytes arrived, in their order, up to one with which the agent stopped listening.
abbrev pub IsLeft : List Moment → List ℕ → Type 0
IsLeft moments given =
    (before : List Moment) × (last : Moment) × (after : List Moment) × (packet : Packet) × (moments ≡ before ++ last ∷ after) × (last.entry.cause ≡ c.Arrived packet)
    × HasStopped last after × (arrived after ≡ []) × (has_verdict moments ≡ false) × BeginsWith given (arrived moments)

-- What a connection gave is the spelling of the packets that arrived, and a rest.
abbrev pub Heard : List Moment → List ℕ → Type 0
Heard moments given = IsHeardOut moments given ⊎ (IsRejected moments given ⊎ IsLeft moments given)

-- ---- What the link counted

-- whether something broke because a call of the link failed
abbrev pub is_fault : Why → Bool
is_fault w.Fault = true
is_fault _ = false

-- because the broker ended the connection
abbrev pub is_end : Why → Bool
is_end w.End = true
is_end _ = false

-- because nothing was heard for long
abbrev pub is_idle : Why → Bool
is_idle w.Idle = true
is_idle _ = false

-- whether a cause is a break for such a reason
abbrev pub is_break_for : (Why → Bool) → Cause → Bool
is_break_for test (c.Broke why) = test why
is_break_for test _ = false

-- how many entries are a break for such a reason
abbrev pub breaks_for : (Why → Bool) → List Entry → ℕ
breaks_for test [] = 0
breaks_for test (e ∷ past) = if is_break_for test e.cause then breaks_for test past + 1 else breaks_for test past

-- A link's counts rose by what the journal says, at least: by a fault for each break that a fault caused, by an end for each that
-- an end caused, and by ten thousand receives that heard nothing for each that silence caused.
pub record IsCounted (past : List Entry) (before now : LinkCounts) : Type 0 where
  pub faults : RoseBy (breaks_for is_fault past) before.faults now.faults
  pub ends : RoseBy (breaks_for is_end past) before.ends now.ends
  pub nothings : RoseBy (10000 * breaks_for is_idle past) before.nothings now.nothings

-- ---- All connections

-- as many connections as byte lists, and each is tied to its own
abbrev pub EachTied : {X : Type 0} → (List X → List ℕ → Type 0) → List (List X) → List (List ℕ) → Type 0
EachTied Tie [] [] = Unit {0}
EachTied Tie [] (bytes ∷ wires) = ⊥
EachTied Tie (entries ∷ others) [] = ⊥
EachTied Tie (entries ∷ others) (bytes ∷ wires) = Tie entries bytes × EachTied Tie others wires

-- The journal whose past this is, over connections that took and gave these bytes, a link whose counts rose so and a clock
-- that was read so.
pub record IsTied (s : Setup) (l : Sizes) (past : List Entry) (taken given : List (List ℕ)) (readings : List ℕ) (before now : LinkCounts) : Type 0 where
  pub wired : EachTied Wired (connections past) taken
  pub heard : EachTied Heard (stages s l past) given
  pub times : AreReadings readings past
  pub counts : IsCounted past before now
