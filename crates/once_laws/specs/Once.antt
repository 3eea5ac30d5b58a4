-- Once: over what the agent and the broker of a world did, a message at quality of service 2 is passed on once and
-- told to the tasks once, and one at 1 is passed on at least once (MQTT 3.1.1, section 4.3).
use Rattle.std.specs.Prelude.{◌≡◌, ◌≢◌, ℕ, ◌≤◌, Bool, true, false, ◌&&◌, ◌==◌, List, [], ◌∷◌, ◌++◌, map, filter, length, count_by, Option, Some, None, if◌then◌else◌, slice_get}
use Rattle.std.specs.List.{list_any, AllByRecursion}
use Rattle.mqtt_packet.specs.declared.qos.Qos.{Qos}
use Rattle.mqtt_packet.specs.declared.qos.Qos.TheVariants.{ExactlyOnce}
use Rattle.mqtt_packet.specs.declared.packet.Packet.{Packet}
use Rattle.mqtt_packet.specs.declared.packet.Packet.TheVariants as p
use Rattle.agent_journal.specs.declared.request.Request.{Request}
use Rattle.agent_journal.specs.declared.entry.Cause.{Cause}
use Rattle.agent_journal.specs.declared.entry.Cause.TheVariants as c
use Rattle.agent_journal.specs.declared.entry.Entry.{Entry}
use Rattle.agent_journal.specs.declared.effect.Effect.{Effect}
use Rattle.agent_journal.specs.declared.effect.Effect.TheVariants as f
use Rattle.agent_journal.specs.declared.setup.Setup.{Setup}
use Rattle.agent_table.specs.Deliveries.{publishes, is_at_least_once, is_exactly_once}
use Rattle.agent_table.specs.Effects.{pass}
use Rattle.agent_table.specs.Histories.{readings}
use Rattle.agent_table.specs.Routes.{is_done, outcomes_in}
use Rattle.agent_table.specs.Sizes.{Sizes}
use Rattle.broker_core.specs.declared.delivery.Delivery.{Delivery}
use Rattle.broker_core.specs.declared.delivery.Waiting.{Waiting}
use Rattle.broker_core.specs.Kept.{Kept}
use Rattle.broker_core.specs.Laws.{sessions}
use Rattle.broker_core.specs.Past as broker
use Rattle.broker_core.specs.Session.{Session, is_of}
use Rattle.broker_core.specs.Subscribed.{copied_at}
use Rattle.session_world.specs.World.{World, Noted, Origin, Command, Own, entries, kept}

-- ---- From a command of the agent to the broker's messages

-- whether command q of task t was taken, and is one of these
abbrev pub takes_it : (Request → Bool) → ℕ → ℕ → Cause → Bool
takes_it is t q (c.Take task seq request) = (task == t && seq == q) && is request
takes_it is t q _ = false

abbrev pub was_taken : (Request → Bool) → ℕ → ℕ → List Entry → Bool
was_taken is t q past = list_any (λ (e : Entry). takes_it is t q e.cause) past

-- whether its outcome is Done
abbrev pub was_done : ℕ → ℕ → List Entry → Bool
was_done t q past = list_any (λ (e : Entry). list_any is_done (outcomes_in t q e.effects)) past

-- how often its message was passed on
abbrev pub is_from : ℕ → ℕ → Origin → Bool
is_from t q (Command task seq) = task == t && seq == q
is_from t q (Own number) = false

abbrev pub times : ℕ → ℕ → World → ℕ
times t q w = count_by (is_from t q) w.origins

-- in a world: whether it was taken as a publish at quality of service 1, or at 2, and whether it is done
abbrev pub took_first : ℕ → ℕ → World → Bool
took_first t q w = was_taken (publishes is_at_least_once) t q (entries w)

abbrev pub took_second : ℕ → ℕ → World → Bool
took_second t q w = was_taken (publishes is_exactly_once) t q (entries w)

abbrev pub is_over : ℕ → ℕ → World → Bool
is_over t q w = was_done t q (entries w)

-- At quality of service 1 a publish that is done was passed on at least once.
abbrev pub IsLeastOnce : World → Type 0
IsLeastOnce w = (t q : ℕ) → took_first t q w ≡ true → is_over t q w ≡ true → 1 ≤ times t q w

-- At quality of service 2 a publish is passed on at most once, and one that is done was passed on once.
pub record IsExactlyOnce (w : World) : Type 0 where
  pub most : (t q : ℕ) → took_second t q w ≡ true → times t q w ≤ 1
  pub done : (t q : ℕ) → took_second t q w ≡ true → is_over t q w ≡ true → times t q w ≡ 1

-- ---- From the broker's messages to the agent's tasks

-- what an arrived PUBLISH passed, and what a PUBLISH that arrived then would pass to each task with a route that fits
pub record Arrival : Type 0 where
  pub passed : List Effect
  pub reached : List Effect

abbrev pub is_pass : Effect → Bool
is_pass (f.Pass task message) = true
is_pass _ = false

abbrev pub is_place : ℕ → Option ℕ → Bool
is_place m None = false
is_place m (Some place) = place == m

module _ (s : Setup) (l : Sizes) where
  abbrev pub arrival_of : List Entry → Entry → Packet → List Arrival
  arrival_of past e (p.Publish dup ExactlyOnce retain topic id payload) = record { passed = filter is_pass e.effects; reached = pass s (readings s l past) ExactlyOnce topic payload } ∷ []
  arrival_of past e _ = []

  abbrev pub arrival_by : List Entry → Entry → Cause → List Arrival
  arrival_by past e (c.Arrived packet) = arrival_of past e packet
  arrival_by past e _ = []

  -- the arrivals, at quality of service 2, of the message at a place, oldest first
  abbrev pub arrivals : ℕ → List Noted → List Arrival
  arrivals m [] = []
  arrivals m (noted ∷ past) = arrivals m past ++ (if is_place m noted.place then arrival_by (map (λ (other : Noted). other.entry) past) noted.entry noted.entry.cause else [])

-- The first passes the message to each task that it reaches then, and no other passes anything.
abbrev pub PassesFirst : List Arrival → Type 0
PassesFirst [] = Unit {0}
PassesFirst (first ∷ others) = (first.passed ≡ first.reached) × AllByRecursion (λ (other : Arrival). other.passed ≡ []) others

-- Whether the message at a place was passed on while a subscription of the client's session gave it a copy at quality
-- of service 2.
abbrev pub is_second : Option Qos → Bool
is_second None = false
is_second (Some qos) = is_exactly_once qos

abbrev pub gives : List ℕ → Packet → Session → Bool
gives client (p.Publish dup qos retain topic id payload) session = is_of client session && is_second (copied_at qos topic session.subscriptions)
gives client _ session = false

abbrev pub gives_one : List ℕ → Option Packet → List Session → Bool
gives_one client None sessions = false
gives_one client (Some message) sessions = list_any (gives client message) sessions

abbrev pub was_copied : List ℕ → ℕ → List broker.Event → Bool
was_copied client m [] = false
was_copied client m (event ∷ past) =
    if m == length (broker.kept_of past).passed then gives_one client (slice_get (broker.kept_of (event ∷ past)).passed m) (sessions (broker.kept_of past))
    else was_copied client m past

-- whether the broker still has that copy, which waits or was sent and had no PUBREC
abbrev pub has_copy : ℕ → Session → Bool
has_copy m session = if list_any (λ (d : Delivery). d.place == m) session.sent then true else list_any (λ (copy : Waiting). copy.place == m) session.waiting

abbrev pub keeps_copy : ℕ → Kept → Bool
keeps_copy m k = list_any (has_copy m) (sessions k)

-- Each copy at quality of service 2 is passed to the tasks by its first arrival alone; and one that the broker has no
-- more did arrive.
pub record IsToldOnce (s : Setup) (l : Sizes) (w : World) : Type 0 where
  pub first : (m : ℕ) → PassesFirst (arrivals s l m w.past)
  pub ended : (m : ℕ) → was_copied s.client m w.told ≡ true → keeps_copy m (kept w) ≡ false → arrivals s l m w.past ≢ []

-- ---- The whole

pub record IsOnce (s : Setup) (l : Sizes) (w : World) : Type 0 where
  pub exactly : IsExactlyOnce w
  pub least : IsLeastOnce w
  pub told : IsToldOnce s l w
