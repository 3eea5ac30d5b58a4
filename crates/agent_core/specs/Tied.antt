-- How the stages of publishes and the open commands hang together.
use Rattle.std.specs.Prelude.{◌≡◌, ◌⊎◌, ℕ, ◌<◌, ◌≤◌, Bool, true, false, not, ◌==◌, List, [], ◌∷◌, length, map, Option, Some, None, filter}
use Rattle.std.specs.List.{list_any, AllByRecursion, IsDistinct}
use Rattle.pending_acks.specs.Commands.{has_id}
use Rattle.mqtt_packet.specs.declared.packet.Packet.{Packet}
use Rattle.mqtt_packet.specs.declared.packet.Packet.TheVariants as p
use Rattle.mqtt_packet.specs.declared.qos.Qos.{Qos}
use Rattle.mqtt_packet.specs.declared.qos.Qos.TheVariants.{AtMostOnce, AtLeastOnce, ExactlyOnce}
use Rattle.agent_journal.specs.declared.request.Request.{Request}
use Rattle.agent_journal.specs.declared.request.Request.TheVariants as requests
use Rattle.agent_journal.specs.declared.entry.Cause.{Cause}
use Rattle.agent_journal.specs.declared.entry.Cause.TheVariants as c
use Rattle.agent_journal.specs.declared.effect.Effect.{Effect}
use Rattle.agent_table.specs.Sends.{sends_received}
use Rattle.agent_journal.specs.Readings.{Pending}
use Rattle.subscriptions.specs.Routing.{Routing, has_room}
use Rattle.subscriptions.specs.Rooms.{are_filters}
use Rattle.agent_table.specs.Deliveries.{publishes, is_open_publish, is_among, is_at_least_once, is_exactly_once}
use Rattle.qos_state.specs.Deliveries.{Deliveries, started}

-- the identifiers of open publishes at such a quality of service, in the order of Takes
abbrev pub ids_at : (Qos → Bool) → List Pending → List ℕ
ids_at at commands = map (λ command. command.id) (filter (λ command. publishes at command.request) commands)

abbrev pub is_same : ℕ → ℕ → Bool
is_same n m = m == n

-- Each open publish has its stage, and nothing else has one.
pub record IsTied (commands : List Pending) (d : Deliveries) : Type 0 where
  pub at_least_once : d.at_least_once ≡ ids_at is_at_least_once commands
  pub exactly_once : d.exactly_once ≡ filter (λ n. not (is_among d.released n)) (ids_at is_exactly_once commands)
  pub released : AllByRecursion (λ n. is_open_publish is_exactly_once commands n ≡ true) d.released
  pub once : IsDistinct is_same d.released

-- Identifiers in use are few.
pub record IsBounded (acks routes : ℕ) (routing : Routing) : Type 0 where
  pub acks_few : acks ≤ 1024
  pub routes_few : routes ≤ 1024
  pub renewals_few : length routing.renewals ≤ routes

-- the stages with the request of an identifier that is sent
abbrev pub begun_by : ℕ → Request → Deliveries → Deliveries
begun_by id (requests.Publish qos topic payload) d = started id qos d
begun_by id _ d = d

-- ---- What is to be held has room

abbrev pub CanHoldAt : ℕ → List Effect → ℕ → List ℕ → Type 0
CanHoldAt n effects room held = sends_received n effects ≡ true → (is_among held n ≡ true) ⊎ (length held < room)

abbrev pub CanHoldAs : Qos → ℕ → List Effect → ℕ → List ℕ → Type 0
CanHoldAs AtMostOnce n effects room held = Unit {0}
CanHoldAs AtLeastOnce n effects room held = Unit {0}
CanHoldAs ExactlyOnce n effects room held = CanHoldAt n effects room held

abbrev pub CanHoldBy : Packet → List Effect → ℕ → List ℕ → Type 0
CanHoldBy (p.Publish dup qos retain topic id payload) effects room held = CanHoldAs qos id effects room held
CanHoldBy _ effects room held = Unit {0}

-- Where the identifier of an arrived QoS 2 PUBLISH is answered by PUBREC, it is held, or there is room to hold it.
abbrev pub CanHold : Cause → List Effect → ℕ → List ℕ → Type 0
CanHold (c.Arrived packet) effects room held = CanHoldBy packet effects room held
CanHold _ effects room held = Unit {0}

-- There is room for the command that is opened, and its identifier is fresh.
abbrev pub CanOpen : ℕ → List Pending → Option Pending → Type 0
CanOpen room commands None = Unit {0}
CanOpen room commands (Some command) = (length commands < room) × (list_any (has_id command.id) commands ≡ false)

-- A subscribe that is opened has room for its routes, and asks for topic filters.
abbrev pub CanAskFor : ℕ → Routing → ℕ → Request → List Pending → Type 0
CanAskFor room k task (requests.Publish qos topic payload) opened = Unit {0}
CanAskFor room k task (requests.Subscribe asks) [] = Unit {0}
CanAskFor room k task (requests.Subscribe asks) (command ∷ commands) = (has_room room k task asks ≡ true) × (are_filters asks ≡ true)
CanAskFor room k task (requests.Unsubscribe filters) opened = Unit {0}
CanAskFor room k task requests.Ping opened = Unit {0}
CanAskFor room k task requests.Disconnect opened = Unit {0}
CanAskFor room k task requests.Terminate opened = Unit {0}
CanAskFor room k task requests.Leave opened = Unit {0}

abbrev pub CanAsk : ℕ → Routing → Cause → List Pending → Type 0
CanAsk room k (c.Take task seq request) opened = CanAskFor room k task request opened
CanAsk room k _ opened = Unit {0}

-- A Take is of a task that there is.
abbrev pub InRange : Cause → ℕ → ℕ → Type 0
InRange (c.Take task seq request) takes left = (task < takes) × (task < left)
InRange _ takes left = Unit {0}
