-- Effects that several rows have.
use Rattle.std.specs.Prelude.{ℕ, zero, suc, Bool, true, false, ◌&&◌, not, ◌==◌, List, [], ◌∷◌, ◌++◌, map, take, drop, length, if◌then◌else◌, filter}
use Rattle.std.specs.List.{list_any, flat_map}
use Rattle.mqtt_packet.specs.declared.qos.Qos.{Qos}
use Rattle.mqtt_packet.specs.declared.packet.Packet.TheVariants as p
use Rattle.mqtt_packet.specs.declared.will.Ask.{Ask}
use Rattle.topic_filter.specs.Fitting.{fits}
use Rattle.agent_journal.specs.declared.request.Request.{Request}
use Rattle.agent_journal.specs.declared.request.Request.TheVariants as requests
use Rattle.agent_journal.specs.declared.message.Message.{Message}
use Rattle.agent_journal.specs.declared.outcome.Outcome.{Outcome}
use Rattle.agent_journal.specs.declared.outcome.Outcome.TheVariants as o
use Rattle.agent_journal.specs.declared.effect.Effect.{Effect}
use Rattle.agent_journal.specs.declared.effect.Effect.TheVariants as f
use Rattle.agent_journal.specs.declared.setup.Setup.{Setup}
use Rattle.agent_journal.specs.Readings.{Pending}
use Rattle.agent_table.specs.Deliveries.{publishes, is_among}
use Rattle.agent_table.specs.Identifiers.{fresh}
use Rattle.agent_table.specs.Readings.{Readings}

-- the completion of an open command
abbrev pub done : Outcome → Pending → Effect
done outcome command = f.Done command.task command.seq outcome

abbrev pub is_publish : Request → Bool
is_publish request = publishes (λ qos. true) request

-- Cancel all: each open command, in the order of Takes.
abbrev pub cancel_all : Readings → List Effect
cancel_all r = map (done o.Cancelled) r.pending

-- Close: each task that hasn't left, in increasing order. The tasks below n.
abbrev pub closed_below : ℕ → (ℕ → Bool) → List Effect
closed_below zero left = []
closed_below (suc n) left = closed_below n left ++ (if left n then [] else f.Closed n ∷ [])

abbrev pub close : Setup → Readings → List Effect
close s r = closed_below s.tasks r.left

-- LinkLost for each open subscribe and unsubscribe, in the order of Takes. Open publishes wait for the next connection.
abbrev pub lose_link : Readings → List Effect
lose_link r = map (done o.LinkLost) (filter (λ command. not (is_publish command.request)) r.pending)

-- SessionLost for each open publish, in the order of Takes
abbrev pub lose_session : Readings → List Effect
lose_session r = map (done o.SessionLost) (filter (λ command. is_publish command.request) r.pending)

-- ---- Sending again (MQTT 3.1.1, section 4.4)

abbrev pub again_by : ℕ → Request → List Effect
again_by id (requests.Publish qos topic payload) = f.Send (p.Publish true qos false topic id payload) ∷ []
again_by id _ = []

-- The PUBREL of each released publish, in the order of the first PUBRECs; then each other open publish with DUP 1, in the
-- order of first sending, which is that of Takes.
abbrev pub resume : Readings → List Effect
resume r = map (λ id. f.Send (p.PubRel id)) r.released ++ flat_map (λ command. again_by command.id command.request) (filter (λ command. not (is_among r.released command.id)) r.pending)

-- ---- Identifiers

-- those in use: of open commands and of open renewals
abbrev pub used : Readings → List ℕ
used r = map (λ command. command.id) r.pending ++ map (λ renewal. renewal.id) r.renewals

abbrev pub fresh_id : Readings → ℕ
fresh_id r = fresh r.last_drawn (used r)

-- ---- Renewals

-- SUBSCRIBEs that ask for these, at most eight to a packet, each with a fresh identifier in turn. There are at most k packets.
abbrev pub subscribes : ℕ → ℕ → List ℕ → List Ask → List Effect
subscribes zero last in_use asks = []
subscribes (suc k) last in_use [] = []
subscribes (suc k) last in_use (ask ∷ asks) =
    f.Send (p.Subscribe (fresh last in_use) (take 8 (ask ∷ asks))) ∷ subscribes k (fresh last in_use) (fresh last in_use ∷ in_use) (drop 8 (ask ∷ asks))

-- Renew: ask again, in the order that is given.
abbrev pub renew : Readings → List Ask → List Effect
renew r asks = subscribes (length asks) r.last_drawn (used r) asks

-- ---- Messages

-- whether a task, which hasn't left, has a route that fits this name
abbrev pub is_reached : Readings → List ℕ → ℕ → Bool
is_reached r name task = list_any (λ other. other.task == task && fits other.topics name) r.routes

-- a Pass to each of these tasks that is reached, in increasing order: of those below n
abbrev pub passed_below : ℕ → Readings → Message → List Effect
passed_below zero r message = []
passed_below (suc n) r message = passed_below n r message ++ (if is_reached r message.topic n then f.Pass n message ∷ [] else [])

abbrev pub pass : Setup → Readings → Qos → List ℕ → List ℕ → List Effect
pass s r qos topic payload = passed_below s.tasks r (record { topic = topic; qos = qos; payload = payload })
