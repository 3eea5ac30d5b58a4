-- Routings that have the same granted routes in another order stay so behind each entry.
use Rattle.std.proofs.Common.{◌≡◌, ℕ, Bool, true, false, cond, List, [], ◌∷◌, ◌++◌, length, map, Option, Some, None, refl, sym, ◌∙◌, subst}
use Rattle.std.specs.Prelude.{◌==◌, not, find}
use Rattle.std.specs.List.{list_any}
use Rattle.mqtt_packet.specs.declared.packet.Packet.{Packet}
use Rattle.mqtt_packet.specs.declared.packet.Packet.TheVariants as p
use Rattle.mqtt_packet.specs.declared.qos.Qos.TheVariants.{AtMostOnce}
use Rattle.mqtt_packet.specs.declared.will.Ask.{Ask}
use Rattle.agent_journal.specs.declared.request.Request.{Request}
use Rattle.agent_journal.specs.declared.request.Request.TheVariants as requests
use Rattle.agent_journal.specs.declared.outcome.Outcome.{Outcome}
use Rattle.agent_journal.specs.declared.outcome.Outcome.TheVariants as o
use Rattle.agent_journal.specs.declared.entry.Cause.{Cause}
use Rattle.agent_journal.specs.declared.entry.Cause.TheVariants as c
use Rattle.agent_journal.specs.declared.effect.Effect.{Effect}
use Rattle.agent_journal.specs.declared.effect.Effect.TheVariants as f
use Rattle.agent_journal.specs.Readings.{Pending, opens}
use Rattle.agent_table.specs.Routes.{Renewal, has_route, route, is_route, granted_in, coded, is_done, outcomes_in, or_earlier, last_asked}
use Rattle.agent_table.specs.Sessions.{loses_session}
use Rattle.pending_acks.specs.Commands.{is_command, others}
use Rattle.qos_state.specs.Deliveries.{without}
use Rattle.subscriptions.specs.Routing as routing
use Rattle.subscriptions.specs.Routing.{Routing, Granted, Asked, route_of}
use Rattle.agent_core.specs.After.{asked_by, routing_asked, taken_by, answered_by, routing_caused, routing_lost, begun, closed}
use Rattle.agent_core.specs.Completions.{books, is_count, subscribe_ended, routing_ended, ended_with, all_ended}
use Rattle.agent_core.specs.Kept.{Kept}
use Rattle.agent_core.specs.Reordered.{IsReordered}
use Rattle.agent_core.proofs.Reorders.{flat_reordered, map_reordered, filter_reordered, append_reordered, any_reordered}

pub record Alike (k other : Routing) : Type 0 where
  pub asked : k.asked ≡ other.asked
  pub renewals : k.renewals ≡ other.renewals
  pub granted : IsReordered other.granted k.granted

pub alike_is : (k other : Routing) → Alike k other → other ≡ record k { granted = other.granted }
alike_is k other alike = λ i. record { granted = other.granted; asked = sym alike.asked i; renewals = sym alike.renewals i }

-- what a step makes of routes in another order
abbrev Steps : (Routing → Routing) → Type 0
Steps step = (k : Routing) (gs : List Granted) → IsReordered gs k.granted → Alike (step k) (step (record k { granted = gs }))

onward : (step : Routing → Routing) → Steps step → (k other : Routing) → Alike k other → Alike (step k) (step other)
onward step steps k other alike = subst (λ (x : Routing). Alike (step k) (step x)) (sym (alike_is k other alike)) (steps k other.granted alike.granted)

stays : Steps (λ k. k)
stays k gs same = record { asked = refl; renewals = refl; granted = same }

-- ---- Granted routes

with_one : (task : ℕ) (asks : List Ask) (topics : List ℕ) (xs ys : List Granted) → IsReordered xs ys → IsReordered (routing.with_granted task asks xs topics) (routing.with_granted task asks ys topics)
with_one task asks topics xs ys same = go (has_route (map route_of xs) (route task topics)) refl
  where
    found : has_route (map route_of xs) (route task topics) ≡ has_route (map route_of ys) (route task topics)
    found = any_reordered (λ other. is_route other (route task topics)) (map route_of xs) (map route_of ys) (map_reordered route_of xs ys same)

    go : (b : Bool) → has_route (map route_of xs) (route task topics) ≡ b → IsReordered (routing.with_granted task asks xs topics) (routing.with_granted task asks ys topics)
    go true e = rw (e, sym found ∙ e) same
    go false e = rw (e, sym found ∙ e) (append_reordered (record { task = task; topics = topics; qos = or_earlier (last_asked asks topics) AtMostOnce; sure = true } ∷ []) xs ys same)

with_all : (task : ℕ) (asks : List Ask) (filters : List (List ℕ)) (xs ys : List Granted) → IsReordered xs ys → IsReordered (routing.with_all_granted task asks xs filters) (routing.with_all_granted task asks ys filters)
with_all task asks [] xs ys same = same
with_all task asks (topics ∷ filters) xs ys same = with_all task asks filters (routing.with_granted task asks xs topics) (routing.with_granted task asks ys topics) (with_one task asks topics xs ys same)

granted_more : (a : Asked) (filters : List (List ℕ)) (xs ys : List Granted) → IsReordered xs ys → IsReordered (routing.granted_by a filters xs) (routing.granted_by a filters ys)
granted_more a filters xs ys same = go a.left
  where
    go : (b : Bool) → IsReordered (cond b (map (routing.renewed_as filters a.asks) xs) (routing.with_all_granted a.task a.asks (map (routing.renewed_as filters a.asks) xs) filters))
        (cond b (map (routing.renewed_as filters a.asks) ys) (routing.with_all_granted a.task a.asks (map (routing.renewed_as filters a.asks) ys) filters))
    go true = map_reordered (routing.renewed_as filters a.asks) xs ys same
    go false = with_all a.task a.asks filters (map (routing.renewed_as filters a.asks) xs) (map (routing.renewed_as filters a.asks) ys) (map_reordered (routing.renewed_as filters a.asks) xs ys same)

granted_steps : (id : ℕ) (codes : List ℕ) → Steps (routing.granted id codes)
granted_steps id codes k gs same = go (find (routing.has_id id) k.asked)
  where
    go : (found : Option Asked) → Alike (routing.granted_to id found codes k) (routing.granted_to id found codes (record k { granted = gs }))
    go None = stays k gs same
    go (Some a) = record { asked = refl; renewals = refl; granted = granted_more a (granted_in (coded a.asks codes)) gs k.granted same }

lost_steps : (id : ℕ) → Steps (routing.lost id)
lost_steps id k gs same = record { asked = refl; renewals = refl; granted = same }

dropped_steps : (task : ℕ) (filters : List (List ℕ)) → Steps (routing.filters_dropped task filters)
dropped_steps task filters k gs same = record { asked = refl; renewals = refl; granted = filter_reordered (λ g. not (routing.is_any_of task filters g)) gs k.granted same }

left_steps : (task : ℕ) → Steps (routing.task_dropped task)
left_steps task k gs same = record { asked = refl; renewals = refl; granted = filter_reordered (λ (g : Granted). not (g.task == task)) gs k.granted same }

renewed_steps : (id : ℕ) (codes : List ℕ) → Steps (routing.renewal_granted id codes)
renewed_steps id codes k gs same = go (find (routing.is_renewal id) k.renewals)
  where
    go : (found : Option Renewal) → Alike (routing.renewal_granted_to id found codes k) (routing.renewal_granted_to id found codes (record k { granted = gs }))
    go None = stays k gs same
    go (Some renewal) = record { asked = refl; renewals = refl; granted = flat_reordered (routing.renewal_coded renewal.asks codes) gs k.granted same }

-- ---- What an entry asks for

asks_steps : (task : ℕ) (request : Request) (commands : List Pending) → Steps (asked_by task request commands)
asks_steps task (requests.Publish qos topic payload) commands k gs same = stays k gs same
asks_steps task (requests.Subscribe asks) [] k gs same = stays k gs same
asks_steps task (requests.Subscribe asks) (command ∷ commands) k gs same = record { asked = refl; renewals = refl; granted = same }
asks_steps task (requests.Unsubscribe filters) commands k gs same = stays k gs same
asks_steps task requests.Ping commands k gs same = stays k gs same
asks_steps task requests.Disconnect commands k gs same = stays k gs same
asks_steps task requests.Terminate commands k gs same = stays k gs same
asks_steps task requests.Leave commands k gs same = stays k gs same

asked_steps : (cause : Cause) (effects : List Effect) (commands : List Pending) → Steps (routing_asked cause effects commands)
asked_steps c.Opened effects commands k gs same = stays k gs same
asked_steps (c.Take task seq request) effects commands k gs same = asks_steps task request commands k gs same
asked_steps (c.Arrived packet) effects commands k gs same = by packet
  where
    by : (packet : Packet) → Alike (routing_asked (c.Arrived packet) effects commands k) (routing_asked (c.Arrived packet) effects commands (record k { granted = gs }))
    by (p.Connect clean keep_alive client will user password) = stays k gs same
    by (p.ConnAck present code) = record { asked = refl; renewals = refl; granted = same }
    by (p.Publish dup qos retain topic id payload) = stays k gs same
    by (p.PubAck id) = stays k gs same
    by (p.PubRec id) = stays k gs same
    by (p.PubRel id) = stays k gs same
    by (p.PubComp id) = stays k gs same
    by (p.Subscribe id asks) = stays k gs same
    by (p.SubAck id codes) = stays k gs same
    by (p.Unsubscribe id filters) = stays k gs same
    by (p.UnsubAck id) = stays k gs same
    by p.PingReq = stays k gs same
    by p.PingResp = stays k gs same
    by p.Disconnect = stays k gs same
asked_steps (c.Broke why) effects commands k gs same = stays k gs same
asked_steps c.Tick effects commands k gs same = stays k gs same
asked_steps c.GaveUp effects commands k gs same = stays k gs same
asked_steps c.Finish effects commands k gs same = stays k gs same

-- ---- What its cause does

steps_if : (b : Bool) (step : Routing → Routing) → Steps step → Steps (λ k. cond b (step k) k)
steps_if true step steps k gs same = steps k gs same
steps_if false step steps k gs same = stays k gs same

taken_steps : (task seq : ℕ) (request : Request) (effects : List Effect) → Steps (taken_by task seq request effects)
taken_steps task seq (requests.Publish qos topic payload) effects k gs same = stays k gs same
taken_steps task seq (requests.Subscribe asks) effects k gs same = stays k gs same
taken_steps task seq (requests.Unsubscribe filters) effects k gs same = steps_if (list_any is_done (outcomes_in task seq effects)) (routing.filters_dropped task filters) (dropped_steps task filters) k gs same
taken_steps task seq requests.Ping effects k gs same = stays k gs same
taken_steps task seq requests.Disconnect effects k gs same = stays k gs same
taken_steps task seq requests.Terminate effects k gs same = stays k gs same
taken_steps task seq requests.Leave effects k gs same = left_steps task k gs same

caused_steps : (cause : Cause) (effects : List Effect) → Steps (routing_caused cause effects)
caused_steps c.Opened effects k gs same = stays k gs same
caused_steps (c.Take task seq request) effects k gs same = taken_steps task seq request effects k gs same
caused_steps (c.Arrived packet) effects k gs same = by packet
  where
    by : (packet : Packet) → Alike (answered_by packet k) (answered_by packet (record k { granted = gs }))
    by (p.Connect clean keep_alive client will user password) = stays k gs same
    by (p.ConnAck present code) = stays k gs same
    by (p.Publish dup qos retain topic id payload) = stays k gs same
    by (p.PubAck id) = stays k gs same
    by (p.PubRec id) = stays k gs same
    by (p.PubRel id) = stays k gs same
    by (p.PubComp id) = stays k gs same
    by (p.Subscribe id asks) = stays k gs same
    by (p.SubAck id codes) = steps_if (is_count (routing.renewal_len id k) (length codes)) (routing.renewal_granted id codes) (renewed_steps id codes) k gs same
    by (p.Unsubscribe id filters) = stays k gs same
    by (p.UnsubAck id) = stays k gs same
    by p.PingReq = stays k gs same
    by p.PingResp = stays k gs same
    by p.Disconnect = stays k gs same
caused_steps (c.Broke why) effects k gs same = record { asked = refl; renewals = refl; granted = same }
caused_steps c.Tick effects k gs same = stays k gs same
caused_steps c.GaveUp effects k gs same = stays k gs same
caused_steps c.Finish effects k gs same = stays k gs same

lost_session_steps : (lost : Bool) → Steps (routing_lost lost)
lost_session_steps true k gs same = record { asked = refl; renewals = refl; granted = map_reordered routing.unsure_now gs k.granted same }
lost_session_steps false k gs same = stays k gs same

-- ---- What its completions do

subscribe_steps : (id : ℕ) (outcome : Outcome) → Steps (subscribe_ended id outcome)
subscribe_steps id o.Done k gs same = lost_steps id k gs same
subscribe_steps id (o.Granted codes) k gs same = go (is_count (routing.asked_len id k) (length codes))
  where
    go : (b : Bool) → Alike (cond b (routing.granted id codes k) (routing.lost id k)) (cond b (routing.granted id codes (record k { granted = gs })) (routing.lost id (record k { granted = gs })))
    go true = granted_steps id codes k gs same
    go false = lost_steps id k gs same
subscribe_steps id o.NoRoom k gs same = lost_steps id k gs same
subscribe_steps id o.NoRoute k gs same = lost_steps id k gs same
subscribe_steps id o.NotConnected k gs same = lost_steps id k gs same
subscribe_steps id o.LinkLost k gs same = lost_steps id k gs same
subscribe_steps id o.SessionLost k gs same = lost_steps id k gs same
subscribe_steps id o.Cancelled k gs same = lost_steps id k gs same
subscribe_steps id o.NoMemory k gs same = lost_steps id k gs same

ended_steps : (command : Pending) (request : Request) (outcome : Outcome) → Steps (routing_ended command request outcome)
ended_steps command (requests.Publish qos topic payload) outcome k gs same = stays k gs same
ended_steps command (requests.Subscribe asks) outcome k gs same = subscribe_steps command.id outcome k gs same
ended_steps command (requests.Unsubscribe filters) outcome k gs same = steps_if (is_done outcome) (routing.filters_dropped command.task filters) (dropped_steps command.task filters) k gs same
ended_steps command requests.Ping outcome k gs same = stays k gs same
ended_steps command requests.Disconnect outcome k gs same = stays k gs same
ended_steps command requests.Terminate outcome k gs same = stays k gs same
ended_steps command requests.Leave outcome k gs same = stays k gs same

all_alike : (effects : List Effect) (commands : List Pending) (released : List ℕ) (k other : Routing) → Alike k other → Alike (all_ended (books commands released k) effects).routing (all_ended (books commands released other) effects).routing
all_alike [] commands released k other alike = alike
all_alike (f.Send packet ∷ effects) commands released k other alike = all_alike effects commands released k other alike
all_alike (f.Pass task message ∷ effects) commands released k other alike = all_alike effects commands released k other alike
all_alike (f.Closed task ∷ effects) commands released k other alike = all_alike effects commands released k other alike
all_alike (f.Done task seq outcome ∷ effects) commands released k other alike = go (find (is_command task seq) commands) (λ cs ns x y h. all_alike effects cs ns x y h)
  where
    go : (found : Option Pending) → ((cs : List Pending) (ns : List ℕ) (x y : Routing) → Alike x y → Alike (all_ended (books cs ns x) effects).routing (all_ended (books cs ns y) effects).routing)
        → Alike (all_ended (ended_with outcome (books commands released k) found) effects).routing (all_ended (ended_with outcome (books commands released other) found) effects).routing
    go None rest = rest commands released k other alike
    go (Some command) rest =
        rest (others command.id commands) (without command.id released) (routing_ended command command.request outcome k) (routing_ended command command.request outcome other)
        (onward (routing_ended command command.request outcome) (ended_steps command command.request outcome) k other alike)

-- ---- Behind an entry

pub closed_alike : (kept : Kept) (gs : List Granted) (cause : Cause) (effects : List Effect) → IsReordered gs kept.routing.granted
    → Alike (closed kept cause effects).routing (closed (record kept { routing = record kept.routing { granted = gs } }) cause effects).routing
closed_alike kept gs cause effects same =
    let k = kept.routing in
    let other : Routing = record k { granted = gs } in
    let opened = opens cause effects in
    let lost = loses_session kept.setup kept.accepted cause in
    let asked = asked_steps cause effects opened k gs same in
    let caused = onward (routing_caused cause effects) (caused_steps cause effects) (routing_asked cause effects opened k) (routing_asked cause effects opened other) asked in
    let behind = onward (routing_lost lost) (lost_session_steps lost) (routing_caused cause effects (routing_asked cause effects opened k)) (routing_caused cause effects (routing_asked cause effects opened other)) caused in
    all_alike effects (kept.pending ++ opened) (begun kept cause effects).released
    (routing_lost lost (routing_caused cause effects (routing_asked cause effects opened k))) (routing_lost lost (routing_caused cause effects (routing_asked cause effects opened other))) behind
