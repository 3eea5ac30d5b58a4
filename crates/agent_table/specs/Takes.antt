-- The table's rows for requests that are taken.
use Rattle.std.specs.Prelude.{ℕ, Bool, false, ◌&&◌, not, ◌==◌, nat_lt, nat_le, List, [], ◌∷◌, ◌++◌, map, length, Option, None, if◌then◌else◌, filter}
use Rattle.std.specs.List.{list_any}
use Rattle.std.specs.Str.{bytes_eq}
use Rattle.mqtt_packet.specs.declared.qos.Qos.{Qos}
use Rattle.mqtt_packet.specs.declared.qos.Qos.TheVariants.{AtMostOnce, AtLeastOnce, ExactlyOnce}
use Rattle.mqtt_packet.specs.declared.packet.Packet.TheVariants as p
use Rattle.mqtt_packet.specs.declared.will.Ask.{Ask}
use Rattle.agent_journal.specs.declared.request.Request.{Request}
use Rattle.agent_journal.specs.declared.request.Request.TheVariants as requests
use Rattle.agent_journal.specs.declared.outcome.Outcome.{Outcome}
use Rattle.agent_journal.specs.declared.outcome.Outcome.TheVariants as o
use Rattle.agent_journal.specs.declared.effect.Effect.{Effect}
use Rattle.agent_journal.specs.declared.effect.Effect.TheVariants as f
use Rattle.agent_journal.specs.declared.setup.Setup.{Setup}
use Rattle.agent_journal.specs.declared.setup.Phase.{Phase}
use Rattle.agent_journal.specs.declared.setup.Phase.TheVariants.{Down, Opening, Up, Spilled, Off}
use Rattle.agent_table.specs.Effects.{cancel_all, close, fresh_id}
use Rattle.agent_table.specs.Readings.{Readings}
use Rattle.agent_journal.specs.Requests.{is_valid}
use Rattle.agent_table.specs.Routes.{Route, route, with_routes}
use Rattle.agent_table.specs.Rows.{Row, to, when}
use Rattle.agent_table.specs.Sizes.{Sizes}

-- completed at once, with nothing sent
abbrev pub at_once : ℕ → ℕ → Outcome → List Effect
at_once task seq outcome = f.Done task seq outcome ∷ []

-- as many commands are open as there is room for
abbrev pub is_full : Sizes → Readings → Bool
is_full l r = nat_le l.acks (length r.pending)

-- ---- In Up

-- with an acknowledgement to come, DUP 0 and a fresh identifier
abbrev pub delivered : Sizes → Readings → ℕ → ℕ → Qos → List ℕ → List ℕ → List Effect
delivered l r task seq qos topic payload = if is_full l r then at_once task seq o.NoRoom else f.Send (p.Publish false qos false topic (fresh_id r) payload) ∷ []

-- PUBLISH (MQTT 3.1.1, sections 3.3 and 4.3), RETAIN 0: at QoS 0 it is done with the sending.
unfoldable pub publish_row : Sizes → Readings → ℕ → ℕ → Qos → List ℕ → List ℕ → Option Row
publish_row l r task seq AtMostOnce topic payload = to Up (f.Send (p.Publish false AtMostOnce false topic 0 payload) ∷ f.Done task seq o.Done ∷ [])
publish_row l r task seq AtLeastOnce topic payload = to Up (delivered l r task seq AtLeastOnce topic payload)
publish_row l r task seq ExactlyOnce topic payload = to Up (delivered l r task seq ExactlyOnce topic payload)

-- the routes with those that are asked for, each pair once
abbrev pub routes_with : Readings → ℕ → List Ask → List Route
routes_with r task asks = with_routes (with_routes [] r.routes) (map (λ ask. route task ask.filter) asks)

-- SUBSCRIBE (section 3.8)
unfoldable pub subscribe_row : Sizes → Readings → ℕ → ℕ → List Ask → Option Row
subscribe_row l r task seq asks =
    to Up (if is_full l r then at_once task seq o.NoRoom
    else if nat_lt l.routes (length (routes_with r task asks)) then at_once task seq o.NoRoute
    else f.Send (p.Subscribe (fresh_id r) asks) ∷ [])

-- whether another task has a route for these topics
abbrev pub other_has : Readings → ℕ → List ℕ → Bool
other_has r task topics = list_any (λ other. not (other.task == task) && bytes_eq other.topics topics) r.routes

-- the filters that no other task has a route for, in their order
abbrev pub own_filters : Readings → ℕ → List (List ℕ) → List (List ℕ)
own_filters r task filters = filter (λ topics. not (other_has r task topics)) filters

-- UNSUBSCRIBE (section 3.10) of the filters that no other task needs; where there is none it is done at once.
abbrev pub unsubscribed : Sizes → Readings → ℕ → ℕ → List (List ℕ) → List Effect
unsubscribed l r task seq [] = at_once task seq o.Done
unsubscribed l r task seq (topics ∷ filters) = if is_full l r then at_once task seq o.NoRoom else f.Send (p.Unsubscribe (fresh_id r) (topics ∷ filters)) ∷ []

unfoldable pub unsubscribe_row : Sizes → Readings → ℕ → ℕ → List (List ℕ) → Option Row
unsubscribe_row l r task seq filters = to Up (unsubscribed l r task seq (own_filters r task filters))

-- PINGREQ (section 3.12)
abbrev pub ping_row : ℕ → ℕ → Option Row
ping_row task seq = to Up (f.Send p.PingReq ∷ f.Done task seq o.Done ∷ [])

-- DISCONNECT (section 3.14), by Disconnect and by Terminate
unfoldable pub disconnect_row : Setup → Readings → ℕ → ℕ → Option Row
disconnect_row s r task seq = to Off (cancel_all r ++ f.Send p.Disconnect ∷ f.Done task seq o.Done ∷ close s r)

abbrev pub up_row : Setup → Sizes → Readings → ℕ → ℕ → Request → Option Row
up_row s l r task seq (requests.Publish qos topic payload) = publish_row l r task seq qos topic payload
up_row s l r task seq (requests.Subscribe asks) = subscribe_row l r task seq asks
up_row s l r task seq (requests.Unsubscribe filters) = unsubscribe_row l r task seq filters
up_row s l r task seq requests.Ping = ping_row task seq
up_row s l r task seq requests.Disconnect = disconnect_row s r task seq
up_row s l r task seq requests.Terminate = disconnect_row s r task seq
up_row s l r task seq requests.Leave = to Up []

-- ---- In Off

-- the outcome of what isn't done any more
abbrev pub refusal : Readings → Outcome
refusal r = if r.terminated then o.Cancelled else o.NotConnected

abbrev pub off_row : Readings → ℕ → ℕ → Request → Option Row
off_row r task seq requests.Terminate = to Off (at_once task seq o.Done)
off_row r task seq requests.Leave = to Off []
off_row r task seq _ = to Off (at_once task seq (refusal r))

-- ---- In any phase

abbrev pub take_in : Setup → Sizes → Readings → ℕ → ℕ → Request → Phase → Option Row
take_in s l r task seq request Down = None
take_in s l r task seq request Opening = None
take_in s l r task seq request Up = up_row s l r task seq request
take_in s l r task seq request Spilled = None
take_in s l r task seq request Off = off_row r task seq request

-- A Take is of a task that there is and that hasn't left, its seq is the number of that task's Takes before it, and its
-- request is valid.
unfoldable pub may_take : Setup → Readings → ℕ → ℕ → Request → Bool
may_take s r task seq request = nat_lt task s.tasks && not (r.left task) && (seq == r.takes task) && is_valid request

unfoldable pub take_row : Setup → Sizes → Readings → ℕ → ℕ → Request → Option Row
take_row s l r task seq request = when (may_take s r task seq request) (take_in s l r task seq request r.phase)
