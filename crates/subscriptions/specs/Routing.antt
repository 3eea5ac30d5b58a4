-- What the agent knows of its routes (MQTT 3.1.1, sections 3.8 to 3.11). Renewals are the project's own: behind a lost
-- session the agent subscribes the filters of its routes again.
use Rattle.std.specs.Prelude.{ℕ, Bool, true, false, ◌&&◌, ◌||◌, not, ◌==◌, nat_le, List, [], ◌∷◌, ◌++◌, map, length, Option, Some, None, if◌then◌else◌, filter, find}
use Rattle.std.specs.List.{list_any, flat_map}
use Rattle.std.specs.Option.{option_map}
use Rattle.std.specs.Str.{bytes_eq}
use Rattle.mqtt_packet.specs.declared.qos.Qos.{Qos}
use Rattle.mqtt_packet.specs.declared.qos.Qos.TheVariants.{AtMostOnce}
use Rattle.mqtt_packet.specs.declared.will.Ask.{Ask}
use Rattle.agent_table.specs.Filters.{is_one_of, sorted}
use Rattle.agent_table.specs.Routes.{Route, Renewal, route, has_route, with_routes, coded, granted_in, refused_in, last_asked, or_earlier}
use Rattle.topic_filter.specs.Fitting.{fits}

-- A route that a SUBACK granted.
pub record Granted : Type 0 where
  pub task : ℕ
  pub topics : List ℕ
  -- the quality of service that a renewal of the filter asks for
  pub qos : Qos
  -- whether the session wasn't lost since a SUBACK granted the filter
  pub sure : Bool

-- An open subscribe. Where a later one was granted the same filter, that one's quality of service stands here for it.
pub record Asked : Type 0 where
  pub task : ℕ
  pub id : ℕ
  pub asks : List Ask
  -- whether its task has left since
  pub left : Bool

pub record Routing : Type 0 where
  -- of tasks that haven't left, each pair once, in the order in which they were granted
  pub granted : List Granted
  -- in the order in which they were asked
  pub asked : List Asked
  -- the open renewals, in the order in which they were sent
  pub renewals : List Renewal

abbrev pub nothing : Routing
nothing = record { granted = []; asked = []; renewals = [] }

-- ---- Routes

abbrev pub route_of : Granted → Route
route_of g = route g.task g.topics

abbrev pub routes_asked : ℕ → List Ask → List Route
routes_asked task asks = map (λ ask. route task ask.filter) asks

-- those that were granted, and those that tasks which haven't left ask for
abbrev pub routes : Routing → List Route
routes k = with_routes (map route_of k.granted) (flat_map (λ a. routes_asked a.task a.asks) (filter (λ a. not a.left) k.asked))

-- whether they and the asked ones are at most so many pairs
abbrev pub has_room : ℕ → Routing → ℕ → List Ask → Bool
has_room room k task asks = nat_le (length (with_routes (with_routes [] (routes k)) (routes_asked task asks))) room

abbrev pub other_has : Routing → ℕ → List ℕ → Bool
other_has k task topics = list_any (λ other. not (other.task == task) && bytes_eq other.topics topics) (routes k)

-- whether the task has a route that fits the name
abbrev pub is_reached : Routing → List ℕ → ℕ → Bool
is_reached k name task = list_any (λ other. other.task == task && fits other.topics name) (routes k)

-- ---- Open subscribes

abbrev pub has_id : ℕ → Asked → Bool
has_id n a = a.id == n

abbrev pub asked_last : ℕ → ℕ → List Ask → Routing → Routing
asked_last task id asks k = record k { asked = k.asked ++ record { task = task; id = id; asks = asks; left = false } ∷ [] }

-- how many filters it asks for
abbrev pub asked_len : ℕ → Routing → Option ℕ
asked_len id k = option_map (λ a. length a.asks) (find (has_id id) k.asked)

-- the others, in their order
abbrev pub lost : ℕ → Routing → Routing
lost id k = record k { asked = filter (λ a. not (has_id id a)) k.asked }

-- what an earlier subscribe is left with where these filters of later asks were granted
abbrev pub settled : List (List ℕ) → List Ask → Ask → Ask
settled filters asks ask = if is_one_of filters ask.filter then record ask { qos = or_earlier (last_asked asks ask.filter) ask.qos } else ask

-- the others, those in front of it settled
abbrev pub settled_before : ℕ → List (List ℕ) → List Ask → List Asked → List Asked
settled_before id filters asks [] = []
settled_before id filters asks (a ∷ others) = if has_id id a then others else record a { asks = map (settled filters asks) a.asks } ∷ settled_before id filters asks others

-- a route of one of these filters is sure, and is renewed as was asked here
abbrev pub renewed_as : List (List ℕ) → List Ask → Granted → Granted
renewed_as filters asks g = if is_one_of filters g.topics then record g { qos = or_earlier (last_asked asks g.topics) g.qos; sure = true } else g

-- the filter as a route of the task, where it isn't one
abbrev pub with_granted : ℕ → List Ask → List Granted → List ℕ → List Granted
with_granted task asks granted topics =
    if has_route (map route_of granted) (route task topics) then granted
    else granted ++ record { task = task; topics = topics; qos = or_earlier (last_asked asks topics) AtMostOnce; sure = true } ∷ []

abbrev pub with_all_granted : ℕ → List Ask → List Granted → List (List ℕ) → List Granted
with_all_granted task asks granted [] = granted
with_all_granted task asks granted (topics ∷ filters) = with_all_granted task asks (with_granted task asks granted topics) filters

-- to a task that has left nothing is added
abbrev pub granted_by : Asked → List (List ℕ) → List Granted → List Granted
granted_by a filters granted = if a.left then map (renewed_as filters a.asks) granted else with_all_granted a.task a.asks (map (renewed_as filters a.asks) granted) filters

abbrev pub granted_to : ℕ → Option Asked → List ℕ → Routing → Routing
granted_to id None codes k = k
granted_to id (Some a) codes k = record k {
  granted = granted_by a (granted_in (coded a.asks codes)) k.granted;
  asked = settled_before id (granted_in (coded a.asks codes)) a.asks k.asked;
}

-- behind a SUBACK of an open subscribe (section 3.9)
abbrev pub granted : ℕ → List ℕ → Routing → Routing
granted id codes k = granted_to id (find (has_id id) k.asked) codes k

-- ---- Ends of routes

abbrev pub is_any_of : ℕ → List (List ℕ) → Granted → Bool
is_any_of task filters g = g.task == task && is_one_of filters g.topics

-- behind an unsubscribe of a task that is done
abbrev pub filters_dropped : ℕ → List (List ℕ) → Routing → Routing
filters_dropped task filters k = record k { granted = filter (λ g. not (is_any_of task filters g)) k.granted }

abbrev pub leaves : ℕ → Asked → Asked
leaves task a = if a.task == task then record a { left = true } else a

-- behind the Leave of a task
abbrev pub task_dropped : ℕ → Routing → Routing
task_dropped task k = record k { granted = filter (λ g. not (g.task == task)) k.granted; asked = map (leaves task) k.asked }

-- ---- Lost sessions and renewals

abbrev pub unsure_now : Granted → Granted
unsure_now g = record g { sure = false }

abbrev pub session_lost : Routing → Routing
session_lost k = record k { granted = map unsure_now k.granted }

abbrev pub qos_in : List Granted → List ℕ → Qos
qos_in [] topics = AtMostOnce
qos_in (g ∷ gs) topics = if bytes_eq g.topics topics then g.qos else qos_in gs topics

abbrev pub ask_in : List Granted → List ℕ → Ask
ask_in granted topics = record { filter = topics; qos = qos_in granted topics }

-- What is asked for again: of all granted routes, or of the unsure ones alone. Each filter once, in increasing order.
abbrev pub renewable : Bool → Routing → List Ask
renewable all k = map (ask_in k.granted) (sorted (map (λ g. g.topics) (filter (λ g. all || not g.sure) k.granted)))

abbrev pub renewed : ℕ → List Ask → Routing → Routing
renewed id asks k = record k { renewals = k.renewals ++ record { id = id; asks = asks } ∷ [] }

-- behind an accepted CONNACK: these, and no others
abbrev pub renewals_set : List Renewal → Routing → Routing
renewals_set more k = record k { renewals = more }

abbrev pub is_renewal : ℕ → Renewal → Bool
is_renewal n renewal = renewal.id == n

abbrev pub renewal_len : ℕ → Routing → Option ℕ
renewal_len id k = option_map (λ renewal. length renewal.asks) (find (is_renewal id) k.renewals)

-- the code 128 takes the filter's routes from all tasks, and every other makes it sure
abbrev pub renewal_coded : List Ask → List ℕ → Granted → List Granted
renewal_coded asks codes g =
    if is_one_of (refused_in (coded asks codes)) g.topics then []
    else if is_one_of (granted_in (coded asks codes)) g.topics then record g { sure = true } ∷ []
    else g ∷ []

abbrev pub renewal_granted_to : ℕ → Option Renewal → List ℕ → Routing → Routing
renewal_granted_to id None codes k = k
renewal_granted_to id (Some renewal) codes k = record k {
  granted = flat_map (renewal_coded renewal.asks codes) k.granted;
  renewals = filter (λ other. not (is_renewal id other)) k.renewals;
}

-- behind a SUBACK of an open renewal
abbrev pub renewal_granted : ℕ → List ℕ → Routing → Routing
renewal_granted id codes k = renewal_granted_to id (find (is_renewal id) k.renewals) codes k

-- behind the end of a connection: no renewal is open
abbrev pub broke : Routing → Routing
broke k = record k { renewals = [] }

-- behind the end of a connection or of the agent no subscribe is open
abbrev pub all_lost : Routing → Routing
all_lost k = record k { asked = [] }
