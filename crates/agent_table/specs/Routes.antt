-- Routes: which task gets the messages of which filter, read off a journal (MQTT 3.1.1, sections 3.8 to 3.11). They outlive
-- a lost session, behind which the agent subscribes their filters again. These renewals are the project's own.
use Rattle.std.specs.Prelude.{ℕ, Bool, true, false, ◌&&◌, ◌||◌, not, ◌==◌, nat_lt, List, [], ◌∷◌, ◌++◌, map, Option, Some, None, if◌then◌else◌, filter}
use Rattle.std.specs.List.{list_any, flat_map}
use Rattle.std.specs.Str.{bytes_eq}
use Rattle.mqtt_packet.specs.declared.qos.Qos.{Qos}
use Rattle.mqtt_packet.specs.declared.qos.Qos.TheVariants.{AtMostOnce}
use Rattle.mqtt_packet.specs.declared.packet.Packet.{Packet}
use Rattle.mqtt_packet.specs.declared.packet.Packet.TheVariants as p
use Rattle.mqtt_packet.specs.declared.will.Ask.{Ask}
use Rattle.agent_journal.specs.declared.request.Request.{Request}
use Rattle.agent_journal.specs.declared.request.Request.TheVariants as requests
use Rattle.agent_journal.specs.declared.outcome.Outcome.{Outcome}
use Rattle.agent_journal.specs.declared.outcome.Outcome.TheVariants as o
use Rattle.agent_journal.specs.declared.entry.Cause.{Cause}
use Rattle.agent_journal.specs.declared.entry.Cause.TheVariants as c
use Rattle.agent_journal.specs.declared.entry.Entry.{Entry}
use Rattle.agent_journal.specs.declared.effect.Effect.{Effect}
use Rattle.agent_journal.specs.declared.effect.Effect.TheVariants as f
use Rattle.agent_journal.specs.declared.setup.Setup.{Setup}
use Rattle.agent_journal.specs.declared.setup.Phase.{Phase}
use Rattle.agent_journal.specs.declared.setup.Phase.TheVariants.{Down, Opening, Up, Spilled, Off}
use Rattle.agent_journal.specs.Readings.{Pending, pending_of, accepted_of, has_left}
use Rattle.agent_journal.specs.Wires.{sends}
use Rattle.agent_table.specs.Filters.{is_one_of, sorted}
use Rattle.agent_table.specs.Sessions.{loses_session}

pub record Route : Type 0 where
  pub task : ℕ
  pub topics : List ℕ

abbrev pub route : ℕ → List ℕ → Route
route task topics = record { task = task; topics = topics }

abbrev pub is_route : Route → Route → Bool
is_route a b = a.task == b.task && bytes_eq a.topics b.topics

abbrev pub has_route : List Route → Route → Bool
has_route routes r = list_any (λ other. is_route other r) routes

abbrev pub with_route : List Route → Route → List Route
with_route routes r = if has_route routes r then routes else routes ++ r ∷ []

-- the first list and then what isn't there yet of the second
abbrev pub with_routes : List Route → List Route → List Route
with_routes routes [] = routes
with_routes routes (r ∷ rs) = with_routes (with_route routes r) rs

-- ---- Renewals

pub record Renewal : Type 0 where
  pub id : ℕ
  pub asks : List Ask

abbrev pub renewal_in : Packet → List Renewal
renewal_in (p.Subscribe id asks) = record { id = id; asks = asks } ∷ []
renewal_in _ = []

abbrev pub renewals_by : Packet → List Effect → List Renewal → List Renewal
renewals_by (p.ConnAck present code) effects renewals = renewals ++ flat_map renewal_in (sends effects)
renewals_by (p.SubAck id codes) effects renewals = filter (λ renewal. not (renewal.id == id)) renewals
renewals_by _ effects renewals = renewals

abbrev pub renewals_behind : Cause → List Effect → List Renewal → List Renewal
renewals_behind (c.Arrived packet) effects renewals = renewals_by packet effects renewals
renewals_behind (c.Broke why) effects renewals = []
renewals_behind _ effects renewals = renewals

-- The open renewals: SUBSCRIBEs that the entry of an arrived CONNACK sent, on the present connection, without a SUBACK yet.
abbrev pub renewals_of : List Entry → List Renewal
renewals_of [] = []
renewals_of (e ∷ past) = renewals_behind e.cause e.effects (renewals_of past)

-- ---- What SUBACKs and UNSUBACKs say

-- filters and the codes that a SUBACK has for them, in their order
abbrev pub coded : List Ask → List ℕ → List (List ℕ × ℕ)
coded [] codes = []
coded (ask ∷ asks) [] = []
coded (ask ∷ asks) (code ∷ codes) = (ask.filter, code) ∷ coded asks codes

-- A code below 128 grants the filter, and 128 refuses it (section 3.9.3).
abbrev pub granted_in : List (List ℕ × ℕ) → List (List ℕ)
granted_in pairs = map (λ pair. pair.0) (filter (λ pair. nat_lt pair.1 128) pairs)

abbrev pub refused_in : List (List ℕ × ℕ) → List (List ℕ)
refused_in pairs = map (λ pair. pair.0) (filter (λ pair. not (nat_lt pair.1 128)) pairs)

abbrev pub asks_in : Request → List Ask
asks_in (requests.Subscribe asks) = asks
asks_in _ = []

abbrev pub filters_in : Request → List (List ℕ)
filters_in (requests.Unsubscribe filters) = filters
filters_in _ = []

-- the outcome of a command in these effects: of its only Done, where there is one
abbrev pub outcome_by : ℕ → ℕ → Effect → List Outcome
outcome_by task seq (f.Done t s outcome) = if t == task && s == seq then outcome ∷ [] else []
outcome_by task seq _ = []

abbrev pub outcomes_in : ℕ → ℕ → List Effect → List Outcome
outcomes_in task seq effects = flat_map (outcome_by task seq) effects

abbrev pub codes_by : Outcome → List ℕ
codes_by (o.Granted codes) = codes
codes_by _ = []

abbrev pub is_done : Outcome → Bool
is_done o.Done = true
is_done _ = false

-- the filters of a subscribe that its SUBACK granted, where the effects complete it so
abbrev pub granted_to : List Effect → Pending → List (List ℕ)
granted_to effects command = granted_in (coded (asks_in command.request) (flat_map codes_by (outcomes_in command.task command.seq effects)))

abbrev pub routes_to : List Effect → Pending → List Route
routes_to effects command = map (route command.task) (granted_to effects command)

-- the filters of an unsubscribe that the effects complete Done
abbrev pub dropped_to : List Effect → ℕ → ℕ → Request → List Route
dropped_to effects task seq request = if list_any is_done (outcomes_in task seq effects) then map (route task) (filters_in request) else []

-- Commands that were open, and the one that is taken now: an unsubscribe may be done at once.
abbrev pub dropped_by : Cause → List Effect → List Pending → List Route
dropped_by (c.Take task seq request) effects commands = dropped_to effects task seq request
dropped_by (c.Arrived packet) effects commands = flat_map (λ command. dropped_to effects command.task command.seq command.request) commands
dropped_by _ effects commands = []

abbrev pub coded_by : ℕ → List ℕ → List Renewal → List (List ℕ × ℕ)
coded_by id codes [] = []
coded_by id codes (renewal ∷ renewals) = if renewal.id == id then coded renewal.asks codes else coded_by id codes renewals

abbrev pub renewed_by : Packet → List Renewal → List (List ℕ × ℕ)
renewed_by (p.SubAck id codes) renewals = coded_by id codes renewals
renewed_by _ renewals = []

-- the filters of an open renewal whose SUBACK arrives, each with its code
abbrev pub renewed : Cause → List Renewal → List (List ℕ × ℕ)
renewed (c.Arrived packet) renewals = renewed_by packet renewals
renewed _ renewals = []

-- ---- Routes

abbrev pub without : List Route → List Route → List Route
without dropped routes = filter (λ r. not (has_route dropped r)) routes

abbrev pub without_filters : List (List ℕ) → List Route → List Route
without_filters refused routes = filter (λ r. not (is_one_of refused r.topics)) routes

-- What SUBACKs granted to each task, unless an unsubscribe of it was done behind that, or a renewal was refused. Each
-- route stands once.
abbrev pub granted_of : List Entry → List Route
granted_of [] = []
granted_of (e ∷ past) =
    with_routes (without_filters (refused_in (renewed e.cause (renewals_of past))) (without (dropped_by e.cause e.effects (pending_of past)) (granted_of past)))
    (flat_map (routes_to e.effects) (pending_of past))

-- what the open subscribes of each task ask for
abbrev pub asked_for : List Pending → List Route
asked_for commands = flat_map (λ command. map (λ ask. route command.task ask.filter) (asks_in command.request)) commands

-- the routes of tasks that haven't left
abbrev pub routes_from : (ℕ → Bool) → List Pending → List Route → List Route
routes_from left commands granted = filter (λ r. not (left r.task)) (with_routes granted (asked_for commands))

-- ---- Unsure filters

-- the filters that a SUBACK grants with this entry, to a task or in a renewal
abbrev pub made_sure : Entry → List Entry → List (List ℕ)
made_sure e past = flat_map (granted_to e.effects) (pending_of past) ++ granted_in (renewed e.cause (renewals_of past))

-- whether the session was lost, ever
abbrev pub lost_of : Setup → List Entry → Bool
lost_of s [] = false
lost_of s (e ∷ past) = loses_session s (accepted_of past) e.cause || lost_of s past

-- the filters that were granted since it was lost last
abbrev pub sure_of : Setup → List Entry → List (List ℕ)
sure_of s [] = []
sure_of s (e ∷ past) = if loses_session s (accepted_of past) e.cause then [] else sure_of s past ++ made_sure e past

-- ---- The quality of service of a renewal

abbrev pub or_last : Option Qos → Qos → Option Qos
or_last None qos = Some qos
or_last (Some later) qos = Some later

-- the last pair of a filter counts
abbrev pub last_asked : List Ask → List ℕ → Option Qos
last_asked [] topics = None
last_asked (ask ∷ asks) topics = if bytes_eq ask.filter topics then or_last (last_asked asks topics) ask.qos else last_asked asks topics

-- A subscribe that a SUBACK granted, by its task and its number, with the filters that it was granted.
pub record Grant : Type 0 where
  pub task : ℕ
  pub seq : ℕ
  pub topics : List (List ℕ)

abbrev pub grants_of : List Entry → List Grant
grants_of [] = []
grants_of (e ∷ past) = grants_of past ++ map (λ command. record { task = command.task; seq = command.seq; topics = granted_to e.effects command }) (pending_of past)

abbrev pub grants : List Grant → ℕ → ℕ → List ℕ → Bool
grants all task seq topics = list_any (λ grant. (grant.task == task && grant.seq == seq) && is_one_of grant.topics topics) all

abbrev pub asked_by : List Grant → List ℕ → Cause → Option Qos
asked_by all topics (c.Take task seq request) = if grants all task seq topics then last_asked (asks_in request) topics else None
asked_by all topics _ = None

abbrev pub or_earlier : Option Qos → Qos → Qos
or_earlier None earlier = earlier
or_earlier (Some qos) earlier = qos

-- What was asked for a filter by the last subscribe, in the order of Takes, to which a SUBACK granted it, of all tasks and
-- of all time.
abbrev pub asked_in : List Grant → List ℕ → List Entry → Qos
asked_in all topics [] = AtMostOnce
asked_in all topics (e ∷ past) = or_earlier (asked_by all topics e.cause) (asked_in all topics past)

abbrev pub qos_of : List Entry → List ℕ → Qos
qos_of past topics = asked_in (grants_of past) topics past

-- ---- What the table reads

abbrev pub topics_of : List Route → List (List ℕ)
topics_of rs = map (λ r. r.topics) rs

-- the routes of tasks that haven't left
abbrev pub routes_of : List Entry → List Route
routes_of past = routes_from (λ t. has_left t past) (pending_of past) (granted_of past)

-- Filters are asked for each once, in the increasing order of their bytes.
abbrev pub asks_for : List Entry → List (List ℕ) → List Ask
asks_for past filters = map (λ topics. record { filter = topics; qos = qos_of past topics }) (sorted filters)

-- what is asked for the filters of all routes
abbrev pub renewable_of : List Entry → List Ask
renewable_of past = asks_for past (topics_of (routes_of past))

-- what is asked for the unsure ones: the session was lost, and no SUBACK granted them since
abbrev pub unsure_of : Setup → List Entry → List Ask
unsure_of s past = asks_for past (filter (λ topics. lost_of s past && not (is_one_of (sure_of s past) topics)) (topics_of (routes_of past)))

-- It is asked in Opening alone, where no subscribe is open.
abbrev pub while_opening : Phase → List Ask → List Ask
while_opening Down asks = []
while_opening Opening asks = asks
while_opening Up asks = []
while_opening Spilled asks = []
while_opening Off asks = []
