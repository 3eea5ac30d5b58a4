-- Which saved sessions fit an agent of so many tasks, commands, held identifiers and routes.
use Rattle.std.specs.Prelude.{ℕ, ◌^◌, Bool, true, false, ◌==◌, ◌&&◌, ◌||◌, not, nat_lt, nat_le, List, [], ◌∷◌, length, drop, is_some, if◌then◌else◌}
use Rattle.std.specs.List.{list_any, list_all}
use Rattle.mqtt_packet.specs.declared.packet.Packet.{Packet}
use Rattle.mqtt_packet.specs.declared.packet.Packet.TheVariants as p
use Rattle.mqtt_packet.specs.declared.qos.Qos.{Qos}
use Rattle.mqtt_packet.specs.declared.qos.Qos.TheVariants.{AtMostOnce, AtLeastOnce, ExactlyOnce}
use Rattle.agent_journal.specs.Endings.{is_off}
use Rattle.agent_table.specs.Filters.{comes_before}
use Rattle.session_text.specs.declared.session.Session.{Session}
use Rattle.session_text.specs.declared.session.Bounds.{Bounds}
use Rattle.session_text.specs.declared.session.Connections.{Connections}
use Rattle.session_text.specs.declared.session.Command.{Command}
use Rattle.session_text.specs.declared.session.Route.{Route}
use Rattle.session_text.specs.declared.session.Stage.{Stage}
use Rattle.session_text.specs.declared.session.Stage.TheVariants.{NoPublish, Sent, Released}

abbrev pub is_among : List ℕ → ℕ → Bool
is_among ns n = list_any (λ m. m == n) ns

-- each number once
abbrev pub are_distinct : List ℕ → Bool
are_distinct [] = true
are_distinct (n ∷ ns) = not (is_among ns n) && are_distinct ns

-- ---- Connections and tasks

-- How the agent came to Off is told in Off, and there alone.
abbrev pub is_off_told : Connections → Bool
is_off_told c = if is_off c.phase then is_some c.off else not (is_some c.off)

-- Only tasks that there are have left or took requests, each at most 4,294,967,296.
abbrev pub are_tasks : ℕ → ℕ → List ℕ → Bool
are_tasks tasks left taken = nat_lt left (2 ^ tasks) && (list_all (λ n. nat_le n 4294967296) taken && list_all (λ n. n == 0) (drop tasks taken))

-- ---- Commands

-- 0 where a packet has none, as a command's packet always has
abbrev pub id_of : Packet → ℕ
id_of (p.Publish dup qos retain topic id payload) = id
id_of (p.Subscribe id asks) = id
id_of (p.Unsubscribe id filters) = id
id_of _ = 0

abbrev pub is_no_publish : Stage → Bool
is_no_publish NoPublish = true
is_no_publish _ = false

abbrev pub is_sent : Stage → Bool
is_sent Sent = true
is_sent _ = false

abbrev pub is_released : Stage → Bool
is_released Released = true
is_released _ = false

-- Only a publish at QoS 2 is released (MQTT 3.1.1, section 4.3.3), and one at QoS 0 is never open.
abbrev pub stage_fits_at : Qos → Stage → Bool
stage_fits_at AtMostOnce stage = false
stage_fits_at AtLeastOnce stage = is_sent stage
stage_fits_at ExactlyOnce stage = not (is_no_publish stage)

-- The packets of commands are these three, as they are sent first.
abbrev pub stage_fits : Packet → Stage → Bool
stage_fits (p.Publish dup qos retain topic id payload) stage = not dup && (not retain && stage_fits_at qos stage)
stage_fits (p.Subscribe id asks) stage = is_no_publish stage
stage_fits (p.Unsubscribe id filters) stage = is_no_publish stage
stage_fits _ stage = false

abbrev pub is_command : ℕ → Command → Bool
is_command tasks c = nat_lt c.task tasks && stage_fits c.packet c.stage

abbrev pub has_id : ℕ → Command → Bool
has_id n c = id_of c.packet == n

-- no two have one identifier
abbrev pub ids_differ : List Command → Bool
ids_differ [] = true
ids_differ (c ∷ commands) = not (list_any (has_id (id_of c.packet)) commands) && ids_differ commands

-- ---- Released identifiers

abbrev pub releases : ℕ → Command → Bool
releases n c = has_id n c && is_released c.stage

abbrev pub is_listed : List ℕ → Command → Bool
is_listed released c = not (is_released c.stage) || is_among released (id_of c.packet)

-- Each released publish is listed, once, and nothing else is.
abbrev pub are_released : List Command → List ℕ → Bool
are_released commands released = are_distinct released && (list_all (λ n. list_any (releases n) commands) released && list_all (is_listed released) commands)

-- ---- Held identifiers and routes

abbrev pub are_held : List ℕ → Bool
are_held held = are_distinct held && list_all (λ n. not (n == 0)) held

abbrev pub is_before : Route → Route → Bool
is_before r s = nat_lt r.task s.task || (r.task == s.task && comes_before r.filter s.filter)

abbrev pub is_before_first : Route → List Route → Bool
is_before_first r [] = true
is_before_first r (s ∷ routes) = is_before r s

-- in the order of task and filter, each once
abbrev pub are_in_order : List Route → Bool
are_in_order [] = true
are_in_order (r ∷ routes) = is_before_first r routes && are_in_order routes

-- ---- All of it

-- no more than there is room for
abbrev pub are_few : Bounds → Session → Bool
are_few b x = nat_le (length x.commands) b.acks && (nat_le (length x.held) b.inbound && nat_le (length x.routes) b.routes)

-- in Off nothing is open
abbrev pub is_closed : Connections → List Command → Bool
is_closed c commands = not (is_off c.phase) || length commands == 0

abbrev pub commands_fit : ℕ → Connections → List Command → List ℕ → Bool
commands_fit tasks c commands released = is_closed c commands && (list_all (is_command tasks) commands && (ids_differ commands && are_released commands released))

abbrev pub routes_fit : ℕ → List Route → Bool
routes_fit tasks routes = list_all (λ r. nat_lt r.task tasks) routes && are_in_order routes

abbrev pub fits : Bounds → Session → Bool
fits b x =
    is_off_told x.connections
    && (are_tasks b.tasks x.left x.taken && (are_few b x && (commands_fit b.tasks x.connections x.commands x.released && (are_held x.held && routes_fit b.tasks x.routes))))
