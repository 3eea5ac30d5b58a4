-- What the agent keeps behind an entry.
use Rattle.std.specs.Prelude.{ℕ, ◌+◌, Bool, true, List, [], ◌∷◌, ◌++◌, length, if◌then◌else◌, slice_set}
use Rattle.std.specs.List.{list_any, flat_map}
use Rattle.mqtt_packet.specs.declared.packet.Packet.{Packet}
use Rattle.mqtt_packet.specs.declared.packet.Packet.TheVariants as p
use Rattle.agent_journal.specs.declared.request.Request.{Request}
use Rattle.agent_journal.specs.declared.request.Request.TheVariants as requests
use Rattle.agent_journal.specs.declared.entry.Cause.{Cause}
use Rattle.agent_journal.specs.declared.entry.Cause.TheVariants as c
use Rattle.agent_journal.specs.declared.effect.Effect.{Effect}
use Rattle.agent_journal.specs.declared.setup.Setup.{Setup}
use Rattle.agent_journal.specs.declared.setup.Phase.{Phase}
use Rattle.agent_journal.specs.Readings.{Pending, is_leave, accepts, is_break, opens}
use Rattle.agent_journal.specs.Endings.{off_behind}
use Rattle.agent_journal.specs.Wires.{sends}
use Rattle.agent_core.specs.Kept.{Kept, most_accepted}
use Rattle.agent_core.specs.Completions.{Books, all_ended, is_count}
use Rattle.agent_table.specs.Deliveries.{released_behind, held_behind}
use Rattle.agent_table.specs.Identifiers.{last_or}
use Rattle.agent_table.specs.Readings.{at_most}
use Rattle.agent_table.specs.Routes.{renewal_in, is_done, outcomes_in}
use Rattle.agent_table.specs.Sends.{has_send, drawn_in}
use Rattle.agent_table.specs.Sessions.{loses_session, ping_behind, sent_behind}
use Rattle.subscriptions.specs.Routing as routing

-- ---- Tasks and connections

abbrev pub takes_with : Cause → List ℕ → List ℕ
takes_with (c.Take task seq request) takes = slice_set takes task (seq + 1)
takes_with _ takes = takes

abbrev pub left_with : Cause → List Bool → List Bool
left_with (c.Take task seq request) left = if is_leave request then slice_set left task true else left
left_with _ left = left

abbrev pub breaks_with : Setup → Cause → ℕ → ℕ
breaks_with s cause n = if accepts cause then 0 else if is_break cause then at_most (s.reopen + 2) (n + 1) else n

abbrev pub accepted_with : Setup → Cause → ℕ → ℕ
accepted_with s cause n = if accepts cause then at_most (most_accepted s) (n + 1) else n

-- ---- Routes

-- what is asked with this entry: a subscribe that is opened, and renewals, which an accepted CONNACK begins anew
abbrev pub asked_by : ℕ → Request → List Pending → routing.Routing → routing.Routing
asked_by task (requests.Publish qos topic payload) opened k = k
asked_by task (requests.Subscribe asks) [] k = k
asked_by task (requests.Subscribe asks) (command ∷ commands) k = routing.asked_last task command.id asks k
asked_by task (requests.Unsubscribe filters) opened k = k
asked_by task requests.Ping opened k = k
asked_by task requests.Disconnect opened k = k
asked_by task requests.Terminate opened k = k
asked_by task requests.Leave opened k = k

abbrev pub asked_at : Packet → List Effect → routing.Routing → routing.Routing
asked_at (p.ConnAck present code) effects k = routing.renewals_set (flat_map renewal_in (sends effects)) k
asked_at _ effects k = k

abbrev pub routing_asked : Cause → List Effect → List Pending → routing.Routing → routing.Routing
routing_asked (c.Take task seq request) effects opened k = asked_by task request opened k
routing_asked (c.Arrived packet) effects opened k = asked_at packet effects k
routing_asked _ effects opened k = k

-- an unsubscribe that is done with its Take, and a Leave
abbrev pub taken_by : ℕ → ℕ → Request → List Effect → routing.Routing → routing.Routing
taken_by task seq (requests.Unsubscribe filters) effects k = if list_any is_done (outcomes_in task seq effects) then routing.filters_dropped task filters k else k
taken_by task seq requests.Leave effects k = routing.task_dropped task k
taken_by task seq _ effects k = k

-- the SUBACK of an open renewal, with as many codes
abbrev pub renewal_answered : ℕ → List ℕ → routing.Routing → routing.Routing
renewal_answered id codes k = if is_count (routing.renewal_len id k) (length codes) then routing.renewal_granted id codes k else k

abbrev pub answered_by : Packet → routing.Routing → routing.Routing
answered_by (p.SubAck id codes) k = renewal_answered id codes k
answered_by _ k = k

abbrev pub routing_caused : Cause → List Effect → routing.Routing → routing.Routing
routing_caused (c.Take task seq request) effects k = taken_by task seq request effects k
routing_caused (c.Arrived packet) effects k = answered_by packet k
routing_caused (c.Broke why) effects k = routing.broke k
routing_caused _ effects k = k

abbrev pub routing_lost : Bool → routing.Routing → routing.Routing
routing_lost lost k = if lost then routing.session_lost k else k

-- ---- All of it

-- the books with what the cause asks for and opens
abbrev pub begun : Kept → Cause → List Effect → Books
begun k cause effects = record {
  pending = k.pending ++ opens cause effects;
  released = released_behind k.pending k.released cause;
  routing = routing_lost (loses_session k.setup k.accepted cause) (routing_caused cause effects (routing_asked cause effects (opens cause effects) k.routing));
}

-- and with the completions of the entry
abbrev pub closed : Kept → Cause → List Effect → Books
closed k cause effects = all_ended (begun k cause effects) effects

abbrev pub held_with : Kept → ℕ → Cause → List Effect → List ℕ
held_with k at cause effects = if loses_session k.setup k.accepted cause then [] else held_behind cause (record { at = at; cause = cause; effects = effects }) k.held

-- behind an entry with these effects, whose row has this phase
abbrev pub after : Kept → ℕ → Cause → List Effect → Phase → Kept
after k at cause effects phase = record k {
  phase = phase;
  last_time = at;
  just_sent = has_send effects;
  takes = takes_with cause k.takes;
  left = left_with cause k.left;
  breaks = breaks_with k.setup cause k.breaks;
  accepted = accepted_with k.setup cause k.accepted;
  pending = (closed k cause effects).pending;
  released = (closed k cause effects).released;
  held = held_with k at cause effects;
  last_drawn = last_or k.last_drawn (drawn_in effects);
  ping = ping_behind (record { at = at; cause = cause; effects = effects }) k.ping;
  last_sent = sent_behind (record { at = at; cause = cause; effects = effects }) k.last_sent;
  routing = (closed k cause effects).routing;
  off = off_behind k.phase phase cause k.off;
}
