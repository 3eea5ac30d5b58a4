-- What is read off a journal. The past of a journal is its entries with the newest first. Each reading is a count or a
-- filter of the past.
use Rattle.std.specs.Prelude.{ℕ, ◌+◌, Bool, true, false, ◌&&◌, ◌||◌, not, ◌==◌, List, [], ◌∷◌, ◌++◌, Option, Some, None, if◌then◌else◌, filter}
use Rattle.std.specs.List.{list_any, flat_map}
use Rattle.mqtt_packet.specs.declared.qos.Qos.TheVariants.{AtMostOnce, AtLeastOnce, ExactlyOnce}
use Rattle.mqtt_packet.specs.declared.packet.Packet.{Packet}
use Rattle.mqtt_packet.specs.declared.packet.Packet.TheVariants as p
use Rattle.mqtt_packet.specs.declared.qos.Qos.{Qos}
use Rattle.agent_journal.specs.declared.request.Request.{Request}
use Rattle.agent_journal.specs.declared.request.Request.TheVariants as requests
use Rattle.agent_journal.specs.declared.entry.Cause.{Cause}
use Rattle.agent_journal.specs.declared.entry.Cause.TheVariants as c
use Rattle.agent_journal.specs.declared.entry.Entry.{Entry}
use Rattle.agent_journal.specs.declared.effect.Effect.{Effect}
use Rattle.agent_journal.specs.declared.effect.Effect.TheVariants as f
use Rattle.agent_journal.specs.Wires.{sends}

-- An open command: the identifier of its packet, its task and number, what it asks, and the filters that its UNSUBSCRIBE names.
pub record Pending : Type 0 where
  pub id : ℕ
  pub task : ℕ
  pub seq : ℕ
  pub request : Request
  pub sent_filters : List (List ℕ)

abbrev pub last_time_of : List Entry → ℕ
last_time_of [] = 0
last_time_of (e ∷ past) = e.at

-- whether a cause is a Take of task t
abbrev pub takes_by : ℕ → Cause → Bool
takes_by t (c.Take task seq request) = t == task
takes_by t _ = false

abbrev pub takes_behind : ℕ → Cause → ℕ → ℕ
takes_behind t cause n = if takes_by t cause then n + 1 else n

abbrev pub takes_of : ℕ → List Entry → ℕ
takes_of t [] = 0
takes_of t (e ∷ past) = takes_behind t e.cause (takes_of t past)

abbrev pub is_leave : Request → Bool
is_leave requests.Leave = true
is_leave _ = false

-- whether a cause is the Leave of task t
abbrev pub leaves_by : ℕ → Cause → Bool
leaves_by t (c.Take task seq request) = t == task && is_leave request
leaves_by t _ = false

abbrev pub has_left : ℕ → List Entry → Bool
has_left t [] = false
has_left t (e ∷ past) = leaves_by t e.cause || has_left t past

abbrev pub is_accepting : Packet → Bool
is_accepting (p.ConnAck present code) = code == 0
is_accepting _ = false

-- whether a cause is an accepted CONNACK: one of code 0
abbrev pub accepts : Cause → Bool
accepts (c.Arrived packet) = is_accepting packet
accepts _ = false

abbrev pub accepted_behind : Cause → ℕ → ℕ
accepted_behind cause n = if accepts cause then n + 1 else n

abbrev pub accepted_of : List Entry → ℕ
accepted_of [] = 0
accepted_of (e ∷ past) = accepted_behind e.cause (accepted_of past)

abbrev pub is_break : Cause → Bool
is_break (c.Broke why) = true
is_break _ = false

abbrev pub breaks_behind : Cause → ℕ → ℕ
breaks_behind cause n = if accepts cause then 0 else if is_break cause then n + 1 else n

abbrev pub breaks_of : List Entry → ℕ
breaks_of [] = 0
breaks_of (e ∷ past) = breaks_behind e.cause (breaks_of past)

-- the identifier of a publish above quality of service 0
abbrev pub id_at : Qos → ℕ → Option ℕ
id_at AtMostOnce id = None
id_at AtLeastOnce id = Some id
id_at ExactlyOnce id = Some id

-- the identifier of a command's own packet, which an acknowledgement will name
abbrev pub command_id : Packet → Option ℕ
command_id (p.Publish dup qos retain topic id payload) = id_at qos id
command_id (p.Subscribe id asks) = Some id
command_id (p.Unsubscribe id filters) = Some id
command_id _ = None

abbrev pub or_else : Option ℕ → Option ℕ → Option ℕ
or_else None other = other
or_else (Some id) other = Some id

-- the identifier that these effects send for a command
abbrev pub sent_id : List Effect → Option ℕ
sent_id [] = None
sent_id (f.Send packet ∷ effects) = or_else (command_id packet) (sent_id effects)
sent_id (f.Done task seq outcome ∷ effects) = sent_id effects
sent_id (f.Pass task message ∷ effects) = sent_id effects
sent_id (f.Closed task ∷ effects) = sent_id effects

-- the filters that an UNSUBSCRIBE names
abbrev pub filters_in : Packet → List (List ℕ)
filters_in (p.Unsubscribe id filters) = filters
filters_in _ = []

abbrev pub sent_filters : List Effect → List (List ℕ)
sent_filters effects = flat_map filters_in (sends effects)

abbrev pub opened_by : ℕ → ℕ → Request → List (List ℕ) → Option ℕ → List Pending
opened_by task seq request filters None = []
opened_by task seq request filters (Some id) = record { id = id; task = task; seq = seq; request = request; sent_filters = filters } ∷ []

-- the command that an entry opens: a Take with a Send of its own packet
abbrev pub opens : Cause → List Effect → List Pending
opens (c.Take task seq request) effects = opened_by task seq request (sent_filters effects) (sent_id effects)
opens _ effects = []

-- whether an effect completes command seq of a task
abbrev pub completes : ℕ → ℕ → Effect → Bool
completes task seq (f.Done t s outcome) = t == task && s == seq
completes task seq _ = false

abbrev pub stays_open : List Effect → Pending → Bool
stays_open effects command = not (list_any (completes command.task command.seq) effects)

-- a Take with a Send of its own packet and no Done yet
abbrev pub pending_of : List Entry → List Pending
pending_of [] = []
pending_of (e ∷ past) = filter (stays_open e.effects) (pending_of past ++ opens e.cause e.effects)
