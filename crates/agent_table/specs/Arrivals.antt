-- The table's rows for packets that arrive.
use Rattle.std.specs.Prelude.{ℕ, Bool, true, false, not, ◌==◌, nat_lt, List, [], ◌∷◌, ◌++◌, length, map, Option, Some, None, if◌then◌else◌, filter, find}
use Rattle.std.specs.List.{list_any}
use Rattle.mqtt_packet.specs.declared.qos.Qos.{Qos}
use Rattle.mqtt_packet.specs.declared.qos.Qos.TheVariants.{AtMostOnce, AtLeastOnce, ExactlyOnce}
use Rattle.mqtt_packet.specs.declared.packet.Packet.{Packet}
use Rattle.mqtt_packet.specs.declared.packet.Packet.TheVariants as p
use Rattle.mqtt_packet.specs.Spelling.{is_sound}
use Rattle.topic_filter.specs.Texts.{is_name}
use Rattle.agent_journal.specs.declared.request.Request.{Request}
use Rattle.agent_journal.specs.declared.request.Request.TheVariants as requests
use Rattle.agent_journal.specs.declared.outcome.Outcome.TheVariants as o
use Rattle.agent_journal.specs.declared.effect.Effect.{Effect}
use Rattle.agent_journal.specs.declared.effect.Effect.TheVariants as f
use Rattle.agent_journal.specs.declared.setup.Setup.{Setup}
use Rattle.agent_journal.specs.declared.setup.Phase.{Phase}
use Rattle.agent_journal.specs.declared.setup.Phase.TheVariants.{Down, Opening, Up, Spilled, Off}
use Rattle.agent_journal.specs.Readings.{Pending}
use Rattle.agent_table.specs.Deliveries.{publishes, is_open_publish, is_among, is_at_least_once, is_exactly_once}
use Rattle.agent_table.specs.Effects.{done, close, resume, renew, lose_session, pass}
use Rattle.agent_table.specs.Readings.{Readings}
use Rattle.agent_table.specs.Routes.{Renewal, asks_in}
use Rattle.agent_table.specs.Rows.{Row, to, when, ends}
use Rattle.agent_table.specs.Sizes.{Sizes}

-- ---- In Opening

-- A session that the agent doesn't know: it ends, and has nothing open yet.
abbrev pub ends_held : Setup → Readings → Option Row
ends_held s r = to Off (close s r)

-- CONNACK 0, first: without a session the agent is Up, with one it ends (held).
abbrev pub first_row : Setup → Readings → Bool → Option Row
first_row s r false = to Up []
first_row s r true = ends_held s r

-- CONNACK 0, not first: with the session what is open is sent again and unsure filters are renewed; without it open
-- publishes end and the filters of all routes are renewed (MQTT 3.1.1, sections 3.2.2.2 and 4.4).
abbrev pub resumed_row : Readings → Bool → Option Row
resumed_row r true = to Up (resume r ++ renew r r.unsure)
resumed_row r false = to Up (lose_session r ++ renew r r.renewable)

-- CONNACK (section 3.2), in the order: a code above 0; wiping; first; not first.
unfoldable pub connack_row : Setup → Readings → Bool → ℕ → Option Row
connack_row s r present code =
    if not (code == 0) then ends s r
    else if r.wiping then to Down (f.Send p.Disconnect ∷ [])
    else if r.first then first_row s r present
    else resumed_row r present

-- Any other packet is wrong: CONNACK is the first one that a server sends (section 3.2).
abbrev pub opening_row : Setup → Readings → Packet → Option Row
opening_row s r (p.ConnAck present code) = connack_row s r present code
opening_row s r _ = ends s r

-- ---- In Up

-- QoS 2 (section 4.3.3): a held identifier is answered again and not passed; without room the phase is Spilled.
abbrev pub received_row : Setup → Sizes → Readings → List ℕ → ℕ → List ℕ → Option Row
received_row s l r topic id payload =
    if is_among r.held id then to Up (f.Send (p.PubRec id) ∷ [])
    else if nat_lt (length r.held) l.inbound then to Up (pass s r ExactlyOnce topic payload ++ f.Send (p.PubRec id) ∷ [])
    else to Spilled []

abbrev pub message_row : Setup → Sizes → Readings → Qos → List ℕ → ℕ → List ℕ → Option Row
message_row s l r AtMostOnce topic id payload = to Up (pass s r AtMostOnce topic payload)
message_row s l r AtLeastOnce topic id payload = to Up (pass s r AtLeastOnce topic payload ++ f.Send (p.PubAck id) ∷ [])
message_row s l r ExactlyOnce topic id payload = received_row s l r topic id payload

-- PUBLISH (section 3.3). One whose topic isn't a name is wrong.
unfoldable pub publish_row : Setup → Sizes → Readings → Qos → List ℕ → ℕ → List ℕ → Option Row
publish_row s l r qos topic id payload = if is_name topic then message_row s l r qos topic id payload else ends s r

-- these commands are done
abbrev pub all_done : List Pending → List Effect
all_done commands = map (done o.Done) commands

-- the open commands of this identifier; there is at most one
abbrev pub at : ℕ → List Pending → List Pending
at n commands = filter (λ command. command.id == n) commands

-- those of them that are publishes at such a quality of service
abbrev pub publishes_at : (Qos → Bool) → ℕ → List Pending → List Pending
publishes_at qos n commands = filter (λ command. publishes qos command.request) (at n commands)

-- PUBACK (section 3.4) of an open QoS 1 publish
unfoldable pub puback_row : Readings → ℕ → Option Row
puback_row r n = to Up (all_done (publishes_at is_at_least_once n r.pending))

-- PUBREC (section 3.5) of an open QoS 2 publish, sent or released
unfoldable pub pubrec_row : Readings → ℕ → Option Row
pubrec_row r n = to Up (if is_open_publish is_exactly_once r.pending n then f.Send (p.PubRel n) ∷ [] else [])

-- PUBCOMP (section 3.7) of a released publish
unfoldable pub pubcomp_row : Readings → ℕ → Option Row
pubcomp_row r n = to Up (if is_among r.released n then all_done (publishes_at is_exactly_once n r.pending) else [])

abbrev pub is_subscribe : Request → Bool
is_subscribe (requests.Subscribe asks) = true
is_subscribe _ = false

abbrev pub is_unsubscribe : Request → Bool
is_unsubscribe (requests.Unsubscribe filters) = true
is_unsubscribe _ = false

abbrev pub counts_of : List Pending → List ℕ
counts_of commands = map (λ command. length (asks_in command.request)) commands

abbrev pub renewal_counts : Option Renewal → List ℕ
renewal_counts None = []
renewal_counts (Some renewal) = length renewal.asks ∷ []

-- how many filters each open subscribe and each open renewal of this identifier has; there is at most one of them
abbrev pub awaited : Readings → ℕ → List ℕ
awaited r n = counts_of (filter (λ command. is_subscribe command.request) (at n r.pending)) ++ renewal_counts (find (λ renewal. renewal.id == n) r.renewals)

-- the subscribes are granted these codes
abbrev pub all_granted : List ℕ → List Pending → List Effect
all_granted codes commands = map (done (o.Granted codes)) commands

-- SUBACK (section 3.9), with as many codes as filters; with another number it is wrong.
unfoldable pub suback_row : Setup → Readings → ℕ → List ℕ → Option Row
suback_row s r n codes =
    if list_any (λ count. not (count == length codes)) (awaited r n) then ends s r
    else to Up (all_granted codes (filter (λ command. is_subscribe command.request) (at n r.pending)))

-- UNSUBACK (section 3.11)
unfoldable pub unsuback_row : Readings → ℕ → Option Row
unsuback_row r n = to Up (all_done (filter (λ command. is_unsubscribe command.request) (at n r.pending)))

abbrev pub up_row : Setup → Sizes → Readings → Packet → Option Row
up_row s l r (p.Publish dup qos retain topic id payload) = publish_row s l r qos topic id payload
up_row s l r (p.PubAck id) = puback_row r id
up_row s l r (p.PubRec id) = pubrec_row r id
up_row s l r (p.PubRel id) = to Up (f.Send (p.PubComp id) ∷ [])
up_row s l r (p.PubComp id) = pubcomp_row r id
up_row s l r (p.SubAck id codes) = suback_row s r id codes
up_row s l r (p.UnsubAck id) = unsuback_row r id
up_row s l r p.PingResp = to Up []
up_row s l r _ = ends s r

-- ---- In any phase

abbrev pub arrived_in : Setup → Sizes → Readings → Packet → Phase → Option Row
arrived_in s l r packet Down = None
arrived_in s l r packet Opening = opening_row s r packet
arrived_in s l r packet Up = up_row s l r packet
arrived_in s l r packet Spilled = None
arrived_in s l r packet Off = None

-- an arrived packet, which has to be sound
unfoldable pub arrived_row : Setup → Sizes → Readings → Packet → Option Row
arrived_row s l r packet = when (is_sound packet) (arrived_in s l r packet r.phase)
