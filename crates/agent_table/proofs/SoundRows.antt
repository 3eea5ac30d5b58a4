-- The packets that a row sends have a spelling, and the identifiers that they draw are at most 65,535, where what the row
-- reads is well.
use Rattle.std.proofs.Common.{◌≡◌, ℕ, zero, suc, ◌<◌, ◌≤◌, Bool, true, false, cond, List, [], ◌∷◌, ◌++◌, map, take, drop, filter, length, Option, Some, None, refl, arith}
use Rattle.std.specs.Prelude.{◌&&◌, ◌==◌, not, nat_lt, nat_le}
use Rattle.std.specs.List.{list_all, list_any, flat_map, AllByRecursion}
use Rattle.std.proofs.lemmas.Bool.{leb-true}
use Rattle.std.proofs.lemmas.List.{length-take}
use Rattle.std.proofs.lemmas.List.Sums.{length-filter, count_by-le-length}
use Rattle.mqtt_packet.specs.declared.qos.Qos.{Qos}
use Rattle.mqtt_packet.specs.declared.qos.Qos.TheVariants.{AtMostOnce, AtLeastOnce, ExactlyOnce}
use Rattle.mqtt_packet.specs.declared.packet.Packet.{Packet}
use Rattle.mqtt_packet.specs.declared.packet.Packet.TheVariants as p
use Rattle.mqtt_packet.specs.declared.will.Ask.{Ask}
use Rattle.mqtt_packet.specs.Spelling.{is_sound, has_fields, is_delivery, is_string, spelling}
use Rattle.topic_filter.specs.Texts.{is_name}
use Rattle.agent_journal.specs.declared.request.Request.{Request}
use Rattle.agent_journal.specs.declared.request.Request.TheVariants as requests
use Rattle.agent_journal.specs.declared.message.Message.{Message}
use Rattle.agent_journal.specs.declared.outcome.Outcome.{Outcome}
use Rattle.agent_journal.specs.declared.outcome.Outcome.TheVariants as o
use Rattle.agent_journal.specs.declared.entry.Cause.{Cause}
use Rattle.agent_journal.specs.declared.entry.Cause.TheVariants as c
use Rattle.agent_journal.specs.declared.entry.Why.{Why}
use Rattle.agent_journal.specs.declared.entry.Why.TheVariants as w
use Rattle.agent_journal.specs.declared.effect.Effect.{Effect}
use Rattle.agent_journal.specs.declared.effect.Effect.TheVariants as f
use Rattle.agent_journal.specs.declared.setup.Setup.{Setup}
use Rattle.agent_journal.specs.declared.setup.Phase.{Phase}
use Rattle.agent_journal.specs.declared.setup.Phase.TheVariants.{Down, Opening, Up, Spilled, Off}
use Rattle.agent_journal.specs.Readings.{Pending}
use Rattle.agent_journal.specs.Requests.{is_valid, is_few, is_wanted}
use Rattle.agent_journal.specs.Setups.{is_client}
use Rattle.std.proofs.lemmas.Bool.{and_parts}
use Rattle.agent_table.proofs.SoundPackets.{connect_sound}
use Rattle.agent_table.specs.Arrivals.{arrived_row, arrived_in, opening_row, up_row, connack_row, first_row, resumed_row, publish_row, message_row, puback_row, pubrec_row, pubcomp_row, suback_row, unsuback_row, awaited, is_subscribe, at, publishes_at, all_done, all_granted}
use Rattle.agent_table.specs.Breaks.{opened_row, broke_row, fault_row, end_row, idle_row, bytes_row, keep_alive_row, in_full_row, gave_up_row, tick_row, finish_row, down}
use Rattle.agent_table.specs.Deliveries.{is_among, is_open_publish, is_exactly_once}
use Rattle.agent_table.specs.Effects.{done, cancel_all, close, closed_below, resume, again_by, renew, subscribes, pass, passed_below, is_reached, used, fresh_id}
use Rattle.agent_table.specs.Identifiers.{fresh}
use Rattle.agent_table.specs.Readings.{Readings}
use Rattle.agent_table.specs.Rows.{Row, to, when, ends}
use Rattle.agent_table.specs.Sends.{drawn_by}
use Rattle.agent_table.specs.Sizes.{Sizes}
use Rattle.agent_table.specs.Table.{row_of, cause_row}
use Rattle.agent_table.specs.Takes as takes
use Rattle.agent_table.proofs.Fresh.{fresh_in_range}
use Rattle.agent_table.proofs.SoundPackets.{identifier, puback_sound, pubrec_sound, pubrel_sound, pubcomp_sound, ping_sound, disconnect_sound, publish_sound, IsWellAsk, IsWellFilter, subscribe_sound, unsubscribe_sound}

-- ---- What is well

abbrev pub IsLow : ℕ → Type 0
IsLow n = n ≤ 65535

abbrev pub IsSome : ℕ → Type 0
IsSome id = 0 < id

-- what is open isn't a publish at quality of service 0
abbrev pub IsAwaited : Request → Type 0
IsAwaited (requests.Publish AtMostOnce topic payload) = ⊥
IsAwaited (requests.Publish AtLeastOnce topic payload) = Unit {0}
IsAwaited (requests.Publish ExactlyOnce topic payload) = Unit {0}
IsAwaited (requests.Subscribe asks) = Unit {0}
IsAwaited (requests.Unsubscribe filters) = Unit {0}
IsAwaited requests.Ping = Unit {0}
IsAwaited requests.Disconnect = Unit {0}
IsAwaited requests.Terminate = Unit {0}
IsAwaited requests.Leave = Unit {0}

pub record IsWellPending (command : Pending) : Type 0 where
  pub id : 0 < command.id
  pub valid : is_valid command.request ≡ true
  pub awaited : IsAwaited command.request

pub record IsWell (r : Readings) : Type 0 where
  pub pending : AllByRecursion IsWellPending r.pending
  pub released : AllByRecursion IsSome r.released
  pub drawn : r.last_drawn ≤ 65535
  pub renewable : AllByRecursion IsWellAsk r.renewable
  pub unsure : AllByRecursion IsWellAsk r.unsure

-- A packet that is sent has a spelling, and the identifiers that it draws are low.
abbrev pub IsWellSent : Packet → Type 0
IsWellSent packet = (is_sound packet ≡ true) × AllByRecursion IsLow (drawn_by packet)

abbrev pub IsWellEffect : Effect → Type 0
IsWellEffect (f.Send packet) = IsWellSent packet
IsWellEffect (f.Done task seq outcome) = Unit {0}
IsWellEffect (f.Pass task message) = Unit {0}
IsWellEffect (f.Closed task) = Unit {0}

abbrev pub AreWell : List Effect → Type 0
AreWell effects = AllByRecursion IsWellEffect effects

abbrev pub IsWellRow : Option Row → Type 0
IsWellRow None = Unit {0}
IsWellRow (Some row) = AreWell row.effects

-- ---- Lists

pub all_both : {X : Type 0} (P : X → Type 0) (xs ys : List X) → AllByRecursion P xs → AllByRecursion P ys → AllByRecursion P (xs ++ ys)
all_both P [] ys h k = k
all_both P (x ∷ xs) ys h k = (h.0, all_both P xs ys h.1 k)

kept_by : {X : Type 0} (P : X → Type 0) (b : Bool) (x : X) (xs : List X) → P x → AllByRecursion P xs → AllByRecursion P (cond b (x ∷ xs) xs)
kept_by P true x xs h k = (h, k)
kept_by P false x xs h k = k

pub all_kept : {X : Type 0} (P : X → Type 0) (keeps : X → Bool) (xs : List X) → AllByRecursion P xs → AllByRecursion P (filter keeps xs)
all_kept P keeps [] h = tt
all_kept P keeps (x ∷ xs) h = kept_by P (keeps x) x (filter keeps xs) h.0 (all_kept P keeps xs h.1)

passed_by : {X : Type 0} (test : X → Bool) (b : Bool) (x : X) (xs : List X) → test x ≡ b → AllByRecursion (λ y. test y ≡ true) xs → AllByRecursion (λ y. test y ≡ true) (cond b (x ∷ xs) xs)
passed_by test true x xs e all = (e, all)
passed_by test false x xs e all = all

pub all_passed : {X : Type 0} (test : X → Bool) (xs : List X) → AllByRecursion (λ x. test x ≡ true) (filter test xs)
all_passed test [] = tt
all_passed test (x ∷ xs) = passed_by test (test x) x (filter test xs) refl (all_passed test xs)

pub few_kept : {X : Type 0} (keeps : X → Bool) (xs : List X) → length (filter keeps xs) ≤ length xs
few_kept keeps xs = let size = length-filter keeps xs in let most = count_by-le-length keeps xs in omega (arith, size, most)

all_taken : {X : Type 0} (P : X → Type 0) (n : ℕ) (xs : List X) → AllByRecursion P xs → AllByRecursion P (take n xs)
all_taken P zero xs h = tt
all_taken P (suc n) [] h = tt
all_taken P (suc n) (x ∷ xs) h = (h.0, all_taken P n xs h.1)

all_dropped : {X : Type 0} (P : X → Type 0) (n : ℕ) (xs : List X) → AllByRecursion P xs → AllByRecursion P (drop n xs)
all_dropped P zero xs h = h
all_dropped P (suc n) [] h = tt
all_dropped P (suc n) (x ∷ xs) h = all_dropped P n xs h.1

pub all_tested : {X : Type 0} (test : X → Bool) (xs : List X) → list_all test xs ≡ true → AllByRecursion (λ x. test x ≡ true) xs
all_tested test [] h = tt
all_tested test (x ∷ xs) h = let two = and_parts (test x) (list_all test xs) h in (two.0, all_tested test xs two.1)

-- ---- Effects

well_both : (xs ys : List Effect) → AreWell xs → AreWell ys → AreWell (xs ++ ys)
well_both xs ys h k = all_both IsWellEffect xs ys h k

well_done : (outcome : Outcome) (commands : List Pending) → AreWell (map (done outcome) commands)
well_done outcome [] = tt
well_done outcome (command ∷ commands) = (tt, well_done outcome commands)

one_closed : (gone : Bool) (n : ℕ) → AreWell (cond gone [] (f.Closed n ∷ []))
one_closed true n = tt
one_closed false n = (tt, tt)

well_closed : (n : ℕ) (left : ℕ → Bool) → AreWell (closed_below n left)
well_closed zero left = tt
well_closed (suc n) left = well_both (closed_below n left) (cond (left n) [] (f.Closed n ∷ [])) (well_closed n left) (one_closed (left n) n)

well_when : (b : Bool) (row : Option Row) → (b ≡ true → IsWellRow row) → IsWellRow (when b row)
well_when true row h = h refl
well_when false row h = tt

well_if : (b : Bool) (x y : Option Row) → IsWellRow x → IsWellRow y → IsWellRow (cond b x y)
well_if true x y h k = h
well_if false x y h k = k

effects_if : (b : Bool) (x y : List Effect) → (b ≡ true → AreWell x) → AreWell y → AreWell (cond b x y)
effects_if true x y h k = h refl
effects_if false x y h k = k

-- a sound packet's fields
fields_of : (packet : Packet) → is_sound packet ≡ true → has_fields packet ≡ true
fields_of packet e = (and_parts (has_fields packet) (nat_le (length (spelling packet)) 262144) e).0

-- ---- Sending again

one_again : (id : ℕ) (request : Request) → 0 < id → is_valid request ≡ true → IsAwaited request → AreWell (again_by id request)
one_again id (requests.Publish AtMostOnce topic payload) low valid kept = absurd kept
one_again id (requests.Publish AtLeastOnce topic payload) low valid kept = ((publish_sound true AtLeastOnce topic id payload valid (identifier id low), tt), tt)
one_again id (requests.Publish ExactlyOnce topic payload) low valid kept = ((publish_sound true ExactlyOnce topic id payload valid (identifier id low), tt), tt)
one_again id (requests.Subscribe asks) low valid kept = tt
one_again id (requests.Unsubscribe filters) low valid kept = tt
one_again id requests.Ping low valid kept = tt
one_again id requests.Disconnect low valid kept = tt
one_again id requests.Terminate low valid kept = tt
one_again id requests.Leave low valid kept = tt

well_again : (commands : List Pending) → AllByRecursion IsWellPending commands → AreWell (flat_map (λ command. again_by command.id command.request) commands)
well_again [] all = tt
well_again (command ∷ commands) all =
    well_both (again_by command.id command.request) (flat_map (λ other. again_by other.id other.request) commands) (one_again command.id command.request all.0.id all.0.valid all.0.awaited) (well_again commands all.1)

well_released : (ids : List ℕ) → AllByRecursion IsSome ids → AreWell (map (λ id. f.Send (p.PubRel id)) ids)
well_released [] all = tt
well_released (id ∷ ids) all = ((pubrel_sound id (identifier id all.0), tt), well_released ids all.1)

some_taken : (ask : Ask) (asks : List Ask) → 0 < length (take 8 (ask ∷ asks))
some_taken ask asks = omega (arith, length-take 8 (ask ∷ asks))

few_taken : (asks : List Ask) → length (take 8 asks) ≤ 8
few_taken asks = omega (arith, length-take 8 asks)

well_subscribed : (k last : ℕ) (in_use : List ℕ) (asks : List Ask) → last ≤ 65535 → AllByRecursion IsWellAsk asks → AreWell (subscribes k last in_use asks)
well_subscribed zero last in_use asks low all = tt
well_subscribed (suc k) last in_use [] low all = tt
well_subscribed (suc k) last in_use (ask ∷ asks) low all =
    let id = fresh_in_range last in_use low in (
      (subscribe_sound (fresh last in_use) (take 8 (ask ∷ asks)) id.0 (some_taken ask asks) (few_taken (ask ∷ asks)) (all_taken IsWellAsk 8 (ask ∷ asks) all), (id.1, tt)),
      well_subscribed k (fresh last in_use) (fresh last in_use ∷ in_use) (drop 8 (ask ∷ asks)) id.1 (all_dropped IsWellAsk 8 (ask ∷ asks) all),
    )

-- ---- Rows

module _ (s : Setup) (l : Sizes) (r : Readings) (client : is_client s.client ≡ true) (well : IsWell r) where
  well_close : AreWell (close s r)
  well_close = well_closed s.tasks r.left

  well_ends : IsWellRow (ends s r)
  well_ends = well_both (cancel_all r) (close s r) (well_done o.Cancelled r.pending) well_close

  well_renewed : (asks : List Ask) → AllByRecursion IsWellAsk asks → AreWell (renew r asks)
  well_renewed asks all = well_subscribed (length asks) r.last_drawn (used r) asks well.drawn all

  well_first : (present : Bool) → IsWellRow (first_row s r present)
  well_first false = tt
  well_first true = well_close

  well_resume : AreWell (resume r)
  well_resume =
      let keeps : Pending → Bool = λ command. not (is_among r.released command.id) in
      well_both (map (λ id. f.Send (p.PubRel id)) r.released) (flat_map (λ command. again_by command.id command.request) (filter keeps r.pending)) (well_released r.released well.released)
      (well_again (filter keeps r.pending) (all_kept IsWellPending keeps r.pending well.pending))

  well_resumed : (present : Bool) → IsWellRow (resumed_row r present)
  well_resumed true = well_both (resume r) (renew r r.unsure) well_resume (well_renewed r.unsure well.unsure)
  well_resumed false = well_both _ (renew r r.renewable) (well_done o.SessionLost _) (well_renewed r.renewable well.renewable)

  well_connack : (present : Bool) (code : ℕ) → IsWellRow (connack_row s r present code)
  unfolding connack_row
  well_connack present code =
      well_if (not (code == 0)) (ends s r) _ well_ends
      (well_if r.wiping (to Down (f.Send p.Disconnect ∷ [])) _ ((disconnect_sound, tt), tt) (well_if r.first (first_row s r present) (resumed_row r present) (well_first present) (well_resumed present)))

  well_opening : (packet : Packet) → IsWellRow (opening_row s r packet)
  well_opening (p.Connect clean keep_alive client will user password) = well_ends
  well_opening (p.ConnAck present code) = well_connack present code
  well_opening (p.Publish dup qos retain topic id payload) = well_ends
  well_opening (p.PubAck id) = well_ends
  well_opening (p.PubRec id) = well_ends
  well_opening (p.PubRel id) = well_ends
  well_opening (p.PubComp id) = well_ends
  well_opening (p.Subscribe id asks) = well_ends
  well_opening (p.SubAck id codes) = well_ends
  well_opening (p.Unsubscribe id filters) = well_ends
  well_opening (p.UnsubAck id) = well_ends
  well_opening p.PingReq = well_ends
  well_opening p.PingResp = well_ends
  well_opening p.Disconnect = well_ends

  one_passed : (reached : Bool) (n : ℕ) (message : Message) → AreWell (cond reached (f.Pass n message ∷ []) [])
  one_passed true n message = (tt, tt)
  one_passed false n message = tt

  well_passed : (n : ℕ) (message : Message) → AreWell (passed_below n r message)
  well_passed zero message = tt
  well_passed (suc n) message = well_both (passed_below n r message) (cond (is_reached r message.topic n) (f.Pass n message ∷ []) []) (well_passed n message) (one_passed (is_reached r message.topic n) n message)

  well_pass : (qos : Qos) (topic payload : List ℕ) → AreWell (pass s r qos topic payload)
  well_pass qos topic payload = well_passed s.tasks (record { topic = topic; qos = qos; payload = payload })

  -- a message that arrived has an identifier above quality of service 0
  well_message : (dup : Bool) (qos : Qos) (topic : List ℕ) (id : ℕ) (payload : List ℕ) → is_delivery dup qos id ≡ true → IsWellRow (message_row s l r qos topic id payload)
  well_message dup AtMostOnce topic id payload e = well_pass AtMostOnce topic payload
  well_message dup AtLeastOnce topic id payload e = well_both (pass s r AtLeastOnce topic payload) (f.Send (p.PubAck id) ∷ []) (well_pass AtLeastOnce topic payload) ((puback_sound id e, tt), tt)
  well_message dup ExactlyOnce topic id payload e =
      well_if (is_among r.held id) (to Up (f.Send (p.PubRec id) ∷ [])) _ ((pubrec_sound id e, tt), tt)
      (well_if (nat_lt (length r.held) l.inbound) (to Up (pass s r ExactlyOnce topic payload ++ f.Send (p.PubRec id) ∷ [])) (to Spilled [])
      (well_both (pass s r ExactlyOnce topic payload) (f.Send (p.PubRec id) ∷ []) (well_pass ExactlyOnce topic payload) ((pubrec_sound id e, tt), tt)) tt)

  well_up : (packet : Packet) → is_sound packet ≡ true → IsWellRow (up_row s l r packet)
  unfolding publish_row puback_row pubrec_row pubcomp_row suback_row unsuback_row
  well_up (p.Connect clean keep_alive client will user password) e = well_ends
  well_up (p.ConnAck present code) e = well_ends
  well_up (p.Publish dup qos retain topic id payload) e =
      well_if (is_name topic) (message_row s l r qos topic id payload) (ends s r)
      (well_message dup qos topic id payload (and_parts (is_string topic) (is_delivery dup qos id) (fields_of (p.Publish dup qos retain topic id payload) e)).1) well_ends
  well_up (p.PubAck id) e = well_done o.Done _
  well_up (p.PubRec id) e = effects_if (is_open_publish is_exactly_once r.pending id) (f.Send (p.PubRel id) ∷ []) [] (λ open_is. ((pubrel_sound id (fields_of (p.PubRec id) e), tt), tt)) tt
  well_up (p.PubRel id) e = ((pubcomp_sound id (fields_of (p.PubRel id) e), tt), tt)
  well_up (p.PubComp id) e = effects_if (is_among r.released id) (all_done (publishes_at is_exactly_once id r.pending)) [] (λ released. well_done o.Done _) tt
  well_up (p.Subscribe id asks) e = well_ends
  well_up (p.SubAck id codes) e =
      well_if (list_any (λ count. not (count == length codes)) (awaited r id)) (ends s r) (to Up (all_granted codes (filter (λ command. is_subscribe command.request) (at id r.pending)))) well_ends (well_done (o.Granted codes) _)
  well_up (p.Unsubscribe id filters) e = well_ends
  well_up (p.UnsubAck id) e = well_done o.Done _
  well_up p.PingReq e = well_ends
  well_up p.PingResp e = tt
  well_up p.Disconnect e = well_ends

  well_arrived : (packet : Packet) (phase : Phase) → is_sound packet ≡ true → IsWellRow (arrived_in s l r packet phase)
  well_arrived packet Down e = tt
  well_arrived packet Opening e = well_opening packet
  well_arrived packet Up e = well_up packet e
  well_arrived packet Spilled e = tt
  well_arrived packet Off e = tt

  -- ---- What happens to the connection

  well_down : IsWellRow (down r)
  well_down = well_done o.LinkLost _

  well_fault : (phase : Phase) → IsWellRow (fault_row s r phase)
  unfolding fault_row
  well_fault Down = well_when _ (to Down []) (λ e. tt)
  well_fault Opening = well_down
  well_fault Up = well_down
  well_fault Spilled = well_down
  well_fault Off = well_when _ (to Off []) (λ e. tt)

  well_end : (phase : Phase) → IsWellRow (end_row r phase)
  unfolding end_row
  well_end Down = tt
  well_end Opening = well_down
  well_end Up = well_down
  well_end Spilled = tt
  well_end Off = tt

  well_idle : (phase : Phase) → IsWellRow (idle_row r phase)
  unfolding idle_row
  well_idle Down = tt
  well_idle Opening = well_down
  well_idle Up = well_when _ (down r) (λ e. well_down)
  well_idle Spilled = tt
  well_idle Off = tt

  well_bytes : (phase : Phase) → IsWellRow (bytes_row s r phase)
  unfolding bytes_row
  well_bytes Down = tt
  well_bytes Opening = well_ends
  well_bytes Up = well_ends
  well_bytes Spilled = tt
  well_bytes Off = tt

  well_keep_alive : (time : ℕ) (phase : Phase) → IsWellRow (keep_alive_row r time phase)
  unfolding keep_alive_row
  well_keep_alive time Down = tt
  well_keep_alive time Opening = tt
  well_keep_alive time Up = well_when _ (down r) (λ e. well_down)
  well_keep_alive time Spilled = tt
  well_keep_alive time Off = tt

  well_in_full : (phase : Phase) → IsWellRow (in_full_row r phase)
  unfolding in_full_row
  well_in_full Down = tt
  well_in_full Opening = tt
  well_in_full Up = tt
  well_in_full Spilled = well_down
  well_in_full Off = tt

  well_broke : (time : ℕ) (why : Why) → IsWellRow (broke_row s r time why)
  well_broke time w.Fault = well_fault r.phase
  well_broke time w.End = well_end r.phase
  well_broke time w.Idle = well_idle r.phase
  well_broke time (w.Bad offset) = well_bytes r.phase
  well_broke time (w.TooLong size) = well_bytes r.phase
  well_broke time w.KeepAlive = well_keep_alive time r.phase
  well_broke time w.InFull = well_in_full r.phase

  well_opened : (phase : Phase) → IsWellRow (opened_row s r phase)
  unfolding opened_row
  well_opened Down = well_when _ (to Opening _) (λ e. ((connect_sound s r.wiping client, tt), tt))
  well_opened Opening = tt
  well_opened Up = tt
  well_opened Spilled = tt
  well_opened Off = tt

  well_gave_up : (phase : Phase) → IsWellRow (gave_up_row s r phase)
  unfolding gave_up_row
  well_gave_up Down = well_when _ (ends s r) (λ e. well_ends)
  well_gave_up Opening = tt
  well_gave_up Up = tt
  well_gave_up Spilled = tt
  well_gave_up Off = tt

  well_tick : (time : ℕ) (phase : Phase) → IsWellRow (tick_row s r time phase)
  unfolding tick_row
  well_tick time Down = tt
  well_tick time Opening = tt
  well_tick time Up = well_when _ (to Up _) (λ e. ((ping_sound, tt), tt))
  well_tick time Spilled = tt
  well_tick time Off = tt

  well_finish : (phase : Phase) → IsWellRow (finish_row s r phase)
  unfolding finish_row
  well_finish Down = tt
  well_finish Opening = tt
  well_finish Up = well_when _ (to Off _) (λ e. ((disconnect_sound, tt), tt))
  well_finish Spilled = tt
  well_finish Off = tt

  -- ---- Takes

  well_delivered : (task seq : ℕ) (qos : Qos) (topic payload : List ℕ) → IsWellSent (p.Publish false qos false topic (fresh_id r) payload) → AreWell (takes.delivered l r task seq qos topic payload)
  well_delivered task seq qos topic payload h = effects_if (takes.is_full l r) (takes.at_once task seq o.NoRoom) _ (λ e. (tt, tt)) (h, tt)

  well_publish : (task seq : ℕ) (qos : Qos) (topic payload : List ℕ) → is_valid (requests.Publish qos topic payload) ≡ true → IsWellRow (takes.publish_row l r task seq qos topic payload)
  unfolding takes.publish_row
  well_publish task seq AtMostOnce topic payload valid = ((publish_sound false AtMostOnce topic 0 payload valid refl, tt), (tt, tt))
  well_publish task seq AtLeastOnce topic payload valid =
      let id = fresh_in_range r.last_drawn (used r) well.drawn in
      well_delivered task seq AtLeastOnce topic payload (publish_sound false AtLeastOnce topic (fresh_id r) payload valid (identifier (fresh_id r) id.0), (id.1, tt))
  well_publish task seq ExactlyOnce topic payload valid =
      let id = fresh_in_range r.last_drawn (used r) well.drawn in
      well_delivered task seq ExactlyOnce topic payload (publish_sound false ExactlyOnce topic (fresh_id r) payload valid (identifier (fresh_id r) id.0), (id.1, tt))

  well_unsubscribed : (task seq : ℕ) (filters : List (List ℕ)) → length filters ≤ 8 → AllByRecursion IsWellFilter filters → AreWell (takes.unsubscribed l r task seq filters)
  well_unsubscribed task seq [] few all = (tt, tt)
  well_unsubscribed task seq (topics ∷ filters) few all =
      let id = fresh_in_range r.last_drawn (used r) well.drawn in
      effects_if (takes.is_full l r) (takes.at_once task seq o.NoRoom) _ (λ e. (tt, tt)) ((unsubscribe_sound (fresh_id r) (topics ∷ filters) id.0 (omega arith) few all, (id.1, tt)), tt)

  well_disconnect : (task seq : ℕ) → IsWellRow (takes.disconnect_row s r task seq)
  unfolding takes.disconnect_row
  well_disconnect task seq = well_both (cancel_all r) (f.Send p.Disconnect ∷ f.Done task seq o.Done ∷ close s r) (well_done o.Cancelled r.pending) ((disconnect_sound, tt), (tt, well_close))

  well_request : (task seq : ℕ) (request : Request) → is_valid request ≡ true → IsWellRow (takes.up_row s l r task seq request)
  unfolding takes.subscribe_row takes.unsubscribe_row is_valid
  well_request task seq (requests.Publish qos topic payload) valid = well_publish task seq qos topic payload valid
  well_request task seq (requests.Subscribe asks) valid =
      let two = and_parts (is_few (length asks)) (list_all (λ ask. is_wanted ask.filter) asks) valid in
      let few = and_parts (nat_le 1 (length asks)) (nat_le (length asks) 8) two.0 in
      let id = fresh_in_range r.last_drawn (used r) well.drawn in
      effects_if (takes.is_full l r) (takes.at_once task seq o.NoRoom) _ (λ e. (tt, tt))
      (effects_if (nat_lt l.routes (length (takes.routes_with r task asks))) (takes.at_once task seq o.NoRoute) _ (λ e. (tt, tt))
      ((subscribe_sound (fresh_id r) asks id.0 (omega (arith, leb-true 1 (length asks) few.0)) (leb-true (length asks) 8 few.1) (all_tested (λ ask. is_wanted ask.filter) asks two.1), (id.1, tt)), tt))
  well_request task seq (requests.Unsubscribe filters) valid =
      let two = and_parts (is_few (length filters)) (list_all is_wanted filters) valid in
      let few = and_parts (nat_le 1 (length filters)) (nat_le (length filters) 8) two.0 in
      let keeps : List ℕ → Bool = λ topics. not (takes.other_has r task topics) in
      well_unsubscribed task seq (takes.own_filters r task filters) (omega (arith, leb-true (length filters) 8 few.1, few_kept keeps filters)) (all_kept IsWellFilter keeps filters (all_tested is_wanted filters two.1))
  well_request task seq requests.Ping valid = ((ping_sound, tt), (tt, tt))
  well_request task seq requests.Disconnect valid = well_disconnect task seq
  well_request task seq requests.Terminate valid = well_disconnect task seq
  well_request task seq requests.Leave valid = tt

  well_off : (task seq : ℕ) (request : Request) → IsWellRow (takes.off_row r task seq request)
  well_off task seq (requests.Publish qos topic payload) = (tt, tt)
  well_off task seq (requests.Subscribe asks) = (tt, tt)
  well_off task seq (requests.Unsubscribe filters) = (tt, tt)
  well_off task seq requests.Ping = (tt, tt)
  well_off task seq requests.Disconnect = (tt, tt)
  well_off task seq requests.Terminate = (tt, tt)
  well_off task seq requests.Leave = tt

  well_take : (task seq : ℕ) (request : Request) (phase : Phase) → is_valid request ≡ true → IsWellRow (takes.take_in s l r task seq request phase)
  well_take task seq request Down valid = tt
  well_take task seq request Opening valid = tt
  well_take task seq request Up valid = well_request task seq request valid
  well_take task seq request Spilled valid = tt
  well_take task seq request Off valid = well_off task seq request

  well_cause : (time : ℕ) (cause : Cause) → IsWellRow (cause_row s l r time cause)
  unfolding takes.take_row takes.may_take arrived_row
  well_cause time c.Opened = well_opened r.phase
  well_cause time (c.Take task seq request) =
      well_when _ (takes.take_in s l r task seq request r.phase)
      (λ may. well_take task seq request r.phase (and_parts (nat_lt task s.tasks && not (r.left task) && (seq == r.takes task)) (is_valid request) may).1)
  well_cause time (c.Arrived packet) = well_when (is_sound packet) (arrived_in s l r packet r.phase) (λ e. well_arrived packet r.phase e)
  well_cause time (c.Broke why) = well_broke time why
  well_cause time c.Tick = well_tick time r.phase
  well_cause time c.GaveUp = well_gave_up r.phase
  well_cause time c.Finish = well_finish r.phase

  pub well_row : (time : ℕ) (cause : Cause) → IsWellRow (row_of s l r time cause)
  unfolding row_of
  well_row time cause = well_when (nat_le r.last_time time) (cause_row s l r time cause) (λ e. well_cause time cause)
