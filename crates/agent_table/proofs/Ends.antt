-- Where rows lead: to Off only with all that is open completed, and to Up only from Up or by an accepting CONNACK.
use Rattle.std.proofs.Common.{◌≡◌, ◌⊎◌, ℕ, ◌+◌, ◌≤◌, Bool, true, false, cond, List, [], ◌∷◌, ◌++◌, Option, Some, None, refl, arith}
use Rattle.std.specs.Prelude.{◌&&◌, ◌==◌, not, nat_lt, nat_le, length}
use Rattle.std.specs.List.{list_any}
use mathlib.Core.Logic.{inl, inr}
use Rattle.mqtt_packet.specs.declared.qos.Qos.{Qos}
use Rattle.mqtt_packet.specs.declared.qos.Qos.TheVariants.{AtMostOnce, AtLeastOnce, ExactlyOnce}
use Rattle.mqtt_packet.specs.declared.packet.Packet.{Packet}
use Rattle.mqtt_packet.specs.declared.packet.Packet.TheVariants as p
use Rattle.mqtt_packet.specs.Spelling.{is_sound}
use Rattle.topic_filter.specs.Texts.{is_name}
use Rattle.agent_journal.specs.declared.request.Request.{Request}
use Rattle.agent_journal.specs.declared.request.Request.TheVariants as requests
use Rattle.agent_journal.specs.declared.outcome.Outcome.{Outcome}
use Rattle.agent_journal.specs.declared.outcome.Outcome.TheVariants as o
use Rattle.agent_journal.specs.declared.entry.Cause.{Cause}
use Rattle.agent_journal.specs.declared.entry.Cause.TheVariants as c
use Rattle.agent_journal.specs.declared.entry.Why.{Why}
use Rattle.agent_journal.specs.declared.entry.Why.TheVariants as w
use Rattle.agent_journal.specs.declared.effect.Effect.{Effect}
use Rattle.agent_journal.specs.declared.effect.Effect.TheVariants as f
use Rattle.agent_journal.specs.declared.setup.Setup.{Setup}
use Rattle.agent_journal.specs.declared.setup.Phase.{Phase}
use Rattle.agent_journal.specs.declared.setup.Phase.TheVariants.{Down, Opening, Up, Spilled, Off}
use Rattle.agent_journal.specs.Readings.{Pending, completes, accepts}
use Rattle.agent_table.specs.Breaks.{all_left, is_none}
use Rattle.std.proofs.lemmas.Bool.{and_parts}
use Rattle.agent_table.proofs.Commands.{answered_in, answered_by}
use Rattle.agent_table.specs.Arrivals.{arrived_row, arrived_in, opening_row, up_row, connack_row, first_row, resumed_row, publish_row, message_row, puback_row, pubrec_row, pubcomp_row, suback_row, unsuback_row, awaited}
use Rattle.agent_table.specs.Breaks.{opened_row, broke_row, fault_row, end_row, idle_row, bytes_row, keep_alive_row, in_full_row, gave_up_row, tick_row, finish_row, down}
use Rattle.agent_table.specs.Deliveries.{is_among}
use Rattle.agent_table.specs.Effects.{cancel_all, close, lose_link, pass}
use Rattle.agent_table.specs.Readings.{Readings}
use Rattle.agent_table.specs.Rows.{Row, to, when, ends}
use Rattle.agent_table.specs.Sizes.{Sizes}
use Rattle.agent_table.specs.Table.{row_of, cause_row}
use Rattle.agent_table.specs.Takes as takes
use Rattle.agent_table.proofs.Counts.{opened, dones, count_append, count_more, all_dones}

-- an accepting CONNACK on a connection that isn't wiping
abbrev pub Accepts : Setup → Readings → Cause → Type 0
Accepts s r cause = (accepts cause ≡ true) × (r.wiping ≡ false)

-- what is open of command q of task t is completed by these effects, and so is what the cause takes
abbrev pub Completed : ℕ → ℕ → Readings → ℕ → List Effect → Type 0
Completed t q r own effects = opened t q r.pending + own ≤ dones t q effects

abbrev pub Leads : ℕ → ℕ → Setup → Readings → Cause → Option Row → Type 0
Leads t q s r cause None = Unit {0}
Leads t q s r cause (Some row) = (row.phase ≡ Off → Completed t q r (answered_by t q cause) row.effects) × (row.phase ≡ Up → (r.phase ≡ Up) ⊎ Accepts s r cause)

-- in Off nothing is open, and before the first session neither
pub record Before (t q : ℕ) (s : Setup) (r : Readings) : Type 0 where
  pub off : r.phase ≡ Off → opened t q r.pending ≡ 0
  pub first : r.first ≡ true → opened t q r.pending ≡ 0

module _ (t q : ℕ) (s : Setup) (r : Readings) (before : Before t q s r) where
  to_off : (cause : Cause) (effects : List Effect) → Completed t q r (answered_by t q cause) effects → Leads t q s r cause (to Off effects)
  to_off cause effects h = (λ e. h, λ e. absurd (cc e))

  to_up : (cause : Cause) (effects : List Effect) → (r.phase ≡ Up) ⊎ Accepts s r cause → Leads t q s r cause (to Up effects)
  to_up cause effects h = (λ e. absurd (cc e), λ e. h)

  to_down : (cause : Cause) (effects : List Effect) → Leads t q s r cause (to Down effects)
  to_down cause effects = (λ e. absurd (cc e), λ e. absurd (cc e))

  to_spilled : (cause : Cause) (effects : List Effect) → Leads t q s r cause (to Spilled effects)
  to_spilled cause effects = (λ e. absurd (cc e), λ e. absurd (cc e))

  leads_when : (cause : Cause) (b : Bool) (row : Option Row) → (b ≡ true → Leads t q s r cause row) → Leads t q s r cause (when b row)
  leads_when cause true row h = h refl
  leads_when cause false row h = tt

  leads_if : (cause : Cause) (b : Bool) (x y : Option Row) → (b ≡ true → Leads t q s r cause x) → (b ≡ false → Leads t q s r cause y) → Leads t q s r cause (cond b x y)
  leads_if cause true x y h k = h refl
  leads_if cause false x y h k = k refl

  -- all that is open is cancelled first
  cancelled : (rest : List Effect) (own : ℕ) → own ≤ dones t q rest → Completed t q r own (cancel_all r ++ rest)
  cancelled rest own h =
      let sum = count_append (completes t q) (cancel_all r) rest in let all = all_dones t q o.Cancelled r.pending in omega (arith, sum, all, h)

  leads_ends : (cause : Cause) → answered_by t q cause ≡ 0 → Leads t q s r cause (ends s r)
  leads_ends cause none = to_off cause (cancel_all r ++ close s r) (cancelled (close s r) (answered_by t q cause) (omega (arith, none)))

  flipped : (b : Bool) → not b ≡ false → b ≡ true
  flipped true e = refl
  flipped false e = absurd (cc e)

  is_zero : (code : ℕ) → not (code == 0) ≡ false → (code == 0) ≡ true
  is_zero code e = flipped (code == 0) e

  leads_first : (present : Bool) (code : ℕ) → Accepts s r (c.Arrived (p.ConnAck present code)) → r.first ≡ true → Leads t q s r (c.Arrived (p.ConnAck present code)) (first_row s r present)
  leads_first false code accepted first = to_up (c.Arrived (p.ConnAck false code)) [] (inr accepted)
  leads_first true code accepted first = to_off (c.Arrived (p.ConnAck true code)) (close s r) (let none = before.first first in omega (arith, none))

  leads_resumed : (present : Bool) (code : ℕ) → Accepts s r (c.Arrived (p.ConnAck present code)) → Leads t q s r (c.Arrived (p.ConnAck present code)) (resumed_row r present)
  leads_resumed true code accepted = (λ e. absurd (cc e), λ e. inr accepted)
  leads_resumed false code accepted = (λ e. absurd (cc e), λ e. inr accepted)

  leads_connack : (present : Bool) (code : ℕ) → Leads t q s r (c.Arrived (p.ConnAck present code)) (connack_row s r present code)
  unfolding connack_row
  leads_connack present code =
      let cause = c.Arrived (p.ConnAck present code) in
      leads_if cause (not (code == 0)) (ends s r) _ (λ e. leads_ends cause refl)
      (λ zero_is. leads_if cause r.wiping (to Down (f.Send p.Disconnect ∷ [])) _ (λ e. to_down cause (f.Send p.Disconnect ∷ []))
      (λ keeps. leads_if cause r.first (first_row s r present) (resumed_row r present) (λ first. leads_first present code (is_zero code zero_is, keeps) first)
      (λ later. leads_resumed present code (is_zero code zero_is, keeps))))

  leads_opening : (packet : Packet) → Leads t q s r (c.Arrived packet) (opening_row s r packet)
  leads_opening (p.Connect clean keep_alive client will user password) = leads_ends (c.Arrived (p.Connect clean keep_alive client will user password)) refl
  leads_opening (p.ConnAck present code) = leads_connack present code
  leads_opening (p.Publish dup qos retain topic id payload) = leads_ends (c.Arrived (p.Publish dup qos retain topic id payload)) refl
  leads_opening (p.PubAck id) = leads_ends (c.Arrived (p.PubAck id)) refl
  leads_opening (p.PubRec id) = leads_ends (c.Arrived (p.PubRec id)) refl
  leads_opening (p.PubRel id) = leads_ends (c.Arrived (p.PubRel id)) refl
  leads_opening (p.PubComp id) = leads_ends (c.Arrived (p.PubComp id)) refl
  leads_opening (p.Subscribe id asks) = leads_ends (c.Arrived (p.Subscribe id asks)) refl
  leads_opening (p.SubAck id codes) = leads_ends (c.Arrived (p.SubAck id codes)) refl
  leads_opening (p.Unsubscribe id filters) = leads_ends (c.Arrived (p.Unsubscribe id filters)) refl
  leads_opening (p.UnsubAck id) = leads_ends (c.Arrived (p.UnsubAck id)) refl
  leads_opening p.PingReq = leads_ends (c.Arrived p.PingReq) refl
  leads_opening p.PingResp = leads_ends (c.Arrived p.PingResp) refl
  leads_opening p.Disconnect = leads_ends (c.Arrived p.Disconnect) refl

  -- a row of Up that leads to Up
  stays_up : (cause : Cause) (effects : List Effect) → r.phase ≡ Up → Leads t q s r cause (to Up effects)
  stays_up cause effects up = to_up cause effects (inl up)

  leads_message : (l : Sizes) (cause : Cause) (qos : Qos) (topic : List ℕ) (id : ℕ) (payload : List ℕ) → r.phase ≡ Up → Leads t q s r cause (message_row s l r qos topic id payload)
  leads_message l cause AtMostOnce topic id payload up = stays_up cause (pass s r AtMostOnce topic payload) up
  leads_message l cause AtLeastOnce topic id payload up = stays_up cause (pass s r AtLeastOnce topic payload ++ f.Send (p.PubAck id) ∷ []) up
  leads_message l cause ExactlyOnce topic id payload up =
      leads_if cause (is_among r.held id) (to Up (f.Send (p.PubRec id) ∷ [])) _ (λ e. stays_up cause (f.Send (p.PubRec id) ∷ []) up)
      (λ other. leads_if cause (nat_lt (length r.held) l.inbound) _ (to Spilled []) (λ e. stays_up cause (pass s r ExactlyOnce topic payload ++ f.Send (p.PubRec id) ∷ []) up) (λ e. to_spilled cause []))

  leads_up : (l : Sizes) (packet : Packet) → r.phase ≡ Up → Leads t q s r (c.Arrived packet) (up_row s l r packet)
  unfolding publish_row puback_row pubrec_row pubcomp_row suback_row unsuback_row
  leads_up l (p.Connect clean keep_alive client will user password) up = leads_ends (c.Arrived (p.Connect clean keep_alive client will user password)) refl
  leads_up l (p.ConnAck present code) up = leads_ends (c.Arrived (p.ConnAck present code)) refl
  leads_up l (p.Publish dup qos retain topic id payload) up =
      let cause = c.Arrived (p.Publish dup qos retain topic id payload) in
      leads_if cause (is_name topic) (message_row s l r qos topic id payload) (ends s r) (λ e. leads_message l cause qos topic id payload up) (λ e. leads_ends cause refl)
  leads_up l (p.PubAck id) up = (λ e. absurd (cc e), λ e. inl up)
  leads_up l (p.PubRec id) up = (λ e. absurd (cc e), λ e. inl up)
  leads_up l (p.PubRel id) up = (λ e. absurd (cc e), λ e. inl up)
  leads_up l (p.PubComp id) up = (λ e. absurd (cc e), λ e. inl up)
  leads_up l (p.Subscribe id asks) up = leads_ends (c.Arrived (p.Subscribe id asks)) refl
  leads_up l (p.SubAck id codes) up =
      let cause = c.Arrived (p.SubAck id codes) in
      leads_if cause (list_any (λ count. not (count == length codes)) (awaited r id)) (ends s r) _ (λ e. leads_ends cause refl) (λ e. (λ e. absurd (cc e), λ e. inl up))
  leads_up l (p.Unsubscribe id filters) up = leads_ends (c.Arrived (p.Unsubscribe id filters)) refl
  leads_up l (p.UnsubAck id) up = (λ e. absurd (cc e), λ e. inl up)
  leads_up l p.PingReq up = leads_ends (c.Arrived p.PingReq) refl
  leads_up l p.PingResp up = stays_up (c.Arrived p.PingResp) [] up
  leads_up l p.Disconnect up = leads_ends (c.Arrived p.Disconnect) refl

  leads_arrived : (l : Sizes) (packet : Packet) (phase : Phase) → r.phase ≡ phase → Leads t q s r (c.Arrived packet) (arrived_in s l r packet phase)
  leads_arrived l packet Down is = tt
  leads_arrived l packet Opening is = leads_opening packet
  leads_arrived l packet Up is = leads_up l packet is
  leads_arrived l packet Spilled is = tt
  leads_arrived l packet Off is = tt

  leads_fault : (phase : Phase) → r.phase ≡ phase → Leads t q s r (c.Broke w.Fault) (fault_row s r phase)
  unfolding fault_row
  leads_fault Down is = leads_when (c.Broke w.Fault) _ (to Down []) (λ e. to_down (c.Broke w.Fault) [])
  leads_fault Opening is = to_down (c.Broke w.Fault) (lose_link r)
  leads_fault Up is = to_down (c.Broke w.Fault) (lose_link r)
  leads_fault Spilled is = to_down (c.Broke w.Fault) (lose_link r)
  leads_fault Off is = leads_when (c.Broke w.Fault) r.just_sent (to Off []) (λ e. to_off (c.Broke w.Fault) [] (let none = before.off is in omega (arith, none)))

  leads_end : (phase : Phase) → Leads t q s r (c.Broke w.End) (end_row r phase)
  unfolding end_row
  leads_end Down = tt
  leads_end Opening = to_down (c.Broke w.End) (lose_link r)
  leads_end Up = to_down (c.Broke w.End) (lose_link r)
  leads_end Spilled = tt
  leads_end Off = tt

  leads_idle : (phase : Phase) → Leads t q s r (c.Broke w.Idle) (idle_row r phase)
  unfolding idle_row
  leads_idle Down = tt
  leads_idle Opening = to_down (c.Broke w.Idle) (lose_link r)
  leads_idle Up = leads_when (c.Broke w.Idle) _ (down r) (λ e. to_down (c.Broke w.Idle) (lose_link r))
  leads_idle Spilled = tt
  leads_idle Off = tt

  leads_bytes : (why : Why) (phase : Phase) → Leads t q s r (c.Broke why) (bytes_row s r phase)
  unfolding bytes_row
  leads_bytes why Down = tt
  leads_bytes why Opening = leads_ends (c.Broke why) refl
  leads_bytes why Up = leads_ends (c.Broke why) refl
  leads_bytes why Spilled = tt
  leads_bytes why Off = tt

  leads_keep_alive : (time : ℕ) (phase : Phase) → Leads t q s r (c.Broke w.KeepAlive) (keep_alive_row r time phase)
  unfolding keep_alive_row
  leads_keep_alive time Down = tt
  leads_keep_alive time Opening = tt
  leads_keep_alive time Up = leads_when (c.Broke w.KeepAlive) _ (down r) (λ e. to_down (c.Broke w.KeepAlive) (lose_link r))
  leads_keep_alive time Spilled = tt
  leads_keep_alive time Off = tt

  leads_in_full : (phase : Phase) → Leads t q s r (c.Broke w.InFull) (in_full_row r phase)
  unfolding in_full_row
  leads_in_full Down = tt
  leads_in_full Opening = tt
  leads_in_full Up = tt
  leads_in_full Spilled = to_down (c.Broke w.InFull) (lose_link r)
  leads_in_full Off = tt

  leads_broke : (time : ℕ) (why : Why) → Leads t q s r (c.Broke why) (broke_row s r time why)
  leads_broke time w.Fault = leads_fault r.phase refl
  leads_broke time w.End = leads_end r.phase
  leads_broke time w.Idle = leads_idle r.phase
  leads_broke time (w.Bad offset) = leads_bytes (w.Bad offset) r.phase
  leads_broke time (w.TooLong size) = leads_bytes (w.TooLong size) r.phase
  leads_broke time w.KeepAlive = leads_keep_alive time r.phase
  leads_broke time w.InFull = leads_in_full r.phase

  leads_opened : (phase : Phase) → Leads t q s r c.Opened (opened_row s r phase)
  unfolding opened_row
  leads_opened Down = leads_when c.Opened _ (to Opening _) (λ e. (λ e. absurd (cc e), λ e. absurd (cc e)))
  leads_opened Opening = tt
  leads_opened Up = tt
  leads_opened Spilled = tt
  leads_opened Off = tt

  leads_gave_up : (phase : Phase) → Leads t q s r c.GaveUp (gave_up_row s r phase)
  unfolding gave_up_row
  leads_gave_up Down = leads_when c.GaveUp _ (ends s r) (λ e. leads_ends c.GaveUp refl)
  leads_gave_up Opening = tt
  leads_gave_up Up = tt
  leads_gave_up Spilled = tt
  leads_gave_up Off = tt

  leads_tick : (time : ℕ) (phase : Phase) → r.phase ≡ phase → Leads t q s r c.Tick (tick_row s r time phase)
  unfolding tick_row
  leads_tick time Down is = tt
  leads_tick time Opening is = tt
  leads_tick time Up is = leads_when c.Tick _ (to Up _) (λ e. (λ e. absurd (cc e), λ e. inl is))
  leads_tick time Spilled is = tt
  leads_tick time Off is = tt

  nothing_open : (commands : List Pending) → is_none commands ≡ true → opened t q commands ≡ 0
  nothing_open [] e = refl
  nothing_open (command ∷ commands) e = absurd (cc e)

  leads_finish : (phase : Phase) → Leads t q s r c.Finish (finish_row s r phase)
  unfolding finish_row
  leads_finish Down = tt
  leads_finish Opening = tt
  leads_finish Up =
      leads_when c.Finish (all_left s.tasks r.left && is_none r.pending) (to Off _)
      (λ e. to_off c.Finish (f.Send p.Disconnect ∷ []) (let none = nothing_open r.pending (and_parts (all_left s.tasks r.left) (is_none r.pending) e).1 in omega (arith, none)))
  leads_finish Spilled = tt
  leads_finish Off = tt

  -- ---- Takes

  at_most_own : (task seq : ℕ) (request : Request) → answered_in t q task seq request ≤ cond ((task == t) && (seq == q)) 1 0
  at_most_own task seq (requests.Publish qos topic payload) = omega arith
  at_most_own task seq (requests.Subscribe asks) = omega arith
  at_most_own task seq (requests.Unsubscribe filters) = omega arith
  at_most_own task seq requests.Ping = omega arith
  at_most_own task seq requests.Disconnect = omega arith
  at_most_own task seq requests.Terminate = omega arith
  at_most_own task seq requests.Leave = omega arith

  leads_publish : (l : Sizes) (task seq : ℕ) (qos : Qos) (topic payload : List ℕ) → r.phase ≡ Up → Leads t q s r (c.Take task seq (requests.Publish qos topic payload)) (takes.publish_row l r task seq qos topic payload)
  unfolding takes.publish_row
  leads_publish l task seq AtMostOnce topic payload up = (λ e. absurd (cc e), λ e. inl up)
  leads_publish l task seq AtLeastOnce topic payload up = (λ e. absurd (cc e), λ e. inl up)
  leads_publish l task seq ExactlyOnce topic payload up = (λ e. absurd (cc e), λ e. inl up)

  leads_disconnect : (task seq : ℕ) (request : Request) → Leads t q s r (c.Take task seq request) (takes.disconnect_row s r task seq)
  unfolding takes.disconnect_row
  leads_disconnect task seq request =
      let rest = f.Send p.Disconnect ∷ f.Done task seq o.Done ∷ close s r in
      let a = count_more (completes t q) (f.Send p.Disconnect) (f.Done task seq o.Done ∷ close s r) in
      let b = count_more (completes t q) (f.Done task seq o.Done) (close s r) in
      let own = at_most_own task seq request in
      to_off (c.Take task seq request) (cancel_all r ++ rest) (cancelled rest (answered_in t q task seq request) (omega (arith, a, b, own)))

  leads_request : (l : Sizes) (task seq : ℕ) (request : Request) → r.phase ≡ Up → Leads t q s r (c.Take task seq request) (takes.up_row s l r task seq request)
  unfolding takes.subscribe_row takes.unsubscribe_row
  leads_request l task seq (requests.Publish qos topic payload) up = leads_publish l task seq qos topic payload up
  leads_request l task seq (requests.Subscribe asks) up = (λ e. absurd (cc e), λ e. inl up)
  leads_request l task seq (requests.Unsubscribe filters) up = (λ e. absurd (cc e), λ e. inl up)
  leads_request l task seq requests.Ping up = (λ e. absurd (cc e), λ e. inl up)
  leads_request l task seq requests.Disconnect up = leads_disconnect task seq requests.Disconnect
  leads_request l task seq requests.Terminate up = leads_disconnect task seq requests.Terminate
  leads_request l task seq requests.Leave up = stays_up (c.Take task seq requests.Leave) [] up

  refused : (task seq : ℕ) (request : Request) (outcome : Outcome) → r.phase ≡ Off → Leads t q s r (c.Take task seq request) (to Off (takes.at_once task seq outcome))
  refused task seq request outcome off =
      let none = before.off off in let one = count_more (completes t q) (f.Done task seq outcome) [] in let own = at_most_own task seq request in
      to_off (c.Take task seq request) (f.Done task seq outcome ∷ []) (omega (arith, none, one, own))

  leads_off : (task seq : ℕ) (request : Request) → r.phase ≡ Off → Leads t q s r (c.Take task seq request) (takes.off_row r task seq request)
  leads_off task seq (requests.Publish qos topic payload) off = refused task seq (requests.Publish qos topic payload) (takes.refusal r) off
  leads_off task seq (requests.Subscribe asks) off = refused task seq (requests.Subscribe asks) (takes.refusal r) off
  leads_off task seq (requests.Unsubscribe filters) off = refused task seq (requests.Unsubscribe filters) (takes.refusal r) off
  leads_off task seq requests.Ping off = refused task seq requests.Ping (takes.refusal r) off
  leads_off task seq requests.Disconnect off = refused task seq requests.Disconnect (takes.refusal r) off
  leads_off task seq requests.Terminate off = refused task seq requests.Terminate o.Done off
  leads_off task seq requests.Leave off = to_off (c.Take task seq requests.Leave) [] (let none = before.off off in omega (arith, none))

  leads_take : (l : Sizes) (task seq : ℕ) (request : Request) (phase : Phase) → r.phase ≡ phase → Leads t q s r (c.Take task seq request) (takes.take_in s l r task seq request phase)
  leads_take l task seq request Down is = tt
  leads_take l task seq request Opening is = tt
  leads_take l task seq request Up is = leads_request l task seq request is
  leads_take l task seq request Spilled is = tt
  leads_take l task seq request Off is = leads_off task seq request is

  leads_cause : (l : Sizes) (time : ℕ) (cause : Cause) → Leads t q s r cause (cause_row s l r time cause)
  unfolding takes.take_row arrived_row
  leads_cause l time c.Opened = leads_opened r.phase
  leads_cause l time (c.Take task seq request) =
      leads_when (c.Take task seq request) (takes.may_take s r task seq request) (takes.take_in s l r task seq request r.phase) (λ e. leads_take l task seq request r.phase refl)
  leads_cause l time (c.Arrived packet) = leads_when (c.Arrived packet) (is_sound packet) (arrived_in s l r packet r.phase) (λ e. leads_arrived l packet r.phase refl)
  leads_cause l time (c.Broke why) = leads_broke time why
  leads_cause l time c.Tick = leads_tick time r.phase refl
  leads_cause l time c.GaveUp = leads_gave_up r.phase
  leads_cause l time c.Finish = leads_finish r.phase

  pub leads_row : (l : Sizes) (time : ℕ) (cause : Cause) → Leads t q s r cause (row_of s l r time cause)
  unfolding row_of
  leads_row l time cause = leads_when cause (nat_le r.last_time time) (cause_row s l r time cause) (λ e. leads_cause l time cause)
