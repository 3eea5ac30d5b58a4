-- Before a connection is up nothing but publishes is open, and no renewal.
use Rattle.std.proofs.Common.{◌≡◌, ◌⊎◌, ℕ, Bool, true, false, not, List, [], ◌∷◌, ◌++◌, map, length, Option, Some, None, refl, ap, sym, ◌∙◌, subst, inl, inr}
use Rattle.std.specs.Prelude.{◌&&◌, ◌||◌, ◌==◌, ◌+◌, filter, nat_lt, nat_le, if◌then◌else◌}
use Rattle.std.specs.List.{AllByRecursion, list_any}
use Rattle.std.proofs.lemmas.List.{append-nil}
use Rattle.std.proofs.lemmas.Bool.{eq-eqb}
use Rattle.mqtt_packet.specs.declared.packet.Packet.{Packet}
use Rattle.mqtt_packet.specs.declared.packet.Packet.TheVariants as p
use Rattle.mqtt_packet.specs.declared.qos.Qos.{Qos}
use Rattle.mqtt_packet.specs.declared.qos.Qos.TheVariants.{AtMostOnce, AtLeastOnce, ExactlyOnce}
use Rattle.mqtt_packet.specs.Spelling.{is_sound}
use Rattle.topic_filter.specs.Texts.{is_name}
use Rattle.agent_journal.specs.declared.request.Request.{Request}
use Rattle.agent_journal.specs.declared.request.Request.TheVariants as requests
use Rattle.agent_journal.specs.declared.outcome.Outcome.TheVariants as o
use Rattle.agent_journal.specs.declared.effect.Effect.{Effect}
use Rattle.agent_journal.specs.declared.effect.Effect.TheVariants as f
use Rattle.agent_journal.specs.declared.entry.Cause.{Cause}
use Rattle.agent_journal.specs.declared.entry.Cause.TheVariants as c
use Rattle.agent_journal.specs.declared.entry.Why.{Why}
use Rattle.agent_journal.specs.declared.entry.Why.TheVariants as w
use Rattle.agent_journal.specs.declared.entry.Entry.{Entry}
use Rattle.agent_journal.specs.declared.setup.Setup.{Setup}
use Rattle.agent_journal.specs.declared.setup.Phase.{Phase}
use Rattle.agent_journal.specs.declared.setup.Phase.TheVariants.{Down, Opening, Up, Spilled, Off}
use Rattle.agent_journal.specs.Readings.{Pending, pending_of, opens, stays_open, completes}
use Rattle.agent_table.specs.Breaks.{is_none}
use Rattle.agent_table.specs.Arrivals as arrivals
use Rattle.agent_table.specs.Breaks as breaks
use Rattle.agent_table.specs.Deliveries.{is_among}
use Rattle.agent_table.specs.Effects.{done, lose_link, is_publish, pass}
use Rattle.agent_table.specs.Histories.{IsLegalPast, readings, row, phase_of, phase_by, effects_of}
use Rattle.agent_table.specs.Readings.{Readings}
use Rattle.agent_table.specs.Routes.{Renewal, renewals_of, renewals_behind}
use Rattle.agent_table.specs.Rows.{Row, when, to, ends}
use Rattle.agent_table.specs.Sizes.{Sizes}
use Rattle.agent_table.specs.Table.{row_of, cause_row}
use Rattle.agent_table.specs.Takes as takes
use Rattle.agent_core.proofs.RoutedLists.{all_filter, all_map}
use Rattle.agent_core.proofs.RoutedSteps.{entry}

abbrev pub is_closed : Phase → Bool
is_closed Down = true
is_closed Opening = true
is_closed Up = false
is_closed Spilled = false
is_closed Off = false

-- An entry leads there from there, opens nothing and renews nothing; or it breaks a connection.
abbrev Rests : Readings → Cause → List Effect → Type 0
Rests r cause effects =
    ((is_closed r.phase ≡ true) × (opens cause effects ≡ []) × ((renewals : List Renewal) → renewals ≡ [] → renewals_behind cause effects renewals ≡ []))
    ⊎ ((why : Why) × (cause ≡ c.Broke why) × (effects ≡ lose_link r))

abbrev RestsRow : Readings → Cause → Option Row → Type 0
RestsRow r cause None = Unit {0}
RestsRow r cause (Some row) = is_closed row.phase ≡ true → Rests r cause row.effects

rests_when : (r : Readings) (cause : Cause) (b : Bool) (row : Option Row) → RestsRow r cause row → RestsRow r cause (when b row)
rests_when r cause true row h = h
rests_when r cause false row h = tt

rests_if : (r : Readings) (cause : Cause) (b : Bool) (one other : Option Row) → RestsRow r cause one → RestsRow r cause other → RestsRow r cause (if b then one else other)
rests_if r cause true one other h k = h
rests_if r cause false one other h k = k

module _ (s : Setup) (l : Sizes) (r : Readings) where
  up_rests : (cause : Cause) (effects : List Effect) → RestsRow r cause (to Up effects)
  up_rests cause effects = λ e. absurd (cc e)

  off_rests : (cause : Cause) (effects : List Effect) → RestsRow r cause (to Off effects)
  off_rests cause effects = λ e. absurd (cc e)

  ends_rests : (cause : Cause) → RestsRow r cause (ends s r)
  ends_rests cause = λ e. absurd (cc e)

  -- ---- Breaks

  down_rests : (why : Why) → RestsRow r (c.Broke why) (breaks.down r)
  down_rests why = λ e. inr (why, refl, refl)

  fault_rests : (phase : Phase) → r.phase ≡ phase → RestsRow r (c.Broke w.Fault) (breaks.fault_row s r phase)
  unfolding breaks.fault_row
  fault_rests Down is = rests_when r (c.Broke w.Fault) (nat_le r.breaks s.reopen) (to Down []) (λ e. inl (ap is_closed is, refl, λ rs none. refl))
  fault_rests Opening is = down_rests w.Fault
  fault_rests Up is = down_rests w.Fault
  fault_rests Spilled is = down_rests w.Fault
  fault_rests Off is = rests_when r (c.Broke w.Fault) r.just_sent (to Off []) (off_rests (c.Broke w.Fault) [])

  end_rests : (phase : Phase) → RestsRow r (c.Broke w.End) (breaks.end_row r phase)
  unfolding breaks.end_row
  end_rests Down = tt
  end_rests Opening = down_rests w.End
  end_rests Up = down_rests w.End
  end_rests Spilled = tt
  end_rests Off = tt

  idle_rests : (phase : Phase) → RestsRow r (c.Broke w.Idle) (breaks.idle_row r phase)
  unfolding breaks.idle_row
  idle_rests Down = tt
  idle_rests Opening = down_rests w.Idle
  idle_rests Up = rests_when r (c.Broke w.Idle) (not (is_none r.pending)) (breaks.down r) (down_rests w.Idle)
  idle_rests Spilled = tt
  idle_rests Off = tt

  bytes_rests : (cause : Cause) (phase : Phase) → RestsRow r cause (breaks.bytes_row s r phase)
  unfolding breaks.bytes_row
  bytes_rests cause Down = tt
  bytes_rests cause Opening = ends_rests cause
  bytes_rests cause Up = ends_rests cause
  bytes_rests cause Spilled = tt
  bytes_rests cause Off = tt

  keep_alive_rests : (time : ℕ) (phase : Phase) → RestsRow r (c.Broke w.KeepAlive) (breaks.keep_alive_row r time phase)
  unfolding breaks.keep_alive_row
  keep_alive_rests time Down = tt
  keep_alive_rests time Opening = tt
  keep_alive_rests time Up = rests_when r (c.Broke w.KeepAlive) (breaks.is_past r.ping 5000 time) (breaks.down r) (down_rests w.KeepAlive)
  keep_alive_rests time Spilled = tt
  keep_alive_rests time Off = tt

  in_full_rests : (phase : Phase) → RestsRow r (c.Broke w.InFull) (breaks.in_full_row r phase)
  unfolding breaks.in_full_row
  in_full_rests Down = tt
  in_full_rests Opening = tt
  in_full_rests Up = tt
  in_full_rests Spilled = down_rests w.InFull
  in_full_rests Off = tt

  broke_rests : (time : ℕ) (why : Why) → RestsRow r (c.Broke why) (breaks.broke_row s r time why)
  broke_rests time w.Fault = fault_rests r.phase refl
  broke_rests time w.End = end_rests r.phase
  broke_rests time w.Idle = idle_rests r.phase
  broke_rests time (w.Bad offset) = bytes_rests (c.Broke (w.Bad offset)) r.phase
  broke_rests time (w.TooLong size) = bytes_rests (c.Broke (w.TooLong size)) r.phase
  broke_rests time w.KeepAlive = keep_alive_rests time r.phase
  broke_rests time w.InFull = in_full_rests r.phase

  -- ---- Openings, and what comes in time

  opened_rests : (phase : Phase) → r.phase ≡ phase → RestsRow r c.Opened (breaks.opened_row s r phase)
  unfolding breaks.opened_row
  opened_rests Down is = rests_when r c.Opened (nat_le r.breaks s.reopen) (to Opening _) (λ e. inl (ap is_closed is, refl, λ rs none. none))
  opened_rests Opening is = tt
  opened_rests Up is = tt
  opened_rests Spilled is = tt
  opened_rests Off is = tt

  gave_up_rests : (phase : Phase) → RestsRow r c.GaveUp (breaks.gave_up_row s r phase)
  unfolding breaks.gave_up_row
  gave_up_rests Down = rests_when r c.GaveUp (r.breaks == s.reopen + 1) (ends s r) (ends_rests c.GaveUp)
  gave_up_rests Opening = tt
  gave_up_rests Up = tt
  gave_up_rests Spilled = tt
  gave_up_rests Off = tt

  tick_rests : (time : ℕ) (phase : Phase) → RestsRow r c.Tick (breaks.tick_row s r time phase)
  unfolding breaks.tick_row
  tick_rests time Down = tt
  tick_rests time Opening = tt
  tick_rests time Up = rests_when r c.Tick _ (to Up _) (λ e. absurd (cc e))
  tick_rests time Spilled = tt
  tick_rests time Off = tt

  finish_rests : (phase : Phase) → RestsRow r c.Finish (breaks.finish_row s r phase)
  unfolding breaks.finish_row
  finish_rests Down = tt
  finish_rests Opening = tt
  finish_rests Up = rests_when r c.Finish _ (to Off _) (λ e. absurd (cc e))
  finish_rests Spilled = tt
  finish_rests Off = tt

  -- ---- Takes

  take_rests : (cause : Cause) (task seq : ℕ) (request : Request) → RestsRow r cause (takes.up_row s l r task seq request)
  unfolding takes.publish_row takes.subscribe_row takes.unsubscribe_row takes.disconnect_row
  take_rests cause task seq (requests.Publish AtMostOnce topic payload) = λ e. absurd (cc e)
  take_rests cause task seq (requests.Publish AtLeastOnce topic payload) = λ e. absurd (cc e)
  take_rests cause task seq (requests.Publish ExactlyOnce topic payload) = λ e. absurd (cc e)
  take_rests cause task seq (requests.Subscribe asks) = λ e. absurd (cc e)
  take_rests cause task seq (requests.Unsubscribe filters) = λ e. absurd (cc e)
  take_rests cause task seq requests.Ping = λ e. absurd (cc e)
  take_rests cause task seq requests.Disconnect = λ e. absurd (cc e)
  take_rests cause task seq requests.Terminate = λ e. absurd (cc e)
  take_rests cause task seq requests.Leave = λ e. absurd (cc e)

  refused_rests : (cause : Cause) (task seq : ℕ) (request : Request) → RestsRow r cause (takes.off_row r task seq request)
  refused_rests cause task seq (requests.Publish qos topic payload) = λ e. absurd (cc e)
  refused_rests cause task seq (requests.Subscribe asks) = λ e. absurd (cc e)
  refused_rests cause task seq (requests.Unsubscribe filters) = λ e. absurd (cc e)
  refused_rests cause task seq requests.Ping = λ e. absurd (cc e)
  refused_rests cause task seq requests.Disconnect = λ e. absurd (cc e)
  refused_rests cause task seq requests.Terminate = λ e. absurd (cc e)
  refused_rests cause task seq requests.Leave = λ e. absurd (cc e)

  take_in_rests : (cause : Cause) (task seq : ℕ) (request : Request) (phase : Phase) → RestsRow r cause (takes.take_in s l r task seq request phase)
  take_in_rests cause task seq request Down = tt
  take_in_rests cause task seq request Opening = tt
  take_in_rests cause task seq request Up = take_rests cause task seq request
  take_in_rests cause task seq request Spilled = tt
  take_in_rests cause task seq request Off = refused_rests cause task seq request

  -- ---- Packets

  first_rests : (cause : Cause) (present : Bool) → RestsRow r cause (arrivals.first_row s r present)
  first_rests cause true = λ e. absurd (cc e)
  first_rests cause false = λ e. absurd (cc e)

  resumed_rests : (cause : Cause) (present : Bool) → RestsRow r cause (arrivals.resumed_row r present)
  resumed_rests cause true = λ e. absurd (cc e)
  resumed_rests cause false = λ e. absurd (cc e)

  connack_rests : (present : Bool) (code : ℕ) → is_closed r.phase ≡ true → RestsRow r (c.Arrived (p.ConnAck present code)) (arrivals.connack_row s r present code)
  unfolding arrivals.connack_row
  connack_rests present code is =
      let cause = c.Arrived (p.ConnAck present code) in
      rests_if r cause (not (code == 0)) (ends s r) (if r.wiping then to Down (f.Send p.Disconnect ∷ []) else if r.first then arrivals.first_row s r present else arrivals.resumed_row r present) (ends_rests cause)
      (rests_if r cause r.wiping (to Down (f.Send p.Disconnect ∷ [])) (if r.first then arrivals.first_row s r present else arrivals.resumed_row r present) (λ e. inl (is, refl, λ rs none. append-nil rs ∙ none))
      (rests_if r cause r.first (arrivals.first_row s r present) (arrivals.resumed_row r present) (first_rests cause present) (resumed_rests cause present)))

  opening_rests : (packet : Packet) → is_closed r.phase ≡ true → RestsRow r (c.Arrived packet) (arrivals.opening_row s r packet)
  opening_rests (p.Connect clean keep_alive client will user password) is = λ e. absurd (cc e)
  opening_rests (p.ConnAck present code) is = connack_rests present code is
  opening_rests (p.Publish dup qos retain topic id payload) is = λ e. absurd (cc e)
  opening_rests (p.PubAck id) is = λ e. absurd (cc e)
  opening_rests (p.PubRec id) is = λ e. absurd (cc e)
  opening_rests (p.PubRel id) is = λ e. absurd (cc e)
  opening_rests (p.PubComp id) is = λ e. absurd (cc e)
  opening_rests (p.Subscribe id asks) is = λ e. absurd (cc e)
  opening_rests (p.SubAck id codes) is = λ e. absurd (cc e)
  opening_rests (p.Unsubscribe id filters) is = λ e. absurd (cc e)
  opening_rests (p.UnsubAck id) is = λ e. absurd (cc e)
  opening_rests p.PingReq is = λ e. absurd (cc e)
  opening_rests p.PingResp is = λ e. absurd (cc e)
  opening_rests p.Disconnect is = λ e. absurd (cc e)

  message_rests : (cause : Cause) (qos : Qos) (topic : List ℕ) (id : ℕ) (payload : List ℕ) → RestsRow r cause (arrivals.message_row s l r qos topic id payload)
  message_rests cause AtMostOnce topic id payload = λ e. absurd (cc e)
  message_rests cause AtLeastOnce topic id payload = λ e. absurd (cc e)
  message_rests cause ExactlyOnce topic id payload =
      rests_if r cause (is_among r.held id) (to Up (f.Send (p.PubRec id) ∷ [])) (if nat_lt (length r.held) l.inbound then to Up (pass s r ExactlyOnce topic payload ++ f.Send (p.PubRec id) ∷ []) else to Spilled []) (λ e. absurd (cc e))
      (rests_if r cause (nat_lt (length r.held) l.inbound) (to Up (pass s r ExactlyOnce topic payload ++ f.Send (p.PubRec id) ∷ [])) (to Spilled []) (λ e. absurd (cc e)) (λ e. absurd (cc e)))

  up_in_rests : (packet : Packet) → RestsRow r (c.Arrived packet) (arrivals.up_row s l r packet)
  unfolding arrivals.publish_row arrivals.puback_row arrivals.pubrec_row arrivals.pubcomp_row arrivals.suback_row arrivals.unsuback_row
  up_in_rests (p.Connect clean keep_alive client will user password) = λ e. absurd (cc e)
  up_in_rests (p.ConnAck present code) = λ e. absurd (cc e)
  up_in_rests (p.Publish dup qos retain topic id payload) =
      rests_if r (c.Arrived (p.Publish dup qos retain topic id payload)) (is_name topic) (arrivals.message_row s l r qos topic id payload) (ends s r) (message_rests (c.Arrived (p.Publish dup qos retain topic id payload)) qos topic id payload) (λ e. absurd (cc e))
  up_in_rests (p.PubAck id) = λ e. absurd (cc e)
  up_in_rests (p.PubRec id) = λ e. absurd (cc e)
  up_in_rests (p.PubRel id) = λ e. absurd (cc e)
  up_in_rests (p.PubComp id) = λ e. absurd (cc e)
  up_in_rests (p.Subscribe id asks) = λ e. absurd (cc e)
  up_in_rests (p.SubAck id codes) =
      rests_if r (c.Arrived (p.SubAck id codes)) (list_any (λ count. not (count == length codes)) (arrivals.awaited r id)) (ends s r) (to Up (arrivals.all_granted codes (filter (λ command. arrivals.is_subscribe command.request) (arrivals.at id r.pending)))) (λ e. absurd (cc e)) (λ e. absurd (cc e))
  up_in_rests (p.Unsubscribe id filters) = λ e. absurd (cc e)
  up_in_rests (p.UnsubAck id) = λ e. absurd (cc e)
  up_in_rests p.PingReq = λ e. absurd (cc e)
  up_in_rests p.PingResp = λ e. absurd (cc e)
  up_in_rests p.Disconnect = λ e. absurd (cc e)

  arrived_rests : (packet : Packet) (phase : Phase) → r.phase ≡ phase → RestsRow r (c.Arrived packet) (arrivals.arrived_in s l r packet phase)
  arrived_rests packet Down is = tt
  arrived_rests packet Opening is = opening_rests packet (ap is_closed is)
  arrived_rests packet Up is = up_in_rests packet
  arrived_rests packet Spilled is = tt
  arrived_rests packet Off is = tt

  cause_rests : (time : ℕ) (cause : Cause) → RestsRow r cause (cause_row s l r time cause)
  unfolding takes.take_row arrivals.arrived_row
  cause_rests time c.Opened = opened_rests r.phase refl
  cause_rests time (c.Take task seq request) = rests_when r (c.Take task seq request) (takes.may_take s r task seq request) (takes.take_in s l r task seq request r.phase) (take_in_rests (c.Take task seq request) task seq request r.phase)
  cause_rests time (c.Arrived packet) = rests_when r (c.Arrived packet) (is_sound packet) (arrivals.arrived_in s l r packet r.phase) (arrived_rests packet r.phase refl)
  cause_rests time (c.Broke why) = broke_rests time why
  cause_rests time c.Tick = tick_rests time r.phase
  cause_rests time c.GaveUp = gave_up_rests r.phase
  cause_rests time c.Finish = finish_rests r.phase

  row_rests : (time : ℕ) (cause : Cause) → RestsRow r cause (row_of s l r time cause)
  unfolding row_of
  row_rests time cause = rests_when r cause (nat_le r.last_time time) (cause_row s l r time cause) (cause_rests time cause)

rests_then : (r : Readings) (cause : Cause) (found : Option Row) (effects : List Effect) (phase : Phase) → effects_of found ≡ Some effects → is_closed (phase_by found phase) ≡ true → RestsRow r cause found → Rests r cause effects
rests_then r cause None effects phase e closed h = absurd (cc e)
rests_then r cause (Some found) effects phase e closed h = let is : found.effects ≡ effects = cc in subst (Rests r cause) is (h closed)

-- ---- All pasts

abbrev pub ArePublishes : List Pending → Type 0
ArePublishes commands = AllByRecursion (λ (command : Pending). is_publish command.request ≡ true) commands

-- Only publishes are open, and no renewal.
pub record IsAtRest (past : List Entry) : Type 0 where
  pub publishes : ArePublishes (pending_of past)
  pub renewals : renewals_of past ≡ []

abbrev lost_all : List Pending → List Effect
lost_all commands = map (done o.LinkLost) (filter (λ command. not (is_publish command.request)) commands)

or_true : (b : Bool) → (b || true) ≡ true
or_true true = refl
or_true false = refl

-- each of them that is no publish is completed
each_lost : (commands : List Pending) → AllByRecursion (λ (command : Pending). is_publish command.request ≡ false → list_any (completes command.task command.seq) (lost_all commands) ≡ true) commands
each_lost [] = tt
each_lost (command ∷ commands) = (
  first,
  all_map (λ (other : Pending). is_publish other.request ≡ false → list_any (completes other.task other.seq) (lost_all commands) ≡ true)
      (λ (other : Pending). is_publish other.request ≡ false → list_any (completes other.task other.seq) (lost_all (command ∷ commands)) ≡ true) commands (λ other h e. more other (is_publish command.request) refl (h e)) (each_lost commands),
)
  where
    first : is_publish command.request ≡ false → list_any (completes command.task command.seq) (lost_all (command ∷ commands)) ≡ true
    first e = rw (e, eq-eqb command.task command.task refl, eq-eqb command.seq command.seq refl) refl

    more : (other : Pending) (b : Bool) → is_publish command.request ≡ b → list_any (completes other.task other.seq) (lost_all commands) ≡ true → list_any (completes other.task other.seq) (lost_all (command ∷ commands)) ≡ true
    more other true e h = rw e h
    more other false e h = rw e (ap (λ x. (command.task == other.task && command.seq == other.seq) || x) h ∙ or_true (command.task == other.task && command.seq == other.seq))

rest_stays : (effects : List Effect) (commands : List Pending) → AllByRecursion (λ (command : Pending). is_publish command.request ≡ false → list_any (completes command.task command.seq) effects ≡ true) commands → ArePublishes (filter (stays_open effects) commands)
rest_stays effects [] all = tt
rest_stays effects (command ∷ commands) all = go (list_any (completes command.task command.seq) effects) refl (rest_stays effects commands all.1)
  where
    publish : (b : Bool) → is_publish command.request ≡ b → list_any (completes command.task command.seq) effects ≡ false → is_publish command.request ≡ true
    publish true is e = is
    publish false is e = absurd (cc (all.0 is, e))

    go : (b : Bool) → list_any (completes command.task command.seq) effects ≡ b → ArePublishes (filter (stays_open effects) commands) → ArePublishes (filter (stays_open effects) (command ∷ commands))
    go true e rest = rw e rest
    go false e rest = rw e (publish (is_publish command.request) refl e, rest)

broken : (past : List Entry) (time : ℕ) (cause : Cause) (effects : List Effect) (why : Why) → cause ≡ c.Broke why → effects ≡ lost_all (pending_of past) → IsAtRest (entry time cause effects ∷ past)
broken past time cause effects why is lost =
    subst (λ (x : Cause). IsAtRest (entry time x effects ∷ past)) (sym is) (subst (λ (es : List Effect). IsAtRest (entry time (c.Broke why) es ∷ past)) (sym lost) (record {
      publishes = subst (λ (cs : List Pending). ArePublishes (filter (stays_open (lost_all (pending_of past))) cs)) (sym (append-nil (pending_of past))) (rest_stays (lost_all (pending_of past)) (pending_of past) (each_lost (pending_of past)));
      renewals = refl;
    }))

still : (past : List Entry) (e : Entry) → opens e.cause e.effects ≡ [] → ((renewals : List Renewal) → renewals ≡ [] → renewals_behind e.cause e.effects renewals ≡ []) → IsAtRest past → IsAtRest (e ∷ past)
still past e none renews rest = record {
  publishes = all_filter (λ (command : Pending). is_publish command.request ≡ true) (stays_open e.effects) (pending_of past ++ opens e.cause e.effects)
      (subst ArePublishes (sym (ap (λ cs. pending_of past ++ cs) none ∙ append-nil (pending_of past))) rest.publishes);
  renewals = renews (renewals_of past) rest.renewals;
}

pub at_rest : (s : Setup) (l : Sizes) (past : List Entry) → IsLegalPast s l past → is_closed (phase_of s l past) ≡ true → IsAtRest past
at_rest s l [] legal closed = record { publishes = tt; renewals = refl }
at_rest s l (e ∷ past) legal closed = go (rests_then (readings s l past) e.cause (row s l past e.at e.cause) e.effects (phase_of s l past) legal.0 closed (row_rests s l (readings s l past) e.at e.cause)) (λ before. at_rest s l past legal.1 before)
  where
    go : Rests (readings s l past) e.cause e.effects → (is_closed (phase_of s l past) ≡ true → IsAtRest past) → IsAtRest (e ∷ past)
    go (inl (before, none, renews)) rest = still past e none renews (rest before)
    go (inr (why, is, lost)) rest = broken past e.at e.cause e.effects why is lost
