-- The newest entry that may not stand behind the end is the one that led to Off.
use Rattle.std.proofs.Common.{◌≡◌, ℕ, Bool, true, false, cond, List, [], ◌∷◌, ◌++◌, map, length, Option, Some, None, refl, sym, ap, ◌∙◌, subst}
use Rattle.std.specs.Prelude.{◌==◌, not, nat_lt, nat_le}
use Rattle.std.specs.List.{list_any}
use Rattle.mqtt_packet.specs.declared.qos.Qos.{Qos}
use Rattle.mqtt_packet.specs.declared.qos.Qos.TheVariants.{AtMostOnce, AtLeastOnce, ExactlyOnce}
use Rattle.mqtt_packet.specs.declared.packet.Packet.{Packet}
use Rattle.mqtt_packet.specs.declared.packet.Packet.TheVariants as p
use Rattle.mqtt_packet.specs.Spelling.{is_sound}
use Rattle.topic_filter.specs.Texts.{is_name}
use Rattle.agent_journal.specs.declared.request.Request.{Request}
use Rattle.agent_journal.specs.declared.request.Request.TheVariants as requests
use Rattle.agent_journal.specs.declared.outcome.Outcome.{Outcome}
use Rattle.agent_journal.specs.declared.outcome.Outcome.TheVariants as o
use Rattle.agent_journal.specs.declared.entry.Cause.{Cause}
use Rattle.agent_journal.specs.declared.entry.Cause.TheVariants as c
use Rattle.agent_journal.specs.declared.entry.Entry.{Entry}
use Rattle.agent_journal.specs.declared.entry.Why.{Why}
use Rattle.agent_journal.specs.declared.entry.Why.TheVariants as w
use Rattle.agent_journal.specs.declared.effect.Effect.{Effect}
use Rattle.agent_journal.specs.declared.effect.Effect.TheVariants as f
use Rattle.agent_journal.specs.declared.setup.Setup.{Setup}
use Rattle.agent_journal.specs.declared.setup.Phase.{Phase}
use Rattle.agent_journal.specs.declared.setup.Phase.TheVariants.{Down, Opening, Up, Spilled, Off}
use Rattle.agent_journal.specs.Endings.{is_off, ending_by}
use Rattle.agent_journal.specs.Readings.{Pending}
use Rattle.agent_journal.specs.Wires.{is_opened}
use Rattle.agent_table.specs.Arrivals.{arrived_row, arrived_in, opening_row, up_row, connack_row, first_row, resumed_row, publish_row, message_row, puback_row, pubrec_row, pubcomp_row, suback_row, unsuback_row, awaited}
use Rattle.agent_table.specs.Breaks.{opened_row, broke_row, fault_row, end_row, idle_row, bytes_row, keep_alive_row, in_full_row, gave_up_row, tick_row, finish_row, down}
use Rattle.agent_table.specs.Deliveries.{is_among}
use Rattle.agent_table.specs.Effects.{done}
use Rattle.agent_table.specs.Histories.{IsLegalPast, phase_of, phase_by, readings, row, effects_of}
use Rattle.agent_table.specs.Readings.{Readings}
use Rattle.agent_table.specs.Rows.{Row, to, when, ends}
use Rattle.agent_table.specs.Sizes.{Sizes}
use Rattle.agent_table.specs.Table.{row_of, cause_row}
use Rattle.agent_table.specs.Takes as takes
use Rattle.agent_table.specs.Endings.{ending_of}
use Rattle.journal_text.specs.Laws.{EndingsAreTold}
use Rattle.journal_text.specs.Statuses.{is_send, comes_behind, phase_told, ending_told}

abbrev is_opening : Phase → Bool
is_opening Down = false
is_opening Opening = true
is_opening Up = false
is_opening Spilled = false
is_opening Off = false

-- ---- Rows

-- what a row that is met in this phase says
record Tells (phase : Phase) (cause : Cause) (found : Row) : Type 0 where
  behind : is_off phase ≡ true → comes_behind cause found.effects ≡ true
  ends : is_off phase ≡ false → is_off found.phase ≡ true → comes_behind cause found.effects ≡ false
  opens : is_opening found.phase ≡ is_opened cause

abbrev TellsRow : Phase → Cause → Option Row → Type 0
TellsRow phase cause None = Unit {0}
TellsRow phase cause (Some found) = Tells phase cause found

tells_when : (phase : Phase) (cause : Cause) (b : Bool) (found : Option Row) → TellsRow phase cause found → TellsRow phase cause (when b found)
tells_when phase cause true found h = h
tells_when phase cause false found h = tt

tells_if : (phase : Phase) (cause : Cause) (b : Bool) (x y : Option Row) → TellsRow phase cause x → TellsRow phase cause y → TellsRow phase cause (cond b x y)
tells_if phase cause true x y h k = h
tells_if phase cause false x y h k = k

-- to a phase that isn't Off
goes_on : (phase next : Phase) (cause : Cause) (effects : List Effect) → is_off phase ≡ false → is_off next ≡ false → is_opening next ≡ is_opened cause → TellsRow phase cause (to next effects)
goes_on phase next cause effects on still e = record { behind = λ off. absurd (cc (sym on ∙ off)); ends = λ was is. absurd (cc (sym still ∙ is)); opens = e }

-- to Off, by what may not stand behind it
goes_off : (phase : Phase) (cause : Cause) (effects : List Effect) → is_off phase ≡ false → comes_behind cause effects ≡ false → false ≡ is_opened cause → TellsRow phase cause (to Off effects)
goes_off phase cause effects on ends e = record { behind = λ off. absurd (cc (sym on ∙ off)); ends = λ was is. ends; opens = e }

stays_off : (cause : Cause) (effects : List Effect) → comes_behind cause effects ≡ true → false ≡ is_opened cause → TellsRow Off cause (to Off effects)
stays_off cause effects behind e = record { behind = λ off. behind; ends = λ was is. absurd (cc was); opens = e }

some_send : (outcome : Outcome) (commands : List Pending) (packet : Packet) (rest : List Effect) → list_any is_send (map (done outcome) commands ++ f.Send packet ∷ rest) ≡ true
some_send outcome [] packet rest = refl
some_send outcome (command ∷ commands) packet rest = some_send outcome commands packet rest

module _ (s : Setup) (l : Sizes) (r : Readings) where
  -- ---- Arrivals

  first_tells : (present : Bool) (packet : Packet) → TellsRow Opening (c.Arrived packet) (first_row s r present)
  first_tells false packet = goes_on Opening Up (c.Arrived packet) [] refl refl refl
  first_tells true packet = goes_off Opening (c.Arrived packet) _ refl refl refl

  resumed_tells : (present : Bool) (packet : Packet) → TellsRow Opening (c.Arrived packet) (resumed_row r present)
  resumed_tells true packet = goes_on Opening Up (c.Arrived packet) _ refl refl refl
  resumed_tells false packet = goes_on Opening Up (c.Arrived packet) _ refl refl refl

  ends_tells : (phase : Phase) (packet : Packet) → is_off phase ≡ false → TellsRow phase (c.Arrived packet) (ends s r)
  ends_tells phase packet on = goes_off phase (c.Arrived packet) _ on refl refl

  connack_tells : (present : Bool) (code : ℕ) (packet : Packet) → TellsRow Opening (c.Arrived packet) (connack_row s r present code)
  unfolding connack_row
  connack_tells present code packet =
      tells_if Opening (c.Arrived packet) (not (code == 0)) (ends s r) _ (ends_tells Opening packet refl)
      (tells_if Opening (c.Arrived packet) r.wiping (to Down (f.Send p.Disconnect ∷ [])) _ (goes_on Opening Down (c.Arrived packet) (f.Send p.Disconnect ∷ []) refl refl refl)
      (tells_if Opening (c.Arrived packet) r.first (first_row s r present) (resumed_row r present) (first_tells present packet) (resumed_tells present packet)))

  opening_tells : (packet : Packet) → TellsRow Opening (c.Arrived packet) (opening_row s r packet)
  opening_tells (p.ConnAck present code) = connack_tells present code (p.ConnAck present code)
  opening_tells packet = ends_tells Opening packet refl

  received_tells : (qos : Qos) (topic : List ℕ) (id : ℕ) (payload : List ℕ) (packet : Packet) → TellsRow Up (c.Arrived packet) (message_row s l r qos topic id payload)
  received_tells AtMostOnce topic id payload packet = goes_on Up Up (c.Arrived packet) _ refl refl refl
  received_tells AtLeastOnce topic id payload packet = goes_on Up Up (c.Arrived packet) _ refl refl refl
  received_tells ExactlyOnce topic id payload packet =
      tells_if Up (c.Arrived packet) (is_among r.held id) (to Up (f.Send (p.PubRec id) ∷ [])) _ (goes_on Up Up (c.Arrived packet) (f.Send (p.PubRec id) ∷ []) refl refl refl)
      (tells_if Up (c.Arrived packet) (nat_lt (length r.held) l.inbound) _ (to Spilled []) (goes_on Up Up (c.Arrived packet) _ refl refl refl) (goes_on Up Spilled (c.Arrived packet) [] refl refl refl))

  up_tells : (packet : Packet) → TellsRow Up (c.Arrived packet) (up_row s l r packet)
  unfolding publish_row puback_row pubrec_row pubcomp_row suback_row unsuback_row
  up_tells (p.Connect clean keep_alive client will user password) = ends_tells Up (p.Connect clean keep_alive client will user password) refl
  up_tells (p.ConnAck present code) = ends_tells Up (p.ConnAck present code) refl
  up_tells (p.Publish dup qos retain topic id payload) =
      tells_if Up (c.Arrived (p.Publish dup qos retain topic id payload)) (is_name topic) (message_row s l r qos topic id payload) (ends s r) (received_tells qos topic id payload (p.Publish dup qos retain topic id payload)) (ends_tells Up (p.Publish dup qos retain topic id payload) refl)
  up_tells (p.PubAck id) = goes_on Up Up (c.Arrived (p.PubAck id)) _ refl refl refl
  up_tells (p.PubRec id) = goes_on Up Up (c.Arrived (p.PubRec id)) _ refl refl refl
  up_tells (p.PubRel id) = goes_on Up Up (c.Arrived (p.PubRel id)) _ refl refl refl
  up_tells (p.PubComp id) = goes_on Up Up (c.Arrived (p.PubComp id)) _ refl refl refl
  up_tells (p.Subscribe id asks) = ends_tells Up (p.Subscribe id asks) refl
  up_tells (p.SubAck id codes) =
      tells_if Up (c.Arrived (p.SubAck id codes)) (list_any (λ count. not (count == length codes)) (awaited r id)) (ends s r) _ (ends_tells Up (p.SubAck id codes) refl) (goes_on Up Up (c.Arrived (p.SubAck id codes)) _ refl refl refl)
  up_tells (p.Unsubscribe id filters) = ends_tells Up (p.Unsubscribe id filters) refl
  up_tells (p.UnsubAck id) = goes_on Up Up (c.Arrived (p.UnsubAck id)) _ refl refl refl
  up_tells p.PingReq = ends_tells Up p.PingReq refl
  up_tells p.PingResp = goes_on Up Up (c.Arrived p.PingResp) [] refl refl refl
  up_tells p.Disconnect = ends_tells Up p.Disconnect refl

  arrived_tells : (packet : Packet) (phase : Phase) → TellsRow phase (c.Arrived packet) (arrived_in s l r packet phase)
  arrived_tells packet Down = tt
  arrived_tells packet Opening = opening_tells packet
  arrived_tells packet Up = up_tells packet
  arrived_tells packet Spilled = tt
  arrived_tells packet Off = tt

  -- ---- The connection

  down_tells : (phase : Phase) (reason : Why) → is_off phase ≡ false → TellsRow phase (c.Broke reason) (down r)
  down_tells phase reason on = goes_on phase Down (c.Broke reason) _ on refl refl

  fault_tells : (phase : Phase) → TellsRow phase (c.Broke w.Fault) (fault_row s r phase)
  unfolding fault_row
  fault_tells Down = tells_when Down (c.Broke w.Fault) _ (to Down []) (goes_on Down Down (c.Broke w.Fault) [] refl refl refl)
  fault_tells Opening = down_tells Opening w.Fault refl
  fault_tells Up = down_tells Up w.Fault refl
  fault_tells Spilled = down_tells Spilled w.Fault refl
  fault_tells Off = tells_when Off (c.Broke w.Fault) _ (to Off []) (stays_off (c.Broke w.Fault) [] refl refl)

  end_tells : (phase : Phase) → TellsRow phase (c.Broke w.End) (end_row r phase)
  unfolding end_row
  end_tells Down = tt
  end_tells Opening = down_tells Opening w.End refl
  end_tells Up = down_tells Up w.End refl
  end_tells Spilled = tt
  end_tells Off = tt

  idle_tells : (phase : Phase) → TellsRow phase (c.Broke w.Idle) (idle_row r phase)
  unfolding idle_row
  idle_tells Down = tt
  idle_tells Opening = down_tells Opening w.Idle refl
  idle_tells Up = tells_when Up (c.Broke w.Idle) _ (down r) (down_tells Up w.Idle refl)
  idle_tells Spilled = tt
  idle_tells Off = tt

  bytes_tells : (phase : Phase) (reason : Why) → comes_behind (c.Broke reason) [] ≡ false → TellsRow phase (c.Broke reason) (bytes_row s r phase)
  unfolding bytes_row
  bytes_tells Down reason its = tt
  bytes_tells Opening reason its = goes_off Opening (c.Broke reason) _ refl its refl
  bytes_tells Up reason its = goes_off Up (c.Broke reason) _ refl its refl
  bytes_tells Spilled reason its = tt
  bytes_tells Off reason its = tt

  keep_alive_tells : (time : ℕ) (phase : Phase) → TellsRow phase (c.Broke w.KeepAlive) (keep_alive_row r time phase)
  unfolding keep_alive_row
  keep_alive_tells time Down = tt
  keep_alive_tells time Opening = tt
  keep_alive_tells time Up = tells_when Up (c.Broke w.KeepAlive) _ (down r) (down_tells Up w.KeepAlive refl)
  keep_alive_tells time Spilled = tt
  keep_alive_tells time Off = tt

  in_full_tells : (phase : Phase) → TellsRow phase (c.Broke w.InFull) (in_full_row r phase)
  unfolding in_full_row
  in_full_tells Down = tt
  in_full_tells Opening = tt
  in_full_tells Up = tt
  in_full_tells Spilled = down_tells Spilled w.InFull refl
  in_full_tells Off = tt

  broke_tells : (time : ℕ) (reason : Why) → TellsRow r.phase (c.Broke reason) (broke_row s r time reason)
  broke_tells time w.Fault = fault_tells r.phase
  broke_tells time w.End = end_tells r.phase
  broke_tells time w.Idle = idle_tells r.phase
  broke_tells time (w.Bad offset) = bytes_tells r.phase (w.Bad offset) refl
  broke_tells time (w.TooLong size) = bytes_tells r.phase (w.TooLong size) refl
  broke_tells time w.KeepAlive = keep_alive_tells time r.phase
  broke_tells time w.InFull = in_full_tells r.phase

  opened_tells : (phase : Phase) → TellsRow phase c.Opened (opened_row s r phase)
  unfolding opened_row
  opened_tells Down = tells_when Down c.Opened _ (to Opening _) (goes_on Down Opening c.Opened _ refl refl refl)
  opened_tells Opening = tt
  opened_tells Up = tt
  opened_tells Spilled = tt
  opened_tells Off = tt

  gave_up_tells : (phase : Phase) → TellsRow phase c.GaveUp (gave_up_row s r phase)
  unfolding gave_up_row
  gave_up_tells Down = tells_when Down c.GaveUp _ (ends s r) (goes_off Down c.GaveUp _ refl refl refl)
  gave_up_tells Opening = tt
  gave_up_tells Up = tt
  gave_up_tells Spilled = tt
  gave_up_tells Off = tt

  tick_tells : (time : ℕ) (phase : Phase) → TellsRow phase c.Tick (tick_row s r time phase)
  unfolding tick_row
  tick_tells time Down = tt
  tick_tells time Opening = tt
  tick_tells time Up = tells_when Up c.Tick _ (to Up _) (goes_on Up Up c.Tick _ refl refl refl)
  tick_tells time Spilled = tt
  tick_tells time Off = tt

  finish_tells : (phase : Phase) → TellsRow phase c.Finish (finish_row s r phase)
  unfolding finish_row
  finish_tells Down = tt
  finish_tells Opening = tt
  finish_tells Up = tells_when Up c.Finish _ (to Off _) (goes_off Up c.Finish _ refl refl refl)
  finish_tells Spilled = tt
  finish_tells Off = tt

  -- ---- Takes

  module _ (task seq : ℕ) where
    publish_tells : (qos : Qos) (topic payload : List ℕ) (request : Request) → TellsRow Up (c.Take task seq request) (takes.publish_row l r task seq qos topic payload)
    unfolding takes.publish_row
    publish_tells AtMostOnce topic payload request = goes_on Up Up (c.Take task seq request) _ refl refl refl
    publish_tells AtLeastOnce topic payload request = goes_on Up Up (c.Take task seq request) _ refl refl refl
    publish_tells ExactlyOnce topic payload request = goes_on Up Up (c.Take task seq request) _ refl refl refl

    disconnect_tells : (request : Request) → TellsRow Up (c.Take task seq request) (takes.disconnect_row s r task seq)
    unfolding takes.disconnect_row
    disconnect_tells request = goes_off Up (c.Take task seq request) _ refl (ap not (some_send o.Cancelled r.pending p.Disconnect _)) refl

    request_tells : (request : Request) → TellsRow Up (c.Take task seq request) (takes.up_row s l r task seq request)
    unfolding takes.subscribe_row takes.unsubscribe_row
    request_tells (requests.Publish qos topic payload) = publish_tells qos topic payload (requests.Publish qos topic payload)
    request_tells (requests.Subscribe asks) = goes_on Up Up (c.Take task seq (requests.Subscribe asks)) _ refl refl refl
    request_tells (requests.Unsubscribe filters) = goes_on Up Up (c.Take task seq (requests.Unsubscribe filters)) _ refl refl refl
    request_tells requests.Ping = goes_on Up Up (c.Take task seq requests.Ping) _ refl refl refl
    request_tells requests.Disconnect = disconnect_tells requests.Disconnect
    request_tells requests.Terminate = disconnect_tells requests.Terminate
    request_tells requests.Leave = goes_on Up Up (c.Take task seq requests.Leave) [] refl refl refl

    late_tells : (request : Request) → TellsRow Off (c.Take task seq request) (takes.off_row r task seq request)
    late_tells (requests.Publish qos topic payload) = stays_off (c.Take task seq (requests.Publish qos topic payload)) _ refl refl
    late_tells (requests.Subscribe asks) = stays_off (c.Take task seq (requests.Subscribe asks)) _ refl refl
    late_tells (requests.Unsubscribe filters) = stays_off (c.Take task seq (requests.Unsubscribe filters)) _ refl refl
    late_tells requests.Ping = stays_off (c.Take task seq requests.Ping) _ refl refl
    late_tells requests.Disconnect = stays_off (c.Take task seq requests.Disconnect) _ refl refl
    late_tells requests.Terminate = stays_off (c.Take task seq requests.Terminate) _ refl refl
    late_tells requests.Leave = stays_off (c.Take task seq requests.Leave) [] refl refl

    take_tells : (request : Request) (phase : Phase) → TellsRow phase (c.Take task seq request) (takes.take_in s l r task seq request phase)
    take_tells request Down = tt
    take_tells request Opening = tt
    take_tells request Up = request_tells request
    take_tells request Spilled = tt
    take_tells request Off = late_tells request

  cause_tells : (time : ℕ) (cause : Cause) → TellsRow r.phase cause (cause_row s l r time cause)
  unfolding takes.take_row arrived_row
  cause_tells time c.Opened = opened_tells r.phase
  cause_tells time (c.Take task seq request) = tells_when r.phase (c.Take task seq request) (takes.may_take s r task seq request) (takes.take_in s l r task seq request r.phase) (take_tells task seq request r.phase)
  cause_tells time (c.Arrived packet) = tells_when r.phase (c.Arrived packet) (is_sound packet) (arrived_in s l r packet r.phase) (arrived_tells packet r.phase)
  cause_tells time (c.Broke reason) = broke_tells time reason
  cause_tells time c.Tick = tick_tells time r.phase
  cause_tells time c.GaveUp = gave_up_tells r.phase
  cause_tells time c.Finish = finish_tells r.phase

  row_tells : (time : ℕ) (cause : Cause) → TellsRow r.phase cause (row_of s l r time cause)
  unfolding row_of
  row_tells time cause = tells_when r.phase cause (nat_le r.last_time time) (cause_row s l r time cause) (cause_tells time cause)

-- ---- Pasts

-- of an entry's row, with the phase that it leads to
record Leads (s : Setup) (l : Sizes) (past : List Entry) (e : Entry) : Type 0 where
  behind : is_off (phase_of s l past) ≡ true → comes_behind e.cause e.effects ≡ true
  ends : is_off (phase_of s l past) ≡ false → is_off (phase_of s l (e ∷ past)) ≡ true → comes_behind e.cause e.effects ≡ false
  opens : is_opening (phase_of s l (e ∷ past)) ≡ is_opened e.cause

leads : (s : Setup) (l : Sizes) (past : List Entry) (e : Entry) → effects_of (row s l past e.at e.cause) ≡ Some e.effects → Leads s l past e
leads s l past e legal = by (row s l past e.at e.cause) refl legal
  where
    by : (found : Option Row) → row s l past e.at e.cause ≡ found → effects_of found ≡ Some e.effects → Leads s l past e
    by None made has = absurd (cc has)
    by (Some found) made has =
        let tells : Tells (phase_of s l past) e.cause found = subst (TellsRow (phase_of s l past) e.cause) made (row_tells s l (readings s l past) e.at e.cause) in
        let same : found.effects ≡ e.effects = cc in
        let next : phase_of s l (e ∷ past) ≡ found.phase = ap (λ (x : Option Row). phase_by x (phase_of s l past)) made in
        record {
          behind = λ off. subst (λ es. comes_behind e.cause es ≡ true) same (tells.behind off);
          ends = λ on off. subst (λ es. comes_behind e.cause es ≡ false) same (tells.ends on (sym (ap is_off next) ∙ off));
          opens = ap is_opening next ∙ tells.opens;
        }

-- Only whether it is Opening makes a difference.
by_packet : (phase : Phase) (opened : Bool) (packet : Packet) → is_opening phase ≡ opened → ending_by (cond opened Opening Up) (c.Arrived packet) ≡ ending_by phase (c.Arrived packet)
by_packet Down true packet e = absurd (cc e)
by_packet Down false packet e = refl
by_packet Opening true packet e = refl
by_packet Opening false packet e = absurd (cc e)
by_packet Up true packet e = absurd (cc e)
by_packet Up false packet e = refl
by_packet Spilled true packet e = absurd (cc e)
by_packet Spilled false packet e = refl
by_packet Off true packet e = absurd (cc e)
by_packet Off false packet e = refl

by_cause : (phase : Phase) (opened : Bool) (cause : Cause) → is_opening phase ≡ opened → ending_by (cond opened Opening Up) cause ≡ ending_by phase cause
by_cause phase opened (c.Arrived packet) e = by_packet phase opened packet e
by_cause phase opened c.Opened e = refl
by_cause phase opened (c.Take task seq request) e = refl
by_cause phase opened (c.Broke reason) e = refl
by_cause phase opened c.Tick e = refl
by_cause phase opened c.GaveUp e = refl
by_cause phase opened c.Finish e = refl

told_phase : (s : Setup) (l : Sizes) (past : List Entry) (cause : Cause) → IsLegalPast s l past → ending_by (phase_told past) cause ≡ ending_by (phase_of s l past) cause
told_phase s l [] cause legal = by_cause Down false cause refl
told_phase s l (e ∷ past) cause legal = by_cause (phase_of s l (e ∷ past)) (is_opened e.cause) cause (leads s l past e legal.0).opens

pub endings_are_told : EndingsAreTold
endings_are_told s l [] ending legal has = absurd (cc has)
endings_are_told s l (e ∷ past) ending legal has = by (is_off (phase_of s l past)) (is_off (phase_of s l (e ∷ past))) refl refl has (endings_are_told s l past ending legal.1)
  where
    its : Leads s l past e
    its = leads s l past e legal.0

    by : (before after : Bool) → is_off (phase_of s l past) ≡ before → is_off (phase_of s l (e ∷ past)) ≡ after
        → cond before (ending_of s l past) (cond after (Some (ending_by (phase_of s l past) e.cause)) None) ≡ Some ending → (ending_of s l past ≡ Some ending → ending_told past ≡ Some ending) → ending_told (e ∷ past) ≡ Some ending
    by true after was is has rest = ap (λ b. cond b (ending_told past) (Some (ending_by (phase_told past) e.cause))) (its.behind was) ∙ rest has
    by false true was is has rest = ap (λ b. cond b (ending_told past) (Some (ending_by (phase_told past) e.cause))) (its.ends was is) ∙ ap Some (told_phase s l past e.cause legal.1) ∙ has
    by false false was is has rest = absurd (cc has)
