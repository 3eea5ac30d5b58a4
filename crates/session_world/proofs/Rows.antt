-- No row but that of a break leads to Down, where the agent doesn't wipe.
use Rattle.std.proofs.Common.{◌≡◌, ℕ, ◌+◌, ◌*◌, Bool, true, false, cond, List, [], ◌∷◌, ◌++◌, length, filter, Option, Some, None, refl, sym, ap, ◌∙◌, subst}
use Rattle.std.specs.Prelude.{◌==◌, ◌&&◌, not, nat_lt, nat_le}
use Rattle.std.specs.List.{list_any}
use Rattle.mqtt_packet.specs.declared.qos.Qos.{Qos}
use Rattle.mqtt_packet.specs.declared.qos.Qos.TheVariants.{AtMostOnce, AtLeastOnce, ExactlyOnce}
use Rattle.mqtt_packet.specs.declared.packet.Packet.{Packet}
use Rattle.mqtt_packet.specs.declared.packet.Packet.TheVariants as p
use Rattle.mqtt_packet.specs.declared.will.Ask.{Ask}
use Rattle.mqtt_packet.specs.Spelling.{is_sound}
use Rattle.topic_filter.specs.Texts.{is_name}
use Rattle.agent_journal.specs.declared.request.Request.{Request}
use Rattle.agent_journal.specs.declared.request.Request.TheVariants as requests
use Rattle.agent_journal.specs.declared.outcome.Outcome.TheVariants as o
use Rattle.agent_journal.specs.declared.entry.Cause.{Cause}
use Rattle.agent_journal.specs.declared.entry.Cause.TheVariants as c
use Rattle.agent_journal.specs.declared.entry.Why.{Why}
use Rattle.agent_journal.specs.declared.effect.Effect.{Effect}
use Rattle.agent_journal.specs.declared.effect.Effect.TheVariants as f
use Rattle.agent_journal.specs.declared.setup.Setup.{Setup}
use Rattle.agent_journal.specs.declared.setup.Phase.{Phase}
use Rattle.agent_journal.specs.declared.setup.Phase.TheVariants.{Down, Opening, Up, Spilled, Off}
use Rattle.agent_table.specs.Arrivals as arrivals
use Rattle.agent_table.specs.Breaks as breaks
use Rattle.agent_table.specs.Deliveries.{is_among, is_open_publish, is_exactly_once, is_at_least_once}
use Rattle.agent_table.specs.Effects.{cancel_all, close, resume, renew, lose_session, pass}
use Rattle.agent_table.specs.Readings.{Readings}
use Rattle.agent_table.specs.Rows.{Row, to, when, ends}
use Rattle.agent_table.specs.Sizes.{Sizes}
use Rattle.agent_table.specs.Table.{row_of, cause_row}
use Rattle.agent_table.specs.Takes as takes

abbrev pub Stays : Option Row → Type 0
Stays None = Unit {0}
Stays (Some row) = row.phase ≡ Down → ⊥

when_stays : (b : Bool) (row : Option Row) → Stays row → Stays (when b row)
when_stays true row h = h
when_stays false row h = tt

either_stays : (b : Bool) (x y : Option Row) → Stays x → Stays y → Stays (cond b x y)
either_stays true x y h k = h
either_stays false x y h k = k

to_up : (effects : List Effect) → Stays (to Up effects)
to_up effects = λ e. absurd (cc e)

to_off : (effects : List Effect) → Stays (to Off effects)
to_off effects = λ e. absurd (cc e)

module _ (s : Setup) (l : Sizes) (r : Readings) where
  -- ---- Packets in Opening

  first_stays : (present : Bool) → Stays (arrivals.first_row s r present)
  first_stays false = to_up []
  first_stays true = to_off (close s r)

  resumed_stays : (present : Bool) → Stays (arrivals.resumed_row r present)
  resumed_stays true = to_up (resume r ++ renew r r.unsure)
  resumed_stays false = to_up (lose_session r ++ renew r r.renewable)

  open_stays : (wiping : Bool) (present : Bool) → wiping ≡ false
      → Stays (cond wiping (to Down (f.Send p.Disconnect ∷ [])) (cond r.first (arrivals.first_row s r present) (arrivals.resumed_row r present)))
  open_stays true present e = absurd (cc e)
  open_stays false present e = either_stays r.first (arrivals.first_row s r present) (arrivals.resumed_row r present) (first_stays present) (resumed_stays present)

  connack_stays : (present : Bool) (code : ℕ) → r.wiping ≡ false → Stays (arrivals.connack_row s r present code)
  unfolding arrivals.connack_row
  connack_stays present code wiping =
      either_stays (not (code == 0)) (ends s r) (cond r.wiping (to Down (f.Send p.Disconnect ∷ [])) (cond r.first (arrivals.first_row s r present) (arrivals.resumed_row r present)))
      (to_off (cancel_all r ++ close s r)) (open_stays r.wiping present wiping)

  opening_stays : (packet : Packet) → r.wiping ≡ false → Stays (arrivals.opening_row s r packet)
  opening_stays (p.Publish a b d e f g) wiping = to_off (cancel_all r ++ close s r)
  opening_stays p.PingReq wiping = to_off (cancel_all r ++ close s r)
  opening_stays p.PingResp wiping = to_off (cancel_all r ++ close s r)
  opening_stays p.Disconnect wiping = to_off (cancel_all r ++ close s r)
  opening_stays (p.Connect a b d e f g) wiping = to_off (cancel_all r ++ close s r)
  opening_stays (p.ConnAck a b) wiping = connack_stays a b wiping
  opening_stays (p.PubAck a) wiping = to_off (cancel_all r ++ close s r)
  opening_stays (p.PubRec a) wiping = to_off (cancel_all r ++ close s r)
  opening_stays (p.PubRel a) wiping = to_off (cancel_all r ++ close s r)
  opening_stays (p.PubComp a) wiping = to_off (cancel_all r ++ close s r)
  opening_stays (p.Subscribe a b) wiping = to_off (cancel_all r ++ close s r)
  opening_stays (p.SubAck a b) wiping = to_off (cancel_all r ++ close s r)
  opening_stays (p.Unsubscribe a b) wiping = to_off (cancel_all r ++ close s r)
  opening_stays (p.UnsubAck a) wiping = to_off (cancel_all r ++ close s r)

  -- ---- Packets in Up

  received_stays : (topic : List ℕ) (id : ℕ) (payload : List ℕ) → Stays (arrivals.received_row s l r topic id payload)
  received_stays topic id payload =
      either_stays (is_among r.held id) (to Up (f.Send (p.PubRec id) ∷ [])) (cond (nat_lt (length r.held) l.inbound) (to Up (pass s r ExactlyOnce topic payload ++ f.Send (p.PubRec id) ∷ [])) (to Spilled []))
      (to_up (f.Send (p.PubRec id) ∷ []))
      (either_stays (nat_lt (length r.held) l.inbound) (to Up (pass s r ExactlyOnce topic payload ++ f.Send (p.PubRec id) ∷ [])) (to Spilled []) (to_up (pass s r ExactlyOnce topic payload ++ f.Send (p.PubRec id) ∷ [])) (λ e. absurd (cc e)))

  message_stays : (qos : Qos) (topic : List ℕ) (id : ℕ) (payload : List ℕ) → Stays (arrivals.message_row s l r qos topic id payload)
  message_stays AtMostOnce topic id payload = to_up (pass s r AtMostOnce topic payload)
  message_stays AtLeastOnce topic id payload = to_up (pass s r AtLeastOnce topic payload ++ f.Send (p.PubAck id) ∷ [])
  message_stays ExactlyOnce topic id payload = received_stays topic id payload

  publish_stays : (qos : Qos) (topic : List ℕ) (id : ℕ) (payload : List ℕ) → Stays (arrivals.publish_row s l r qos topic id payload)
  unfolding arrivals.publish_row
  publish_stays qos topic id payload = either_stays (is_name topic) (arrivals.message_row s l r qos topic id payload) (ends s r) (message_stays qos topic id payload) (to_off (cancel_all r ++ close s r))

  puback_stays : (n : ℕ) → Stays (arrivals.puback_row r n)
  unfolding arrivals.puback_row
  puback_stays n = to_up (arrivals.all_done (arrivals.publishes_at is_at_least_once n r.pending))

  pubrec_stays : (n : ℕ) → Stays (arrivals.pubrec_row r n)
  unfolding arrivals.pubrec_row
  pubrec_stays n = λ e. absurd (cc e)

  pubcomp_stays : (n : ℕ) → Stays (arrivals.pubcomp_row r n)
  unfolding arrivals.pubcomp_row
  pubcomp_stays n = λ e. absurd (cc e)

  suback_stays : (n : ℕ) (codes : List ℕ) → Stays (arrivals.suback_row s r n codes)
  unfolding arrivals.suback_row
  suback_stays n codes =
      either_stays (list_any (λ count. not (count == length codes)) (arrivals.awaited r n)) (ends s r) (to Up (arrivals.all_granted codes (filter (λ command. arrivals.is_subscribe command.request) (arrivals.at n r.pending))))
      (to_off (cancel_all r ++ close s r)) (λ e. absurd (cc e))

  unsuback_stays : (n : ℕ) → Stays (arrivals.unsuback_row r n)
  unfolding arrivals.unsuback_row
  unsuback_stays n = λ e. absurd (cc e)

  packet_stays : (packet : Packet) → Stays (arrivals.up_row s l r packet)
  packet_stays (p.Publish dup qos retain topic id payload) = publish_stays qos topic id payload
  packet_stays p.PingReq = to_off (cancel_all r ++ close s r)
  packet_stays p.PingResp = to_up []
  packet_stays p.Disconnect = to_off (cancel_all r ++ close s r)
  packet_stays (p.Connect a b d e f g) = to_off (cancel_all r ++ close s r)
  packet_stays (p.ConnAck a b) = to_off (cancel_all r ++ close s r)
  packet_stays (p.PubAck a) = puback_stays a
  packet_stays (p.PubRec a) = pubrec_stays a
  packet_stays (p.PubRel a) = to_up (f.Send (p.PubComp a) ∷ [])
  packet_stays (p.PubComp a) = pubcomp_stays a
  packet_stays (p.Subscribe a b) = to_off (cancel_all r ++ close s r)
  packet_stays (p.SubAck a b) = suback_stays a b
  packet_stays (p.Unsubscribe a b) = to_off (cancel_all r ++ close s r)
  packet_stays (p.UnsubAck a) = unsuback_stays a

  in_stays : (packet : Packet) (phase : Phase) → r.wiping ≡ false → Stays (arrivals.arrived_in s l r packet phase)
  in_stays packet Down wiping = tt
  in_stays packet Opening wiping = opening_stays packet wiping
  in_stays packet Up wiping = packet_stays packet
  in_stays packet Spilled wiping = tt
  in_stays packet Off wiping = tt

  arrived_stays : (packet : Packet) → r.wiping ≡ false → Stays (arrivals.arrived_row s l r packet)
  unfolding arrivals.arrived_row
  arrived_stays packet wiping = when_stays (is_sound packet) (arrivals.arrived_in s l r packet r.phase) (in_stays packet r.phase wiping)

  -- ---- Requests

  publishes_stays : (task seq : ℕ) (qos : Qos) (topic payload : List ℕ) → Stays (takes.publish_row l r task seq qos topic payload)
  unfolding takes.publish_row
  publishes_stays task seq AtMostOnce topic payload = λ e. absurd (cc e)
  publishes_stays task seq AtLeastOnce topic payload = λ e. absurd (cc e)
  publishes_stays task seq ExactlyOnce topic payload = λ e. absurd (cc e)

  request_stays : (task seq : ℕ) (request : Request) → Stays (takes.up_row s l r task seq request)
  unfolding takes.subscribe_row takes.unsubscribe_row takes.disconnect_row
  request_stays task seq (requests.Publish qos topic payload) = publishes_stays task seq qos topic payload
  request_stays task seq (requests.Subscribe asks) = λ e. absurd (cc e)
  request_stays task seq (requests.Unsubscribe filters) = λ e. absurd (cc e)
  request_stays task seq requests.Ping = λ e. absurd (cc e)
  request_stays task seq requests.Disconnect = λ e. absurd (cc e)
  request_stays task seq requests.Terminate = λ e. absurd (cc e)
  request_stays task seq requests.Leave = to_up []

  off_stays : (task seq : ℕ) (request : Request) → Stays (takes.off_row r task seq request)
  off_stays task seq (requests.Publish qos topic payload) = λ e. absurd (cc e)
  off_stays task seq (requests.Subscribe asks) = λ e. absurd (cc e)
  off_stays task seq (requests.Unsubscribe filters) = λ e. absurd (cc e)
  off_stays task seq requests.Ping = λ e. absurd (cc e)
  off_stays task seq requests.Disconnect = λ e. absurd (cc e)
  off_stays task seq requests.Terminate = λ e. absurd (cc e)
  off_stays task seq requests.Leave = λ e. absurd (cc e)

  taken_stays : (task seq : ℕ) (request : Request) (phase : Phase) → Stays (takes.take_in s l r task seq request phase)
  taken_stays task seq request Down = tt
  taken_stays task seq request Opening = tt
  taken_stays task seq request Up = request_stays task seq request
  taken_stays task seq request Spilled = tt
  taken_stays task seq request Off = off_stays task seq request

  take_stays : (task seq : ℕ) (request : Request) → Stays (takes.take_row s l r task seq request)
  unfolding takes.take_row
  take_stays task seq request = when_stays (takes.may_take s r task seq request) (takes.take_in s l r task seq request r.phase) (taken_stays task seq request r.phase)

  -- ---- The connection, and what is due

  opened_stays : (phase : Phase) → Stays (breaks.opened_row s r phase)
  unfolding breaks.opened_row
  opened_stays Down = when_stays (nat_le r.breaks s.reopen) (to Opening (f.Send (breaks.connect s r.wiping) ∷ [])) (λ e. absurd (cc e))
  opened_stays Opening = tt
  opened_stays Up = tt
  opened_stays Spilled = tt
  opened_stays Off = tt

  gave_up_stays : (phase : Phase) → Stays (breaks.gave_up_row s r phase)
  unfolding breaks.gave_up_row
  gave_up_stays Down = when_stays (r.breaks == s.reopen + 1) (ends s r) (to_off (cancel_all r ++ close s r))
  gave_up_stays Opening = tt
  gave_up_stays Up = tt
  gave_up_stays Spilled = tt
  gave_up_stays Off = tt

  tick_stays : (at : ℕ) (phase : Phase) → Stays (breaks.tick_row s r at phase)
  unfolding breaks.tick_row
  tick_stays at Down = tt
  tick_stays at Opening = tt
  tick_stays at Up = when_stays (nat_lt 0 s.keep_alive && breaks.is_absent r.ping && breaks.is_past r.last_sent (500 * s.keep_alive) at) (to Up (f.Send p.PingReq ∷ [])) (to_up (f.Send p.PingReq ∷ []))
  tick_stays at Spilled = tt
  tick_stays at Off = tt

  finish_stays : (phase : Phase) → Stays (breaks.finish_row s r phase)
  unfolding breaks.finish_row
  finish_stays Down = tt
  finish_stays Opening = tt
  finish_stays Up = when_stays (breaks.all_left s.tasks r.left && breaks.is_none r.pending) (to Off (f.Send p.Disconnect ∷ [])) (to_off (f.Send p.Disconnect ∷ []))
  finish_stays Spilled = tt
  finish_stays Off = tt

  -- ---- Every cause but a break

  abbrev pub IsNoBreak : Cause → Type 0
  IsNoBreak (c.Broke reason) = ⊥
  IsNoBreak _ = Unit {0}

  cause_stays : (at : ℕ) (cause : Cause) → r.wiping ≡ false → IsNoBreak cause → Stays (cause_row s l r at cause)
  cause_stays at c.Opened wiping h = opened_stays r.phase
  cause_stays at (c.Take task seq request) wiping h = take_stays task seq request
  cause_stays at (c.Arrived packet) wiping h = arrived_stays packet wiping
  cause_stays at (c.Broke reason) wiping h = absurd h
  cause_stays at c.Tick wiping h = tick_stays at r.phase
  cause_stays at c.GaveUp wiping h = gave_up_stays r.phase
  cause_stays at c.Finish wiping h = finish_stays r.phase

  pub stays : (at : ℕ) (cause : Cause) → r.wiping ≡ false → IsNoBreak cause → Stays (row_of s l r at cause)
  unfolding row_of
  stays at cause wiping h = when_stays (nat_le r.last_time at) (cause_row s l r at cause) (cause_stays at cause wiping h)

  opened_down : (phase : Phase) (found : Row) → breaks.opened_row s r phase ≡ Some found → phase ≡ Down
  unfolding breaks.opened_row
  opened_down Down found e = refl
  opened_down Opening found e = absurd (cc e)
  opened_down Up found e = absurd (cc e)
  opened_down Spilled found e = absurd (cc e)
  opened_down Off found e = absurd (cc e)

  timely : (b : Bool) (row : Option Row) (found : Row) → when b row ≡ Some found → row ≡ Some found
  timely true row found e = e
  timely false row found e = absurd (cc e)

  -- A connection is opened in Down.
  pub opens_in_down : (at : ℕ) (found : Row) → row_of s l r at c.Opened ≡ Some found → r.phase ≡ Down
  unfolding row_of
  opens_in_down at found e = opened_down r.phase found (timely (nat_le r.last_time at) (breaks.opened_row s r r.phase) found e)
