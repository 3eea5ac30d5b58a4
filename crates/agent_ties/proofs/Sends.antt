-- Which rows of the table send, and what has a row behind an entry that sends.
use Rattle.std.proofs.Common.{◌≡◌, ◌⊎◌, ℕ, zero, suc, ◌+◌, Bool, true, false, cond, List, [], ◌∷◌, ◌++◌, map, filter, Option, Some, None, refl, sym, ap, ◌∙◌, subst, inl, inr}
use Rattle.std.specs.Prelude.{◌==◌, not, nat_le, nat_lt, length}
use Rattle.std.specs.List.{list_any, flat_map}
use Rattle.std.proofs.lemmas.Grind.{flat_map-append}
use Rattle.mqtt_packet.specs.declared.qos.Qos.{Qos}
use Rattle.mqtt_packet.specs.declared.qos.Qos.TheVariants.{AtMostOnce, AtLeastOnce, ExactlyOnce}
use Rattle.mqtt_packet.specs.declared.packet.Packet.{Packet}
use Rattle.mqtt_packet.specs.declared.packet.Packet.TheVariants as p
use Rattle.mqtt_packet.specs.Spelling.{is_sound, spelling}
use Rattle.topic_filter.specs.Texts.{is_name}
use Rattle.agent_journal.specs.declared.request.Request.{Request}
use Rattle.agent_journal.specs.declared.request.Request.TheVariants as requests
use Rattle.agent_journal.specs.declared.outcome.Outcome.{Outcome}
use Rattle.agent_journal.specs.declared.effect.Effect.{Effect}
use Rattle.agent_journal.specs.declared.effect.Effect.TheVariants as f
use Rattle.agent_journal.specs.declared.entry.Cause.{Cause}
use Rattle.agent_journal.specs.declared.entry.Cause.TheVariants as c
use Rattle.agent_journal.specs.declared.entry.Why.{Why}
use Rattle.agent_journal.specs.declared.entry.Why.TheVariants as w
use Rattle.agent_journal.specs.declared.setup.Setup.{Setup}
use Rattle.agent_journal.specs.declared.setup.Phase.{Phase}
use Rattle.agent_journal.specs.declared.setup.Phase.TheVariants.{Down, Opening, Up, Spilled, Off}
use Rattle.agent_journal.specs.Readings.{Pending, accepts}
use Rattle.agent_table.specs.Breaks.{is_none, connect}
use Rattle.agent_journal.specs.Wires.{packet_in, sends, sent_in, is_opened}
use Rattle.agent_table.specs.Arrivals.{arrived_row, arrived_in, opening_row, connack_row, first_row, resumed_row, up_row, publish_row, message_row, received_row, puback_row, pubrec_row, pubcomp_row, suback_row, unsuback_row, awaited}
use Rattle.agent_table.specs.Breaks.{opened_row, broke_row, fault_row, end_row, idle_row, bytes_row, keep_alive_row, in_full_row, gave_up_row, tick_row, finish_row, down, is_past}
use Rattle.agent_table.specs.Deliveries.{is_among}
use Rattle.agent_table.specs.Effects.{done, cancel_all, close, closed_below, lose_link, pass}
use Rattle.agent_table.specs.Readings.{Readings}
use Rattle.agent_table.specs.Rows.{Row, to, when, ends}
use Rattle.agent_table.specs.Sizes.{Sizes}
use Rattle.agent_table.specs.Table.{cause_row}
use Rattle.agent_table.specs.Ties.{listens}
use Rattle.agent_table.specs.Takes as takes
use Rattle.agent_ties.proofs.Rows.{TakenIn, take_leads, finish_leads, tick_leads}

-- ---- Effects that send nothing

abbrev pub Silent : List Effect → Type 0
Silent effects = sends effects ≡ []

dones : (outcome : Outcome) (commands : List Pending) → Silent (map (done outcome) commands)
dones outcome [] = refl
dones outcome (command ∷ commands) = dones outcome commands

silent_both : (one more : List Effect) → Silent one → Silent more → Silent (one ++ more)
silent_both one more h k = flat_map-append packet_in one more ∙ ap (λ packets. packets ++ sends more) h ∙ k

closes_one : (b : Bool) (n : ℕ) → Silent (cond b [] (f.Closed n ∷ []))
closes_one true n = refl
closes_one false n = refl

closes : (n : ℕ) (left : ℕ → Bool) → Silent (closed_below n left)
closes zero left = refl
closes (suc n) left = silent_both (closed_below n left) (cond (left n) [] (f.Closed n ∷ [])) (closes n left) (closes_one (left n) n)

lost_silent : (r : Readings) → Silent (lose_link r)
lost_silent r = dones _ (filter _ r.pending)

ended_silent : (s : Setup) (r : Readings) → Silent (cancel_all r ++ close s r)
ended_silent s r = silent_both (cancel_all r) (close s r) (dones _ r.pending) (closes s.tasks r.left)

abbrev pub nothing : (effects : List Effect) → Silent effects → sent_in effects ≡ []
nothing effects h = ap (flat_map spelling) h

-- ---- Properties of rows

-- a property of the row that there is
abbrev pub OfRow : (Row → Type 0) → Option Row → Type 0
OfRow P None = Unit {0}
OfRow P (Some row) = P row

pub there : (P : Row → Type 0) (r : Option Row) (found : Row) → r ≡ Some found → OfRow P r → P found
there P r found e h = subst (OfRow P) e h

pub when_of : (P : Row → Type 0) (b : Bool) (r : Option Row) → OfRow P r → OfRow P (when b r)
when_of P true r h = h
when_of P false r h = tt

pub either : (P : Row → Type 0) (b : Bool) (r q : Option Row) → OfRow P r → OfRow P q → OfRow P (cond b r q)
either P true r q h k = h
either P false r q h k = k

abbrev IsSilent : Row → Type 0
IsSilent row = Silent row.effects

-- a connection is there no more
abbrev pub is_gone : Phase → Bool
is_gone Down = true
is_gone Opening = false
is_gone Up = false
is_gone Spilled = false
is_gone Off = true

-- it sends nothing, and there is no connection then
abbrev pub IsGone : Row → Type 0
IsGone row = Silent row.effects × (is_gone row.phase ≡ true)

abbrev IsElsewhere : Row → Type 0
IsElsewhere row = row.phase ≡ Down → ⊥

module _ (s : Setup) (l : Sizes) (r : Readings) (at : ℕ) where
  -- ---- Breaks send nothing

  fault_silent : (phase : Phase) → OfRow IsSilent (fault_row s r phase)
  unfolding fault_row
  fault_silent Down = when_of IsSilent (nat_le r.breaks s.reopen) (to Down []) refl
  fault_silent Opening = lost_silent r
  fault_silent Up = lost_silent r
  fault_silent Spilled = lost_silent r
  fault_silent Off = when_of IsSilent r.just_sent (to Off []) refl

  end_silent : (phase : Phase) → OfRow IsSilent (end_row r phase)
  unfolding end_row
  end_silent Down = tt
  end_silent Opening = lost_silent r
  end_silent Up = lost_silent r
  end_silent Spilled = tt
  end_silent Off = tt

  idle_silent : (phase : Phase) → OfRow IsSilent (idle_row r phase)
  unfolding idle_row
  idle_silent Down = tt
  idle_silent Opening = lost_silent r
  idle_silent Up = when_of IsSilent (not (is_none r.pending)) (down r) (lost_silent r)
  idle_silent Spilled = tt
  idle_silent Off = tt

  bytes_silent : (phase : Phase) → OfRow IsSilent (bytes_row s r phase)
  unfolding bytes_row
  bytes_silent Down = tt
  bytes_silent Opening = ended_silent s r
  bytes_silent Up = ended_silent s r
  bytes_silent Spilled = tt
  bytes_silent Off = tt

  keep_alive_silent : (phase : Phase) → OfRow IsSilent (keep_alive_row r at phase)
  unfolding keep_alive_row
  keep_alive_silent Down = tt
  keep_alive_silent Opening = tt
  keep_alive_silent Up = when_of IsSilent (is_past r.ping 5000 at) (down r) (lost_silent r)
  keep_alive_silent Spilled = tt
  keep_alive_silent Off = tt

  in_full_silent : (phase : Phase) → OfRow IsSilent (in_full_row r phase)
  unfolding in_full_row
  in_full_silent Down = tt
  in_full_silent Opening = tt
  in_full_silent Up = tt
  in_full_silent Spilled = lost_silent r
  in_full_silent Off = tt

  broke_of : (why : Why) → OfRow IsSilent (broke_row s r at why)
  broke_of w.Fault = fault_silent r.phase
  broke_of w.End = end_silent r.phase
  broke_of w.Idle = idle_silent r.phase
  broke_of (w.Bad offset) = bytes_silent r.phase
  broke_of (w.TooLong size) = bytes_silent r.phase
  broke_of w.KeepAlive = keep_alive_silent r.phase
  broke_of w.InFull = in_full_silent r.phase

  pub broke_silent : (why : Why) (found : Row) → broke_row s r at why ≡ Some found → Silent found.effects
  broke_silent why found e = there IsSilent (broke_row s r at why) found e (broke_of why)

  gave_up_of : (phase : Phase) → OfRow IsGone (gave_up_row s r phase)
  unfolding gave_up_row
  gave_up_of Down = when_of IsGone (r.breaks == s.reopen + 1) (ends s r) (ended_silent s r, refl)
  gave_up_of Opening = tt
  gave_up_of Up = tt
  gave_up_of Spilled = tt
  gave_up_of Off = tt

  -- ---- Where there is no connection, none begins but with Opened

  gone_fault : (phase : Phase) → is_gone phase ≡ true → OfRow IsGone (fault_row s r phase)
  unfolding fault_row
  gone_fault Down e = when_of IsGone (nat_le r.breaks s.reopen) (to Down []) (refl, refl)
  gone_fault Opening e = absurd (cc e)
  gone_fault Up e = absurd (cc e)
  gone_fault Spilled e = absurd (cc e)
  gone_fault Off e = when_of IsGone r.just_sent (to Off []) (refl, refl)

  gone_end : (phase : Phase) → is_gone phase ≡ true → OfRow IsGone (end_row r phase)
  unfolding end_row
  gone_end Down e = tt
  gone_end Opening e = absurd (cc e)
  gone_end Up e = absurd (cc e)
  gone_end Spilled e = tt
  gone_end Off e = tt

  gone_idle : (phase : Phase) → is_gone phase ≡ true → OfRow IsGone (idle_row r phase)
  unfolding idle_row
  gone_idle Down e = tt
  gone_idle Opening e = absurd (cc e)
  gone_idle Up e = absurd (cc e)
  gone_idle Spilled e = tt
  gone_idle Off e = tt

  gone_bytes : (phase : Phase) → is_gone phase ≡ true → OfRow IsGone (bytes_row s r phase)
  unfolding bytes_row
  gone_bytes Down e = tt
  gone_bytes Opening e = absurd (cc e)
  gone_bytes Up e = absurd (cc e)
  gone_bytes Spilled e = tt
  gone_bytes Off e = tt

  gone_keep_alive : (phase : Phase) → is_gone phase ≡ true → OfRow IsGone (keep_alive_row r at phase)
  unfolding keep_alive_row
  gone_keep_alive Down e = tt
  gone_keep_alive Opening e = tt
  gone_keep_alive Up e = absurd (cc e)
  gone_keep_alive Spilled e = tt
  gone_keep_alive Off e = tt

  gone_in_full : (phase : Phase) → is_gone phase ≡ true → OfRow IsGone (in_full_row r phase)
  unfolding in_full_row
  gone_in_full Down e = tt
  gone_in_full Opening e = tt
  gone_in_full Up e = tt
  gone_in_full Spilled e = absurd (cc e)
  gone_in_full Off e = tt

  gone_broke : (why : Why) → is_gone r.phase ≡ true → OfRow IsGone (broke_row s r at why)
  gone_broke w.Fault e = gone_fault r.phase e
  gone_broke w.End e = gone_end r.phase e
  gone_broke w.Idle e = gone_idle r.phase e
  gone_broke (w.Bad offset) e = gone_bytes r.phase e
  gone_broke (w.TooLong size) e = gone_bytes r.phase e
  gone_broke w.KeepAlive e = gone_keep_alive r.phase e
  gone_broke w.InFull e = gone_in_full r.phase e

  off_gone : (task seq : ℕ) (request : Request) → OfRow IsGone (takes.off_row r task seq request)
  off_gone task seq (requests.Publish qos topic payload) = (refl, refl)
  off_gone task seq (requests.Subscribe asks) = (refl, refl)
  off_gone task seq (requests.Unsubscribe filters) = (refl, refl)
  off_gone task seq requests.Ping = (refl, refl)
  off_gone task seq requests.Disconnect = (refl, refl)
  off_gone task seq requests.Terminate = (refl, refl)
  off_gone task seq requests.Leave = (refl, refl)

  gone_in : (task seq : ℕ) (request : Request) (phase : Phase) → is_gone phase ≡ true → OfRow IsGone (takes.take_in s l r task seq request phase)
  gone_in task seq request Down e = tt
  gone_in task seq request Opening e = absurd (cc e)
  gone_in task seq request Up e = absurd (cc e)
  gone_in task seq request Spilled e = tt
  gone_in task seq request Off e = off_gone task seq request

  gone_take : (task seq : ℕ) (request : Request) → is_gone r.phase ≡ true → OfRow IsGone (takes.take_row s l r task seq request)
  unfolding takes.take_row
  gone_take task seq request e = when_of IsGone (takes.may_take s r task seq request) (takes.take_in s l r task seq request r.phase) (gone_in task seq request r.phase e)

  gone_arrived_in : (packet : Packet) (phase : Phase) → is_gone phase ≡ true → OfRow IsGone (arrived_in s l r packet phase)
  gone_arrived_in packet Down e = tt
  gone_arrived_in packet Opening e = absurd (cc e)
  gone_arrived_in packet Up e = absurd (cc e)
  gone_arrived_in packet Spilled e = tt
  gone_arrived_in packet Off e = tt

  gone_arrived : (packet : Packet) → is_gone r.phase ≡ true → OfRow IsGone (arrived_row s l r packet)
  unfolding arrived_row
  gone_arrived packet e = when_of IsGone (is_sound packet) (arrived_in s l r packet r.phase) (gone_arrived_in packet r.phase e)

  gone_tick : (phase : Phase) → is_gone phase ≡ true → OfRow IsGone (tick_row s r at phase)
  unfolding tick_row
  gone_tick Down e = tt
  gone_tick Opening e = tt
  gone_tick Up e = absurd (cc e)
  gone_tick Spilled e = tt
  gone_tick Off e = tt

  gone_finish : (phase : Phase) → is_gone phase ≡ true → OfRow IsGone (finish_row s r phase)
  unfolding finish_row
  gone_finish Down e = tt
  gone_finish Opening e = tt
  gone_finish Up e = absurd (cc e)
  gone_finish Spilled e = tt
  gone_finish Off e = tt

  gone_of : (cause : Cause) → is_opened cause ≡ false → is_gone r.phase ≡ true → OfRow IsGone (cause_row s l r at cause)
  gone_of c.Opened other e = absurd (cc other)
  gone_of (c.Take task seq request) other e = gone_take task seq request e
  gone_of (c.Arrived packet) other e = gone_arrived packet e
  gone_of (c.Broke why) other e = gone_broke why e
  gone_of c.Tick other e = gone_tick r.phase e
  gone_of c.GaveUp other e = gave_up_of r.phase
  gone_of c.Finish other e = gone_finish r.phase e

  pub gone_stays : (cause : Cause) (found : Row) → cause_row s l r at cause ≡ Some found → is_opened cause ≡ false → is_gone r.phase ≡ true → IsGone found
  gone_stays cause found e other gone = there IsGone (cause_row s l r at cause) found e (gone_of cause other gone)

  -- ---- Rows that lead to Down and send

  first_elsewhere : (present : Bool) → OfRow IsElsewhere (first_row s r present)
  first_elsewhere false = λ e. cc e
  first_elsewhere true = λ e. cc e

  resumed_elsewhere : (present : Bool) → OfRow IsElsewhere (resumed_row r present)
  resumed_elsewhere false = λ e. cc e
  resumed_elsewhere true = λ e. cc e

  ends_elsewhere : OfRow IsElsewhere (ends s r)
  ends_elsewhere = λ e. cc e

  received_elsewhere : (topic : List ℕ) (id : ℕ) (payload : List ℕ) → OfRow IsElsewhere (received_row s l r topic id payload)
  received_elsewhere topic id payload =
      either IsElsewhere (is_among r.held id) (to Up (f.Send (p.PubRec id) ∷ []))
      (cond (nat_lt (length r.held) l.inbound) (to Up (pass s r ExactlyOnce topic payload ++ f.Send (p.PubRec id) ∷ [])) (to Spilled [])) (λ e. cc e)
      (either IsElsewhere (nat_lt (length r.held) l.inbound) (to Up (pass s r ExactlyOnce topic payload ++ f.Send (p.PubRec id) ∷ [])) (to Spilled []) (λ e. cc e) (λ e. cc e))

  message_elsewhere : (qos : Qos) (topic : List ℕ) (id : ℕ) (payload : List ℕ) → OfRow IsElsewhere (message_row s l r qos topic id payload)
  message_elsewhere AtMostOnce topic id payload = λ e. cc e
  message_elsewhere AtLeastOnce topic id payload = λ e. cc e
  message_elsewhere ExactlyOnce topic id payload = received_elsewhere topic id payload

  publish_elsewhere : (qos : Qos) (topic : List ℕ) (id : ℕ) (payload : List ℕ) → OfRow IsElsewhere (publish_row s l r qos topic id payload)
  unfolding publish_row
  publish_elsewhere qos topic id payload = either IsElsewhere (is_name topic) (message_row s l r qos topic id payload) (ends s r) (message_elsewhere qos topic id payload) ends_elsewhere

  up_elsewhere : (packet : Packet) → OfRow IsElsewhere (up_row s l r packet)
  unfolding puback_row pubrec_row pubcomp_row suback_row unsuback_row
  up_elsewhere (p.Connect clean keep_alive client will user password) = λ e. cc e
  up_elsewhere (p.ConnAck present code) = λ e. cc e
  up_elsewhere (p.Publish dup qos retain topic id payload) = publish_elsewhere qos topic id payload
  up_elsewhere (p.PubAck id) = λ e. cc e
  up_elsewhere (p.PubRec id) = λ e. cc e
  up_elsewhere (p.PubRel id) = λ e. cc e
  up_elsewhere (p.PubComp id) = λ e. cc e
  up_elsewhere (p.Subscribe id asks) = λ e. cc e
  up_elsewhere (p.SubAck id codes) = either IsElsewhere (list_any (λ count. not (count == length codes)) (awaited r id)) (ends s r) (to Up _) ends_elsewhere (λ e. cc e)
  up_elsewhere (p.Unsubscribe id filters) = λ e. cc e
  up_elsewhere (p.UnsubAck id) = λ e. cc e
  up_elsewhere p.PingReq = λ e. cc e
  up_elsewhere p.PingResp = λ e. cc e
  up_elsewhere p.Disconnect = λ e. cc e

  -- it sends nothing, or sets the count of breaks back, or leads elsewhere
  abbrev IsMild : Cause → Row → Type 0
  IsMild cause row = row.phase ≡ Down → Silent row.effects ⊎ (accepts cause ≡ true)

  elsewhere : (cause : Cause) (q : Option Row) → OfRow IsElsewhere q → OfRow (IsMild cause) q
  elsewhere cause None h = tt
  elsewhere cause (Some row) h = λ e. absurd (h e)

  connack_mild : (present : Bool) (code : ℕ) → OfRow (IsMild (c.Arrived (p.ConnAck present code))) (connack_row s r present code)
  unfolding connack_row
  connack_mild present code = by (code == 0) refl
    where
      by : (b : Bool) → (code == 0) ≡ b → OfRow (IsMild (c.Arrived (p.ConnAck present code))) (cond (not b) (ends s r) (cond r.wiping (to Down (f.Send p.Disconnect ∷ [])) (cond r.first (first_row s r present) (resumed_row r present))))
      by true e =
          either (IsMild (c.Arrived (p.ConnAck present code))) r.wiping (to Down (f.Send p.Disconnect ∷ [])) (cond r.first (first_row s r present) (resumed_row r present)) (λ is. inr e)
          (either (IsMild (c.Arrived (p.ConnAck present code))) r.first (first_row s r present) (resumed_row r present) (elsewhere (c.Arrived (p.ConnAck present code)) (first_row s r present) (first_elsewhere present))
          (elsewhere (c.Arrived (p.ConnAck present code)) (resumed_row r present) (resumed_elsewhere present)))
      by false e = λ is. absurd (cc is)

  opening_mild : (packet : Packet) → OfRow (IsMild (c.Arrived packet)) (opening_row s r packet)
  opening_mild (p.Connect clean keep_alive client will user password) = λ e. absurd (cc e)
  opening_mild (p.ConnAck present code) = connack_mild present code
  opening_mild (p.Publish dup qos retain topic id payload) = λ e. absurd (cc e)
  opening_mild (p.PubAck id) = λ e. absurd (cc e)
  opening_mild (p.PubRec id) = λ e. absurd (cc e)
  opening_mild (p.PubRel id) = λ e. absurd (cc e)
  opening_mild (p.PubComp id) = λ e. absurd (cc e)
  opening_mild (p.Subscribe id asks) = λ e. absurd (cc e)
  opening_mild (p.SubAck id codes) = λ e. absurd (cc e)
  opening_mild (p.Unsubscribe id filters) = λ e. absurd (cc e)
  opening_mild (p.UnsubAck id) = λ e. absurd (cc e)
  opening_mild p.PingReq = λ e. absurd (cc e)
  opening_mild p.PingResp = λ e. absurd (cc e)
  opening_mild p.Disconnect = λ e. absurd (cc e)

  arrived_mild_in : (packet : Packet) (phase : Phase) → OfRow (IsMild (c.Arrived packet)) (arrived_in s l r packet phase)
  arrived_mild_in packet Down = tt
  arrived_mild_in packet Opening = opening_mild packet
  arrived_mild_in packet Up = elsewhere (c.Arrived packet) (up_row s l r packet) (up_elsewhere packet)
  arrived_mild_in packet Spilled = tt
  arrived_mild_in packet Off = tt

  arrived_mild : (packet : Packet) → OfRow (IsMild (c.Arrived packet)) (arrived_row s l r packet)
  unfolding arrived_row
  arrived_mild packet = when_of (IsMild (c.Arrived packet)) (is_sound packet) (arrived_in s l r packet r.phase) (arrived_mild_in packet r.phase)

  opened_elsewhere : (phase : Phase) → OfRow IsElsewhere (opened_row s r phase)
  unfolding opened_row
  opened_elsewhere Down = when_of IsElsewhere (nat_le r.breaks s.reopen) (to Opening (f.Send (connect s r.wiping) ∷ [])) (λ e. cc e)
  opened_elsewhere Opening = tt
  opened_elsewhere Up = tt
  opened_elsewhere Spilled = tt
  opened_elsewhere Off = tt

  up_or_off : (found : Row) → (found.phase ≡ Up) ⊎ (found.phase ≡ Off) → found.phase ≡ Down → ⊥
  up_or_off found (inl up) e = cc (sym up ∙ e)
  up_or_off found (inr off) e = cc (sym off ∙ e)

  pub down_mild : (cause : Cause) (found : Row) → cause_row s l r at cause ≡ Some found → IsMild cause found
  down_mild c.Opened found e = λ is. absurd (there IsElsewhere (opened_row s r r.phase) found e (opened_elsewhere r.phase) is)
  down_mild (c.Take task seq request) found e = λ is. absurd (by r.phase (take_leads s l r at found task seq request e) is)
    where
      by : (phase : Phase) → TakenIn found phase → found.phase ≡ Down → ⊥
      by Down h is = h
      by Opening h is = h
      by Up h is = up_or_off found h is
      by Spilled h is = h
      by Off h is = cc (sym h ∙ is)
  down_mild (c.Arrived packet) found e = there (IsMild (c.Arrived packet)) (arrived_row s l r packet) found e (arrived_mild packet)
  down_mild (c.Broke why) found e = λ is. inl (broke_silent why found e)
  down_mild c.Tick found e = λ is. absurd (cc (sym (ap (λ row. row.phase) (tick_leads s l r at found r.phase e).1.1) ∙ is))
  down_mild c.GaveUp found e = λ is. inl (there IsGone (gave_up_row s r r.phase) found e (gave_up_of r.phase)).0
  down_mild c.Finish found e = λ is. absurd (cc (sym (finish_leads s l r at found r.phase e).1 ∙ is))

  -- ---- Where the agent doesn't listen, it won't but with Opened

  abbrev pub IsAway : Row → Type 0
  IsAway row = listens row.phase ≡ false

  spilled_broke : (why : Why) → r.phase ≡ Spilled → OfRow IsAway (broke_row s r at why)
  unfolding fault_row end_row idle_row bytes_row keep_alive_row in_full_row
  spilled_broke w.Fault e = rw e refl
  spilled_broke w.End e = rw e tt
  spilled_broke w.Idle e = rw e tt
  spilled_broke (w.Bad offset) e = rw e tt
  spilled_broke (w.TooLong size) e = rw e tt
  spilled_broke w.KeepAlive e = rw e tt
  spilled_broke w.InFull e = rw e refl

  spilled_of : (cause : Cause) → is_opened cause ≡ false → r.phase ≡ Spilled → OfRow IsAway (cause_row s l r at cause)
  unfolding takes.take_row arrived_row tick_row gave_up_row finish_row
  spilled_of c.Opened other e = absurd (cc other)
  spilled_of (c.Take task seq request) other e = when_of IsAway (takes.may_take s r task seq request) (takes.take_in s l r task seq request r.phase) (rw e tt)
  spilled_of (c.Arrived packet) other e = when_of IsAway (is_sound packet) (arrived_in s l r packet r.phase) (rw e tt)
  spilled_of (c.Broke why) other e = spilled_broke why e
  spilled_of c.Tick other e = rw e tt
  spilled_of c.GaveUp other e = rw e tt
  spilled_of c.Finish other e = rw e tt

  pub gone_away : (phase : Phase) → is_gone phase ≡ true → listens phase ≡ false
  gone_away Down e = refl
  gone_away Opening e = absurd (cc e)
  gone_away Up e = absurd (cc e)
  gone_away Spilled e = absurd (cc e)
  gone_away Off e = refl

  pub away_stays : (cause : Cause) (found : Row) → cause_row s l r at cause ≡ Some found → is_opened cause ≡ false → listens r.phase ≡ false → listens found.phase ≡ false
  away_stays cause found e other away = by r.phase refl away
    where
      by : (phase : Phase) → r.phase ≡ phase → listens phase ≡ false → listens found.phase ≡ false
      by Down is away = gone_away found.phase (gone_stays cause found e other (ap is_gone is)).1
      by Opening is away = absurd (cc away)
      by Up is away = absurd (cc away)
      by Spilled is away = there IsAway (cause_row s l r at cause) found e (spilled_of cause other is)
      by Off is away = gone_away found.phase (gone_stays cause found e other (ap is_gone is)).1
