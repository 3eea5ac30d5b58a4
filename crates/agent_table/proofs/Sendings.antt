-- What a row sends: no PUBLISH of a released identifier, a PUBREL only of a released one or at its PUBREC, and in Off nothing.
use Rattle.std.proofs.Common.{◌≡◌, ◌⊎◌, ℕ, zero, suc, ◌≤◌, ◌<◌, Bool, true, false, cond, List, [], ◌∷◌, ◌++◌, map, drop, filter, length, Option, Some, None, refl, sym, ap, ◌∙◌}
use Rattle.std.specs.Prelude.{◌||◌, ◌==◌, not, nat_lt, nat_le}
use Rattle.std.specs.List.{list_any, flat_map, AllByRecursion}
use Rattle.std.proofs.lemmas.Bool.{eqb-true, eq-eqb, not-true}
use Rattle.std.proofs.lemmas.List.{append_assoc}
use Rattle.std.proofs.Math.Bool.{or-true, and-false}
use mathlib.Core.Logic.{inl, inr}
use Rattle.mqtt_packet.specs.declared.qos.Qos.{Qos}
use Rattle.mqtt_packet.specs.declared.qos.Qos.TheVariants.{AtMostOnce, AtLeastOnce, ExactlyOnce}
use Rattle.mqtt_packet.specs.declared.packet.Packet.{Packet}
use Rattle.mqtt_packet.specs.declared.packet.Packet.TheVariants as p
use Rattle.mqtt_packet.specs.declared.will.Ask.{Ask}
use Rattle.mqtt_packet.specs.Spelling.{is_sound}
use Rattle.topic_filter.specs.Texts.{is_name}
use Rattle.agent_journal.specs.declared.request.Request.{Request}
use Rattle.agent_journal.specs.declared.request.Request.TheVariants as requests
use Rattle.agent_journal.specs.declared.message.Message.{Message}
use Rattle.agent_journal.specs.declared.outcome.Outcome.{Outcome}
use Rattle.agent_journal.specs.declared.outcome.Outcome.TheVariants as o
use Rattle.agent_journal.specs.declared.entry.Cause.{Cause}
use Rattle.agent_journal.specs.declared.entry.Cause.TheVariants as c
use Rattle.agent_journal.specs.declared.entry.Why.{Why}
use Rattle.agent_journal.specs.declared.entry.Why.TheVariants as w
use Rattle.agent_journal.specs.declared.effect.Effect.{Effect}
use Rattle.agent_journal.specs.declared.effect.Effect.TheVariants as f
use Rattle.agent_journal.specs.declared.setup.Setup.{Setup}
use Rattle.agent_journal.specs.declared.setup.Phase.{Phase}
use Rattle.agent_journal.specs.declared.setup.Phase.TheVariants.{Down, Opening, Up, Spilled, Off}
use Rattle.agent_journal.specs.Readings.{Pending}
use Rattle.agent_table.specs.Arrivals.{arrived_row, arrived_in, opening_row, up_row, connack_row, first_row, resumed_row, publish_row, message_row, puback_row, pubrec_row, pubcomp_row, suback_row, unsuback_row, awaited, is_subscribe, at, publishes_at, all_done, all_granted}
use Rattle.agent_table.specs.Awaiting.{identifies, ends_waiting}
use Rattle.agent_table.specs.Breaks.{opened_row, broke_row, fault_row, end_row, idle_row, bytes_row, keep_alive_row, in_full_row, gave_up_row, tick_row, finish_row, down}
use Rattle.agent_table.specs.Deliveries.{is_among, is_open_publish, is_exactly_once}
use Rattle.agent_table.specs.Effects.{done, cancel_all, close, closed_below, resume, again_by, renew, subscribes, pass, passed_below, is_reached, used, fresh_id}
use Rattle.agent_table.specs.Identifiers.{fresh}
use Rattle.agent_table.specs.Readings.{Readings}
use Rattle.agent_table.specs.Rows.{Row, to, when, ends}
use Rattle.agent_table.specs.Sends.{drawn_at}
use Rattle.agent_table.specs.Sizes.{Sizes}
use Rattle.agent_table.specs.Table.{row_of, cause_row}
use Rattle.agent_table.specs.Takes as takes
use Rattle.agent_table.proofs.Fresh.{fresh_in_range, fresh_is_free}
use Rattle.agent_table.proofs.SoundRows.{IsLow, all_both, all_passed}

-- the other number isn't this one, of which only one is among these
other_number : (ns : List ℕ) (id n : ℕ) → is_among ns id ≡ false → is_among ns n ≡ true → (id == n) ≡ false
other_number ns id n none one = go (id == n) refl
  where
    go : (b : Bool) → (id == n) ≡ b → b ≡ false
    go false e = refl
    go true e = let same : id ≡ n = eqb-true id n e in absurd (cc (sym none ∙ ap (is_among ns) same ∙ one))

module _ (s : Setup) (l : Sizes) (r : Readings) (cause : Cause) where
  -- a PUBREL of this identifier is due: it is released and waits on, or its PUBREC arrives now
  abbrev pub IsDue : ℕ → Type 0
  IsDue n = ((is_among r.released n ≡ true) × (ends_waiting n cause ≡ false)) ⊎ ((cause ≡ c.Arrived (p.PubRec n)) × (is_open_publish is_exactly_once r.pending n ≡ true))

  pub record FitsPublish (dup : Bool) (qos : Qos) (id : ℕ) : Type 0 where
    pub unreleased : (n : ℕ) → is_among r.released n ≡ true → identifies qos id n ≡ false
    pub alone : (n : ℕ) → cause ≡ c.Arrived (p.PubRec n) → ⊥
    pub drawn : AllByRecursion IsLow (drawn_at dup qos id)

  abbrev pub FitsSent : Packet → Type 0
  FitsSent (p.Connect clean keep_alive client will user password) = Unit {0}
  FitsSent (p.ConnAck present code) = Unit {0}
  FitsSent (p.Publish dup qos retain topic id payload) = FitsPublish dup qos id
  FitsSent (p.PubAck id) = Unit {0}
  FitsSent (p.PubRec id) = Unit {0}
  FitsSent (p.PubRel id) = IsDue id
  FitsSent (p.PubComp id) = Unit {0}
  FitsSent (p.Subscribe id asks) = IsLow id
  FitsSent (p.SubAck id codes) = Unit {0}
  FitsSent (p.Unsubscribe id filters) = IsLow id
  FitsSent (p.UnsubAck id) = Unit {0}
  FitsSent p.PingReq = Unit {0}
  FitsSent p.PingResp = Unit {0}
  FitsSent p.Disconnect = Unit {0}

  abbrev pub FitsEffect : Effect → Type 0
  FitsEffect (f.Send packet) = FitsSent packet
  FitsEffect (f.Done task seq outcome) = Unit {0}
  FitsEffect (f.Pass task message) = Unit {0}
  FitsEffect (f.Closed task) = Unit {0}

  abbrev pub Fit : List Effect → Type 0
  Fit effects = AllByRecursion FitsEffect effects

  abbrev pub FitsRow : Option Row → Type 0
  FitsRow None = Unit {0}
  FitsRow (Some row) = Fit row.effects

  fit_both : (xs ys : List Effect) → Fit xs → Fit ys → Fit (xs ++ ys)
  fit_both xs ys h k = all_both FitsEffect xs ys h k

  fit_done : (outcome : Outcome) (commands : List Pending) → Fit (map (done outcome) commands)
  fit_done outcome [] = tt
  fit_done outcome (command ∷ commands) = (tt, fit_done outcome commands)

  one_closed : (gone : Bool) (n : ℕ) → Fit (cond gone [] (f.Closed n ∷ []))
  one_closed true n = tt
  one_closed false n = (tt, tt)

  fit_closed : (n : ℕ) (left : ℕ → Bool) → Fit (closed_below n left)
  fit_closed zero left = tt
  fit_closed (suc n) left = fit_both (closed_below n left) (cond (left n) [] (f.Closed n ∷ [])) (fit_closed n left) (one_closed (left n) n)

  fit_when : (b : Bool) (row : Option Row) → FitsRow row → FitsRow (when b row)
  fit_when true row h = h
  fit_when false row h = tt

  fit_if : (b : Bool) (x y : Option Row) → FitsRow x → FitsRow y → FitsRow (cond b x y)
  fit_if true x y h k = h
  fit_if false x y h k = k

  effects_if : (b : Bool) (x y : List Effect) → (b ≡ true → Fit x) → Fit y → Fit (cond b x y)
  effects_if true x y h k = h refl
  effects_if false x y h k = k

  fit_ends : FitsRow (ends s r)
  fit_ends = fit_both (cancel_all r) (close s r) (fit_done o.Cancelled r.pending) (fit_closed s.tasks r.left)

  -- ---- Sending again

  again : (qos : Qos) (topic payload : List ℕ) (id : ℕ) → is_among r.released id ≡ false → ((n : ℕ) → cause ≡ c.Arrived (p.PubRec n) → ⊥) → Fit (again_by id (requests.Publish qos topic payload))
  again qos topic payload id none alone = (record { unreleased = λ n one. unreleased qos n one; alone = alone; drawn = tt }, tt)
    where
      unreleased : (qos : Qos) (n : ℕ) → is_among r.released n ≡ true → identifies qos id n ≡ false
      unreleased AtMostOnce n one = refl
      unreleased AtLeastOnce n one = other_number r.released id n none one
      unreleased ExactlyOnce n one = other_number r.released id n none one

  one_again : (id : ℕ) (request : Request) → is_among r.released id ≡ false → ((n : ℕ) → cause ≡ c.Arrived (p.PubRec n) → ⊥) → Fit (again_by id request)
  one_again id (requests.Publish qos topic payload) none alone = again qos topic payload id none alone
  one_again id (requests.Subscribe asks) none alone = tt
  one_again id (requests.Unsubscribe filters) none alone = tt
  one_again id requests.Ping none alone = tt
  one_again id requests.Disconnect none alone = tt
  one_again id requests.Terminate none alone = tt
  one_again id requests.Leave none alone = tt

  all_again : (commands : List Pending) → AllByRecursion (λ command. not (is_among r.released command.id) ≡ true) commands → ((n : ℕ) → cause ≡ c.Arrived (p.PubRec n) → ⊥)
      → Fit (flat_map (λ command. again_by command.id command.request) commands)
  all_again [] all alone = tt
  all_again (command ∷ commands) all alone =
      fit_both (again_by command.id command.request) (flat_map (λ other. again_by other.id other.request) commands) (one_again command.id command.request (not-true (is_among r.released command.id) all.0) alone) (all_again commands all.1 alone)

  one_first : (n : ℕ) (ns : List ℕ) → is_among (n ∷ ns) n ≡ true
  one_first n ns = go (n == n) refl
    where
      go : (b : Bool) → (n == n) ≡ b → (b || is_among ns n) ≡ true
      go true e = refl
      go false e = absurd (cc (sym e ∙ eq-eqb n n refl))

  -- released ones, which follow others that are
  all_released : (before ids : List ℕ) → r.released ≡ before ++ ids → ((n : ℕ) → ends_waiting n cause ≡ false) → Fit (map (λ id. f.Send (p.PubRel id)) ids)
  all_released before [] is waits = tt
  all_released before (id ∷ ids) is waits =
      (inl (ap (λ ns. is_among ns id) is ∙ behind before id ids, waits id), all_released (before ++ id ∷ []) ids (is ∙ sym (append_assoc before (id ∷ []) ids)) waits)
    where
      behind : (before : List ℕ) (id : ℕ) (ids : List ℕ) → is_among (before ++ id ∷ ids) id ≡ true
      behind [] id ids = one_first id ids
      behind (n ∷ before) id ids = ap (λ b. (n == id) || b) (behind before id ids) ∙ or-true (n == id)

  fit_subscribed : (k last : ℕ) (in_use : List ℕ) (asks : List Ask) → last ≤ 65535 → Fit (subscribes k last in_use asks)
  fit_subscribed zero last in_use asks low = tt
  fit_subscribed (suc k) last in_use [] low = tt
  fit_subscribed (suc k) last in_use (ask ∷ asks) low =
      let id = fresh_in_range last in_use low in (id.1, fit_subscribed k (fresh last in_use) (fresh last in_use ∷ in_use) (drop 8 (ask ∷ asks)) id.1)

  -- ---- Rows

  module _ (low : r.last_drawn ≤ 65535) (few : length (used r) < 65535) (within : (n : ℕ) → is_among r.released n ≡ true → is_among (used r) n ≡ true) where
    fit_renewed : (asks : List Ask) → Fit (renew r asks)
    fit_renewed asks = fit_subscribed (length asks) r.last_drawn (used r) asks low

    fit_first : (present : Bool) → FitsRow (first_row s r present)
    fit_first false = tt
    fit_first true = fit_closed s.tasks r.left

    fit_resume : ((n : ℕ) → cause ≡ c.Arrived (p.PubRec n) → ⊥) → ((n : ℕ) → ends_waiting n cause ≡ false) → Fit (resume r)
    fit_resume alone waits =
        let keeps : Pending → Bool = λ command. not (is_among r.released command.id) in
        fit_both (map (λ id. f.Send (p.PubRel id)) r.released) (flat_map (λ command. again_by command.id command.request) (filter keeps r.pending)) (all_released [] r.released refl waits)
        (all_again (filter keeps r.pending) (all_passed keeps r.pending) alone)

    fit_resumed : (present : Bool) (code : ℕ) → cause ≡ c.Arrived (p.ConnAck present code) → FitsRow (resumed_row r present)
    fit_resumed true code is = fit_both (resume r) (renew r r.unsure) (fit_resume (λ n e. absurd (cc (is, e))) (λ n. ap (ends_waiting n) is ∙ and-false (code == 0))) (fit_renewed r.unsure)
    fit_resumed false code is = fit_both _ (renew r r.renewable) (fit_done o.SessionLost _) (fit_renewed r.renewable)

    fit_connack : (present : Bool) (code : ℕ) → cause ≡ c.Arrived (p.ConnAck present code) → FitsRow (connack_row s r present code)
    unfolding connack_row
    fit_connack present code is =
        fit_if (not (code == 0)) (ends s r) _ fit_ends
        (fit_if r.wiping (to Down (f.Send p.Disconnect ∷ [])) _ (tt, tt) (fit_if r.first (first_row s r present) (resumed_row r present) (fit_first present) (fit_resumed present code is)))

    fit_opening : (packet : Packet) → cause ≡ c.Arrived packet → FitsRow (opening_row s r packet)
    fit_opening (p.Connect clean keep_alive client will user password) is = fit_ends
    fit_opening (p.ConnAck present code) is = fit_connack present code is
    fit_opening (p.Publish dup qos retain topic id payload) is = fit_ends
    fit_opening (p.PubAck id) is = fit_ends
    fit_opening (p.PubRec id) is = fit_ends
    fit_opening (p.PubRel id) is = fit_ends
    fit_opening (p.PubComp id) is = fit_ends
    fit_opening (p.Subscribe id asks) is = fit_ends
    fit_opening (p.SubAck id codes) is = fit_ends
    fit_opening (p.Unsubscribe id filters) is = fit_ends
    fit_opening (p.UnsubAck id) is = fit_ends
    fit_opening p.PingReq is = fit_ends
    fit_opening p.PingResp is = fit_ends
    fit_opening p.Disconnect is = fit_ends

    one_passed : (reached : Bool) (n : ℕ) (message : Message) → Fit (cond reached (f.Pass n message ∷ []) [])
    one_passed true n message = (tt, tt)
    one_passed false n message = tt

    fit_passed : (n : ℕ) (message : Message) → Fit (passed_below n r message)
    fit_passed zero message = tt
    fit_passed (suc n) message = fit_both (passed_below n r message) (cond (is_reached r message.topic n) (f.Pass n message ∷ []) []) (fit_passed n message) (one_passed (is_reached r message.topic n) n message)

    fit_pass : (qos : Qos) (topic payload : List ℕ) → Fit (pass s r qos topic payload)
    fit_pass qos topic payload = fit_passed s.tasks (record { topic = topic; qos = qos; payload = payload })

    fit_message : (qos : Qos) (topic : List ℕ) (id : ℕ) (payload : List ℕ) → FitsRow (message_row s l r qos topic id payload)
    fit_message AtMostOnce topic id payload = fit_pass AtMostOnce topic payload
    fit_message AtLeastOnce topic id payload = fit_both (pass s r AtLeastOnce topic payload) (f.Send (p.PubAck id) ∷ []) (fit_pass AtLeastOnce topic payload) (tt, tt)
    fit_message ExactlyOnce topic id payload =
        fit_if (is_among r.held id) (to Up (f.Send (p.PubRec id) ∷ [])) _ (tt, tt)
        (fit_if (nat_lt (length r.held) l.inbound) (to Up (pass s r ExactlyOnce topic payload ++ f.Send (p.PubRec id) ∷ [])) (to Spilled [])
        (fit_both (pass s r ExactlyOnce topic payload) (f.Send (p.PubRec id) ∷ []) (fit_pass ExactlyOnce topic payload) (tt, tt)) tt)

    fit_up : (packet : Packet) → cause ≡ c.Arrived packet → FitsRow (up_row s l r packet)
    unfolding publish_row puback_row pubrec_row pubcomp_row suback_row unsuback_row
    fit_up (p.Connect clean keep_alive client will user password) is = fit_ends
    fit_up (p.ConnAck present code) is = fit_ends
    fit_up (p.Publish dup qos retain topic id payload) is = fit_if (is_name topic) (message_row s l r qos topic id payload) (ends s r) (fit_message qos topic id payload) fit_ends
    fit_up (p.PubAck id) is = fit_done o.Done _
    fit_up (p.PubRec id) is = effects_if (is_open_publish is_exactly_once r.pending id) (f.Send (p.PubRel id) ∷ []) [] (λ open_is. (inr (is, open_is), tt)) tt
    fit_up (p.PubRel id) is = (tt, tt)
    fit_up (p.PubComp id) is = effects_if (is_among r.released id) (all_done (publishes_at is_exactly_once id r.pending)) [] (λ released. fit_done o.Done _) tt
    fit_up (p.Subscribe id asks) is = fit_ends
    fit_up (p.SubAck id codes) is =
        fit_if (list_any (λ count. not (count == length codes)) (awaited r id)) (ends s r) (to Up (all_granted codes (filter (λ command. is_subscribe command.request) (at id r.pending)))) fit_ends (fit_done (o.Granted codes) _)
    fit_up (p.Unsubscribe id filters) is = fit_ends
    fit_up (p.UnsubAck id) is = fit_done o.Done _
    fit_up p.PingReq is = fit_ends
    fit_up p.PingResp is = tt
    fit_up p.Disconnect is = fit_ends

    fit_arrived : (packet : Packet) (phase : Phase) → cause ≡ c.Arrived packet → FitsRow (arrived_in s l r packet phase)
    fit_arrived packet Down is = tt
    fit_arrived packet Opening is = fit_opening packet is
    fit_arrived packet Up is = fit_up packet is
    fit_arrived packet Spilled is = tt
    fit_arrived packet Off is = tt

    fit_down : FitsRow (down r)
    fit_down = fit_done o.LinkLost _

    fit_fault : (phase : Phase) → FitsRow (fault_row s r phase)
    unfolding fault_row
    fit_fault Down = fit_when _ (to Down []) tt
    fit_fault Opening = fit_down
    fit_fault Up = fit_down
    fit_fault Spilled = fit_down
    fit_fault Off = fit_when _ (to Off []) tt

    fit_end : (phase : Phase) → FitsRow (end_row r phase)
    unfolding end_row
    fit_end Down = tt
    fit_end Opening = fit_down
    fit_end Up = fit_down
    fit_end Spilled = tt
    fit_end Off = tt

    fit_idle : (phase : Phase) → FitsRow (idle_row r phase)
    unfolding idle_row
    fit_idle Down = tt
    fit_idle Opening = fit_down
    fit_idle Up = fit_when _ (down r) fit_down
    fit_idle Spilled = tt
    fit_idle Off = tt

    fit_bytes : (phase : Phase) → FitsRow (bytes_row s r phase)
    unfolding bytes_row
    fit_bytes Down = tt
    fit_bytes Opening = fit_ends
    fit_bytes Up = fit_ends
    fit_bytes Spilled = tt
    fit_bytes Off = tt

    fit_keep_alive : (time : ℕ) (phase : Phase) → FitsRow (keep_alive_row r time phase)
    unfolding keep_alive_row
    fit_keep_alive time Down = tt
    fit_keep_alive time Opening = tt
    fit_keep_alive time Up = fit_when _ (down r) fit_down
    fit_keep_alive time Spilled = tt
    fit_keep_alive time Off = tt

    fit_in_full : (phase : Phase) → FitsRow (in_full_row r phase)
    unfolding in_full_row
    fit_in_full Down = tt
    fit_in_full Opening = tt
    fit_in_full Up = tt
    fit_in_full Spilled = fit_down
    fit_in_full Off = tt

    fit_broke : (time : ℕ) (why : Why) → FitsRow (broke_row s r time why)
    fit_broke time w.Fault = fit_fault r.phase
    fit_broke time w.End = fit_end r.phase
    fit_broke time w.Idle = fit_idle r.phase
    fit_broke time (w.Bad offset) = fit_bytes r.phase
    fit_broke time (w.TooLong size) = fit_bytes r.phase
    fit_broke time w.KeepAlive = fit_keep_alive time r.phase
    fit_broke time w.InFull = fit_in_full r.phase

    fit_opened : (phase : Phase) → FitsRow (opened_row s r phase)
    unfolding opened_row
    fit_opened Down = fit_when _ (to Opening _) (tt, tt)
    fit_opened Opening = tt
    fit_opened Up = tt
    fit_opened Spilled = tt
    fit_opened Off = tt

    fit_gave_up : (phase : Phase) → FitsRow (gave_up_row s r phase)
    unfolding gave_up_row
    fit_gave_up Down = fit_when _ (ends s r) fit_ends
    fit_gave_up Opening = tt
    fit_gave_up Up = tt
    fit_gave_up Spilled = tt
    fit_gave_up Off = tt

    fit_tick : (time : ℕ) (phase : Phase) → FitsRow (tick_row s r time phase)
    unfolding tick_row
    fit_tick time Down = tt
    fit_tick time Opening = tt
    fit_tick time Up = fit_when _ (to Up _) (tt, tt)
    fit_tick time Spilled = tt
    fit_tick time Off = tt

    fit_finish : (phase : Phase) → FitsRow (finish_row s r phase)
    unfolding finish_row
    fit_finish Down = tt
    fit_finish Opening = tt
    fit_finish Up = fit_when _ (to Off _) (tt, tt)
    fit_finish Spilled = tt
    fit_finish Off = tt

    -- ---- Takes

    fresh_is_low : fresh_id r ≤ 65535
    fresh_is_low = (fresh_in_range r.last_drawn (used r) low).1

    fresh_unreleased : (n : ℕ) → is_among r.released n ≡ true → (fresh_id r == n) ≡ false
    fresh_unreleased n one = other_number (used r) (fresh_id r) n (fresh_is_free r.last_drawn (used r) low few) (within n one)

    fit_delivered : (task seq : ℕ) (qos : Qos) (topic payload : List ℕ) → FitsPublish false qos (fresh_id r) → Fit (takes.delivered l r task seq qos topic payload)
    fit_delivered task seq qos topic payload h = effects_if (takes.is_full l r) (takes.at_once task seq o.NoRoom) _ (λ e. (tt, tt)) (h, tt)

    fit_publish : (task seq : ℕ) (qos : Qos) (topic payload : List ℕ) → ((n : ℕ) → cause ≡ c.Arrived (p.PubRec n) → ⊥) → FitsRow (takes.publish_row l r task seq qos topic payload)
    unfolding takes.publish_row
    fit_publish task seq AtMostOnce topic payload alone = (record { unreleased = λ n one. refl; alone = alone; drawn = tt }, (tt, tt))
    fit_publish task seq AtLeastOnce topic payload alone = fit_delivered task seq AtLeastOnce topic payload (record { unreleased = λ n one. fresh_unreleased n one; alone = alone; drawn = (fresh_is_low, tt) })
    fit_publish task seq ExactlyOnce topic payload alone = fit_delivered task seq ExactlyOnce topic payload (record { unreleased = λ n one. fresh_unreleased n one; alone = alone; drawn = (fresh_is_low, tt) })

    fit_unsubscribed : (task seq : ℕ) (filters : List (List ℕ)) → Fit (takes.unsubscribed l r task seq filters)
    fit_unsubscribed task seq [] = (tt, tt)
    fit_unsubscribed task seq (topics ∷ filters) = effects_if (takes.is_full l r) (takes.at_once task seq o.NoRoom) _ (λ e. (tt, tt)) (fresh_is_low, tt)

    fit_disconnect : (task seq : ℕ) → FitsRow (takes.disconnect_row s r task seq)
    unfolding takes.disconnect_row
    fit_disconnect task seq = fit_both (cancel_all r) (f.Send p.Disconnect ∷ f.Done task seq o.Done ∷ close s r) (fit_done o.Cancelled r.pending) (tt, (tt, fit_closed s.tasks r.left))

    fit_request : (task seq : ℕ) (request : Request) → ((n : ℕ) → cause ≡ c.Arrived (p.PubRec n) → ⊥) → FitsRow (takes.up_row s l r task seq request)
    unfolding takes.subscribe_row takes.unsubscribe_row
    fit_request task seq (requests.Publish qos topic payload) alone = fit_publish task seq qos topic payload alone
    fit_request task seq (requests.Subscribe asks) alone =
        effects_if (takes.is_full l r) (takes.at_once task seq o.NoRoom) _ (λ e. (tt, tt))
        (effects_if (nat_lt l.routes (length (takes.routes_with r task asks))) (takes.at_once task seq o.NoRoute) _ (λ e. (tt, tt)) (fresh_is_low, tt))
    fit_request task seq (requests.Unsubscribe filters) alone = fit_unsubscribed task seq (takes.own_filters r task filters)
    fit_request task seq requests.Ping alone = (tt, (tt, tt))
    fit_request task seq requests.Disconnect alone = fit_disconnect task seq
    fit_request task seq requests.Terminate alone = fit_disconnect task seq
    fit_request task seq requests.Leave alone = tt

    fit_off : (task seq : ℕ) (request : Request) → FitsRow (takes.off_row r task seq request)
    fit_off task seq (requests.Publish qos topic payload) = (tt, tt)
    fit_off task seq (requests.Subscribe asks) = (tt, tt)
    fit_off task seq (requests.Unsubscribe filters) = (tt, tt)
    fit_off task seq requests.Ping = (tt, tt)
    fit_off task seq requests.Disconnect = (tt, tt)
    fit_off task seq requests.Terminate = (tt, tt)
    fit_off task seq requests.Leave = tt

    fit_take : (task seq : ℕ) (request : Request) (phase : Phase) → ((n : ℕ) → cause ≡ c.Arrived (p.PubRec n) → ⊥) → FitsRow (takes.take_in s l r task seq request phase)
    fit_take task seq request Down alone = tt
    fit_take task seq request Opening alone = tt
    fit_take task seq request Up alone = fit_request task seq request alone
    fit_take task seq request Spilled alone = tt
    fit_take task seq request Off alone = fit_off task seq request

    fit_cause : (time : ℕ) (same : Cause) → cause ≡ same → FitsRow (cause_row s l r time same)
    unfolding takes.take_row arrived_row
    fit_cause time c.Opened is = fit_opened r.phase
    fit_cause time (c.Take task seq request) is = fit_when (takes.may_take s r task seq request) (takes.take_in s l r task seq request r.phase) (fit_take task seq request r.phase (λ n e. absurd (cc (is, e))))
    fit_cause time (c.Arrived packet) is = fit_when (is_sound packet) (arrived_in s l r packet r.phase) (fit_arrived packet r.phase is)
    fit_cause time (c.Broke why) is = fit_broke time why
    fit_cause time c.Tick is = fit_tick time r.phase
    fit_cause time c.GaveUp is = fit_gave_up r.phase
    fit_cause time c.Finish is = fit_finish r.phase

    pub fit_row : (time : ℕ) → FitsRow (row_of s l r time cause)
    unfolding row_of
    fit_row time = fit_when (nat_le r.last_time time) (cause_row s l r time cause) (fit_cause time cause refl)
