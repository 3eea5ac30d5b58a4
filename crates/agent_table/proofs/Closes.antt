-- Which rows close tasks.
use Rattle.std.proofs.Common.{◌≡◌, ◌⊎◌, ℕ, zero, suc, ◌+◌, ◌<◌, Bool, true, false, cond, List, [], ◌∷◌, ◌++◌, map, drop, filter, Option, Some, None, refl, sym, ap, ◌∙◌, arith}
use Rattle.std.specs.Prelude.{◌==◌, ◌||◌, ◌&&◌, not, nat_lt, nat_le, length}
use Rattle.std.specs.List.{list_any, flat_map}
use Rattle.std.proofs.lemmas.Bool.{eq-eqb, cases_eq, and_parts}
use Rattle.std.proofs.Math.Bool.{or-true}
use mathlib.Core.Logic.{inl, inr}
use Rattle.mqtt_packet.specs.declared.qos.Qos.{Qos}
use Rattle.mqtt_packet.specs.declared.qos.Qos.TheVariants.{AtMostOnce, AtLeastOnce, ExactlyOnce}
use Rattle.mqtt_packet.specs.declared.packet.Packet.{Packet}
use Rattle.mqtt_packet.specs.declared.packet.Packet.TheVariants as p
use Rattle.mqtt_packet.specs.declared.will.Ask.{Ask}
use Rattle.mqtt_packet.specs.Spelling.{is_sound}
use Rattle.topic_filter.specs.Texts.{is_name}
use Rattle.agent_journal.specs.declared.request.Request.{Request}
use Rattle.agent_journal.specs.declared.request.Request.TheVariants as requests
use Rattle.agent_journal.specs.declared.message.Message.{Message}
use Rattle.agent_journal.specs.declared.outcome.Outcome.{Outcome}
use Rattle.agent_journal.specs.declared.outcome.Outcome.TheVariants as o
use Rattle.agent_journal.specs.declared.entry.Cause.{Cause}
use Rattle.agent_journal.specs.declared.entry.Cause.TheVariants as c
use Rattle.agent_journal.specs.declared.entry.Why.{Why}
use Rattle.agent_journal.specs.declared.entry.Why.TheVariants as w
use Rattle.agent_journal.specs.declared.effect.Effect.{Effect}
use Rattle.agent_journal.specs.declared.effect.Effect.TheVariants as f
use Rattle.agent_journal.specs.declared.ending.Ending.TheVariants as ends_by
use Rattle.agent_journal.specs.declared.setup.Setup.{Setup}
use Rattle.agent_journal.specs.declared.setup.Phase.{Phase}
use Rattle.agent_journal.specs.declared.setup.Phase.TheVariants.{Down, Opening, Up, Spilled, Off}
use Rattle.agent_journal.specs.declared.off.OffBy.TheVariants as by
use Rattle.agent_journal.specs.Endings.{is_off, ending_by, ending_of}
use Rattle.agent_journal.specs.Offs.{by_packet, by_first_packet}
use Rattle.agent_journal.specs.Readings.{Pending}
use Rattle.agent_table.specs.Arrivals.{arrived_row, arrived_in, opening_row, up_row, connack_row, first_row, resumed_row, publish_row, message_row, puback_row, pubrec_row, pubcomp_row, suback_row, unsuback_row, awaited, is_subscribe, is_unsubscribe, at, publishes_at, all_done, all_granted}
use Rattle.agent_table.specs.Breaks.{opened_row, broke_row, fault_row, end_row, idle_row, bytes_row, keep_alive_row, in_full_row, gave_up_row, tick_row, finish_row, down, all_left, is_none}
use Rattle.agent_table.specs.Closings.{closes_task, closes, asks_end}
use Rattle.agent_table.specs.Deliveries.{is_among, is_open_publish, is_at_least_once, is_exactly_once}
use Rattle.agent_table.specs.Effects.{done, is_publish, cancel_all, close, closed_below, lose_session, resume, again_by, renew, subscribes, pass, passed_below, is_reached, used}
use Rattle.agent_table.specs.Identifiers.{fresh}
use Rattle.agent_table.specs.Readings.{Readings}
use Rattle.agent_table.specs.Rows.{Row, to, when, ends}
use Rattle.agent_table.specs.Sizes.{Sizes}
use Rattle.agent_table.specs.Table.{row_of, cause_row}
use Rattle.agent_table.specs.Takes as takes

-- ---- How it ends

by_code_bad : (b : Bool) (code : ℕ) → ending_of (cond b by.Held (by.Refused code)) ≡ ends_by.Done → ⊥
by_code_bad true code e = absurd (cc e)
by_code_bad false code e = absurd (cc e)

first_bad : (packet : Packet) → ending_of (by_first_packet packet) ≡ ends_by.Done → ⊥
first_bad (p.Connect clean keep_alive client will user password) e = absurd (cc e)
first_bad (p.ConnAck present code) e = by_code_bad (code == 0) code e
first_bad (p.Publish dup qos retain topic id payload) e = absurd (cc e)
first_bad (p.PubAck id) e = absurd (cc e)
first_bad (p.PubRec id) e = absurd (cc e)
first_bad (p.PubRel id) e = absurd (cc e)
first_bad (p.PubComp id) e = absurd (cc e)
first_bad (p.Subscribe id asks) e = absurd (cc e)
first_bad (p.SubAck id codes) e = absurd (cc e)
first_bad (p.Unsubscribe id filters) e = absurd (cc e)
first_bad (p.UnsubAck id) e = absurd (cc e)
first_bad p.PingReq e = absurd (cc e)
first_bad p.PingResp e = absurd (cc e)
first_bad p.Disconnect e = absurd (cc e)

packet_bad : (phase : Phase) (packet : Packet) → ending_of (by_packet phase packet) ≡ ends_by.Done → ⊥
packet_bad Down packet e = absurd (cc e)
packet_bad Opening packet e = first_bad packet e
packet_bad Up packet e = absurd (cc e)
packet_bad Spilled packet e = absurd (cc e)
packet_bad Off packet e = absurd (cc e)

module _ (t : ℕ) where
  -- ---- Effects that close no one

  both : (xs ys : List Effect) → closes t xs ≡ false → closes t ys ≡ false → closes t (xs ++ ys) ≡ false
  both [] ys h k = k
  both (x ∷ xs) ys h k = by (closes_task t x) h (both xs ys)
    where
      by : (b : Bool) → (b || closes t xs) ≡ false → (closes t xs ≡ false → closes t ys ≡ false → closes t (xs ++ ys) ≡ false) → (b || closes t (xs ++ ys)) ≡ false
      by true h rest = absurd (cc h)
      by false h rest = rest h k

  behind : (xs ys : List Effect) → closes t ys ≡ true → closes t (xs ++ ys) ≡ true
  behind [] ys h = h
  behind (x ∷ xs) ys h = ap (λ b. closes_task t x || b) (behind xs ys h) ∙ or-true (closes_task t x)

  front : (xs ys : List Effect) → closes t xs ≡ true → closes t (xs ++ ys) ≡ true
  front [] ys h = absurd (cc h)
  front (x ∷ xs) ys h = by (closes_task t x) h (front xs ys)
    where
      by : (b : Bool) → (b || closes t xs) ≡ true → (closes t xs ≡ true → closes t (xs ++ ys) ≡ true) → (b || closes t (xs ++ ys)) ≡ true
      by true h rest = refl
      by false h rest = rest h

  none_done : (outcome : Outcome) (commands : List Pending) → closes t (map (done outcome) commands) ≡ false
  none_done outcome [] = refl
  none_done outcome (command ∷ commands) = none_done outcome commands

  none_passed : (n : ℕ) (r : Readings) (message : Message) → closes t (passed_below n r message) ≡ false
  none_passed zero r message = refl
  none_passed (suc n) r message = both (passed_below n r message) (cond (is_reached r message.topic n) (f.Pass n message ∷ []) []) (none_passed n r message) (one (is_reached r message.topic n))
    where
      one : (b : Bool) → closes t (cond b (f.Pass n message ∷ []) []) ≡ false
      one true = refl
      one false = refl

  none_released : (ids : List ℕ) → closes t (map (λ id. f.Send (p.PubRel id)) ids) ≡ false
  none_released [] = refl
  none_released (id ∷ ids) = none_released ids

  one_again : (id : ℕ) (request : Request) → closes t (again_by id request) ≡ false
  one_again id (requests.Publish qos topic payload) = refl
  one_again id (requests.Subscribe asks) = refl
  one_again id (requests.Unsubscribe filters) = refl
  one_again id requests.Ping = refl
  one_again id requests.Disconnect = refl
  one_again id requests.Terminate = refl
  one_again id requests.Leave = refl

  none_again : (commands : List Pending) → closes t (flat_map (λ command. again_by command.id command.request) commands) ≡ false
  none_again [] = refl
  none_again (command ∷ commands) = both (again_by command.id command.request) (flat_map (λ other. again_by other.id other.request) commands) (one_again command.id command.request) (none_again commands)

  none_subscribed : (k last : ℕ) (in_use : List ℕ) (asks : List Ask) → closes t (subscribes k last in_use asks) ≡ false
  none_subscribed zero last in_use asks = refl
  none_subscribed (suc k) last in_use [] = refl
  none_subscribed (suc k) last in_use (ask ∷ asks) = none_subscribed k (fresh last in_use) (fresh last in_use ∷ in_use) (drop 8 (ask ∷ asks))

  -- each task below n that hasn't left is closed
  all_closed : (n : ℕ) (left : ℕ → Bool) → t < n → left t ≡ false → closes t (closed_below n left) ≡ true
  all_closed zero left low stays = absurd (omega (arith, low))
  all_closed (suc n) left low stays = elim (cases_eq t n) [
    | inl same ↦ behind (closed_below n left) (cond (left n) [] (f.Closed n ∷ [])) (ap (λ b. closes t (cond b [] (f.Closed n ∷ []))) (ap left (sym same) ∙ stays) ∙ ap (λ b. b || false) (eq-eqb n t (sym same)))
    | inr other ↦ front (closed_below n left) (cond (left n) [] (f.Closed n ∷ [])) (all_closed n left (omega (arith, low, other)) stays)
  ]

  -- ---- Rows

  module _ (s : Setup) (r : Readings) (cause : Cause) where
    -- at the end of an agent each task that hasn't left is closed, or it ends well and none is
    pub record AtEnd (effects : List Effect) : Type 0 where
      pub on : is_off r.phase ≡ false
      pub told : t < s.tasks → r.left t ≡ false → closes t effects ≡ true
      pub well : asks_end cause ≡ false → ending_by r.phase cause ≡ ends_by.Done → closes t effects ≡ false

    abbrev pub Closing : Option Row → Type 0
    Closing None = Unit {0}
    Closing (Some row) = ((closes t row.effects ≡ false) × ((row.phase ≡ Off → ⊥) ⊎ (r.phase ≡ Off))) ⊎ ((row.phase ≡ Off) × AtEnd row.effects)

    -- it ends here, and not well
    abbrev Fails : Type 0
    Fails = (is_off r.phase ≡ false) × (ending_by r.phase cause ≡ ends_by.Done → ⊥)

    closing_when : (b : Bool) (row : Option Row) → (b ≡ true → Closing row) → Closing (when b row)
    closing_when true row h = h refl
    closing_when false row h = tt

    closing_if : (b : Bool) (x y : Option Row) → Closing x → Closing y → Closing (cond b x y)
    closing_if true x y h k = h
    closing_if false x y h k = k

    none_if : (b : Bool) (x y : List Effect) → closes t x ≡ false → closes t y ≡ false → closes t (cond b x y) ≡ false
    none_if true x y h k = h
    none_if false x y h k = k

    up : (effects : List Effect) → closes t effects ≡ false → Closing (to Up effects)
    up effects none = inl (none, inl (λ e. absurd (cc e)))

    closed : t < s.tasks → r.left t ≡ false → closes t (close s r) ≡ true
    closed low stays = all_closed s.tasks r.left low stays

    closing_ends : Fails → Closing (ends s r)
    closing_ends bad = inr (refl, record { on = bad.0; told = λ low stays. behind (cancel_all r) (close s r) (closed low stays); well = λ unasked e. absurd (bad.1 e) })

    closing_first : (present : Bool) → Fails → Closing (first_row s r present)
    closing_first false bad = up [] refl
    closing_first true bad = inr (refl, record { on = bad.0; told = closed; well = λ unasked e. absurd (bad.1 e) })

    renewed : (asks : List Ask) → closes t (renew r asks) ≡ false
    renewed asks = none_subscribed (length asks) r.last_drawn (used r) asks

    closing_resumed : (present : Bool) → Closing (resumed_row r present)
    closing_resumed true =
        let rest = filter (λ command. not (is_among r.released command.id)) r.pending in
        up (resume r ++ renew r r.unsure)
        (both (resume r) (renew r r.unsure) (both (map (λ id. f.Send (p.PubRel id)) r.released) (flat_map (λ command. again_by command.id command.request) rest) (none_released r.released) (none_again rest)) (renewed r.unsure))
    closing_resumed false = up (lose_session r ++ renew r r.renewable) (both (lose_session r) (renew r r.renewable) (none_done o.SessionLost (filter (λ command. is_publish command.request) r.pending)) (renewed r.renewable))

    closing_connack : (present : Bool) (code : ℕ) → Fails → Closing (connack_row s r present code)
    unfolding connack_row
    closing_connack present code bad =
        closing_if (not (code == 0)) (ends s r) _ (closing_ends bad)
        (closing_if r.wiping (to Down (f.Send p.Disconnect ∷ [])) _ (inl (refl, inl (λ e. absurd (cc e)))) (closing_if r.first (first_row s r present) (resumed_row r present) (closing_first present bad) (closing_resumed present)))

    closing_opening : (packet : Packet) → Fails → Closing (opening_row s r packet)
    closing_opening (p.Connect clean keep_alive client will user password) bad = closing_ends bad
    closing_opening (p.ConnAck present code) bad = closing_connack present code bad
    closing_opening (p.Publish dup qos retain topic id payload) bad = closing_ends bad
    closing_opening (p.PubAck id) bad = closing_ends bad
    closing_opening (p.PubRec id) bad = closing_ends bad
    closing_opening (p.PubRel id) bad = closing_ends bad
    closing_opening (p.PubComp id) bad = closing_ends bad
    closing_opening (p.Subscribe id asks) bad = closing_ends bad
    closing_opening (p.SubAck id codes) bad = closing_ends bad
    closing_opening (p.Unsubscribe id filters) bad = closing_ends bad
    closing_opening (p.UnsubAck id) bad = closing_ends bad
    closing_opening p.PingReq bad = closing_ends bad
    closing_opening p.PingResp bad = closing_ends bad
    closing_opening p.Disconnect bad = closing_ends bad

    passed : (qos : Qos) (topic payload : List ℕ) → closes t (pass s r qos topic payload) ≡ false
    passed qos topic payload = none_passed s.tasks r (record { topic = topic; qos = qos; payload = payload })

    closing_message : (l : Sizes) (qos : Qos) (topic : List ℕ) (id : ℕ) (payload : List ℕ) → Closing (message_row s l r qos topic id payload)
    closing_message l AtMostOnce topic id payload = up (pass s r AtMostOnce topic payload) (passed AtMostOnce topic payload)
    closing_message l AtLeastOnce topic id payload =
        up (pass s r AtLeastOnce topic payload ++ f.Send (p.PubAck id) ∷ []) (both (pass s r AtLeastOnce topic payload) (f.Send (p.PubAck id) ∷ []) (passed AtLeastOnce topic payload) refl)
    closing_message l ExactlyOnce topic id payload =
        closing_if (is_among r.held id) (to Up (f.Send (p.PubRec id) ∷ [])) _ (up (f.Send (p.PubRec id) ∷ []) refl)
        (closing_if (nat_lt (length r.held) l.inbound) (to Up (pass s r ExactlyOnce topic payload ++ f.Send (p.PubRec id) ∷ [])) (to Spilled [])
        (up (pass s r ExactlyOnce topic payload ++ f.Send (p.PubRec id) ∷ []) (both (pass s r ExactlyOnce topic payload) (f.Send (p.PubRec id) ∷ []) (passed ExactlyOnce topic payload) refl)) (inl (refl, inl (λ e. absurd (cc e)))))

    closing_up : (l : Sizes) (packet : Packet) → Fails → Closing (up_row s l r packet)
    unfolding publish_row puback_row pubrec_row pubcomp_row suback_row unsuback_row
    closing_up l (p.Connect clean keep_alive client will user password) bad = closing_ends bad
    closing_up l (p.ConnAck present code) bad = closing_ends bad
    closing_up l (p.Publish dup qos retain topic id payload) bad = closing_if (is_name topic) (message_row s l r qos topic id payload) (ends s r) (closing_message l qos topic id payload) (closing_ends bad)
    closing_up l (p.PubAck id) bad = up (all_done (publishes_at is_at_least_once id r.pending)) (none_done o.Done (publishes_at is_at_least_once id r.pending))
    closing_up l (p.PubRec id) bad = up (cond (is_open_publish is_exactly_once r.pending id) (f.Send (p.PubRel id) ∷ []) []) (none_if (is_open_publish is_exactly_once r.pending id) (f.Send (p.PubRel id) ∷ []) [] refl refl)
    closing_up l (p.PubRel id) bad = up (f.Send (p.PubComp id) ∷ []) refl
    closing_up l (p.PubComp id) bad =
        up (cond (is_among r.released id) (all_done (publishes_at is_exactly_once id r.pending)) [])
        (none_if (is_among r.released id) (all_done (publishes_at is_exactly_once id r.pending)) [] (none_done o.Done (publishes_at is_exactly_once id r.pending)) refl)
    closing_up l (p.Subscribe id asks) bad = closing_ends bad
    closing_up l (p.SubAck id codes) bad =
        let subscribes = filter (λ command. is_subscribe command.request) (at id r.pending) in
        closing_if (list_any (λ count. not (count == length codes)) (awaited r id)) (ends s r) (to Up (all_granted codes subscribes)) (closing_ends bad) (up (all_granted codes subscribes) (none_done (o.Granted codes) subscribes))
    closing_up l (p.Unsubscribe id filters) bad = closing_ends bad
    closing_up l (p.UnsubAck id) bad =
        let unsubscribes = filter (λ command. is_unsubscribe command.request) (at id r.pending) in up (all_done unsubscribes) (none_done o.Done unsubscribes)
    closing_up l p.PingReq bad = closing_ends bad
    closing_up l p.PingResp bad = up [] refl
    closing_up l p.Disconnect bad = closing_ends bad

    -- of such an end in a phase that isn't Off
    fails : (phase : Phase) → r.phase ≡ phase → is_off phase ≡ false → (ending_by r.phase cause ≡ ends_by.Done → ⊥) → Fails
    fails phase is on bad = (ap is_off is ∙ on, bad)

    closing_arrived : (l : Sizes) (packet : Packet) (phase : Phase) → r.phase ≡ phase → (ending_by r.phase cause ≡ ends_by.Done → ⊥) → Closing (arrived_in s l r packet phase)
    closing_arrived l packet Down is bad = tt
    closing_arrived l packet Opening is bad = closing_opening packet (fails Opening is refl bad)
    closing_arrived l packet Up is bad = closing_up l packet (fails Up is refl bad)
    closing_arrived l packet Spilled is bad = tt
    closing_arrived l packet Off is bad = tt

    -- ---- Breaks

    closing_down : Closing (down r)
    closing_down = inl (none_done o.LinkLost (filter (λ command. not (is_publish command.request)) r.pending), inl (λ e. absurd (cc e)))

    closing_fault : (phase : Phase) → r.phase ≡ phase → Closing (fault_row s r phase)
    unfolding fault_row
    closing_fault Down is = closing_when (nat_le r.breaks s.reopen) (to Down []) (λ e. inl (refl, inl (λ e. absurd (cc e))))
    closing_fault Opening is = closing_down
    closing_fault Up is = closing_down
    closing_fault Spilled is = closing_down
    closing_fault Off is = closing_when r.just_sent (to Off []) (λ e. inl (refl, inr is))

    closing_end : (phase : Phase) → Closing (end_row r phase)
    unfolding end_row
    closing_end Down = tt
    closing_end Opening = closing_down
    closing_end Up = closing_down
    closing_end Spilled = tt
    closing_end Off = tt

    closing_idle : (phase : Phase) → Closing (idle_row r phase)
    unfolding idle_row
    closing_idle Down = tt
    closing_idle Opening = closing_down
    closing_idle Up = closing_when (not (is_none r.pending)) (down r) (λ e. closing_down)
    closing_idle Spilled = tt
    closing_idle Off = tt

    closing_bytes : (phase : Phase) → r.phase ≡ phase → (ending_by r.phase cause ≡ ends_by.Done → ⊥) → Closing (bytes_row s r phase)
    unfolding bytes_row
    closing_bytes Down is bad = tt
    closing_bytes Opening is bad = closing_ends (fails Opening is refl bad)
    closing_bytes Up is bad = closing_ends (fails Up is refl bad)
    closing_bytes Spilled is bad = tt
    closing_bytes Off is bad = tt

    closing_keep_alive : (time : ℕ) (phase : Phase) → Closing (keep_alive_row r time phase)
    unfolding keep_alive_row
    closing_keep_alive time Down = tt
    closing_keep_alive time Opening = tt
    closing_keep_alive time Up = closing_when _ (down r) (λ e. closing_down)
    closing_keep_alive time Spilled = tt
    closing_keep_alive time Off = tt

    closing_in_full : (phase : Phase) → Closing (in_full_row r phase)
    unfolding in_full_row
    closing_in_full Down = tt
    closing_in_full Opening = tt
    closing_in_full Up = tt
    closing_in_full Spilled = closing_down
    closing_in_full Off = tt

    closing_broke : (time : ℕ) (why : Why) → (ending_by r.phase cause ≡ ends_by.Done → ⊥) → Closing (broke_row s r time why)
    closing_broke time w.Fault bad = closing_fault r.phase refl
    closing_broke time w.End bad = closing_end r.phase
    closing_broke time w.Idle bad = closing_idle r.phase
    closing_broke time (w.Bad offset) bad = closing_bytes r.phase refl bad
    closing_broke time (w.TooLong size) bad = closing_bytes r.phase refl bad
    closing_broke time w.KeepAlive bad = closing_keep_alive time r.phase
    closing_broke time w.InFull bad = closing_in_full r.phase

    closing_opened : (phase : Phase) → Closing (opened_row s r phase)
    unfolding opened_row
    closing_opened Down = closing_when (nat_le r.breaks s.reopen) (to Opening _) (λ e. inl (refl, inl (λ e. absurd (cc e))))
    closing_opened Opening = tt
    closing_opened Up = tt
    closing_opened Spilled = tt
    closing_opened Off = tt

    closing_gave_up : (phase : Phase) → r.phase ≡ phase → (ending_by r.phase cause ≡ ends_by.Done → ⊥) → Closing (gave_up_row s r phase)
    unfolding gave_up_row
    closing_gave_up Down is bad = closing_when (r.breaks == s.reopen + 1) (ends s r) (λ e. closing_ends (fails Down is refl bad))
    closing_gave_up Opening is bad = tt
    closing_gave_up Up is bad = tt
    closing_gave_up Spilled is bad = tt
    closing_gave_up Off is bad = tt

    closing_tick : (time : ℕ) (phase : Phase) → Closing (tick_row s r time phase)
    unfolding tick_row
    closing_tick time Down = tt
    closing_tick time Opening = tt
    closing_tick time Up = closing_when _ (to Up (f.Send p.PingReq ∷ [])) (λ e. up (f.Send p.PingReq ∷ []) refl)
    closing_tick time Spilled = tt
    closing_tick time Off = tt

    gone : (n : ℕ) (left : ℕ → Bool) → all_left n left ≡ true → t < n → left t ≡ true
    gone zero left all low = absurd (omega (arith, low))
    gone (suc n) left all low = let parts = and_parts (left n) (all_left n left) all in elim (cases_eq t n) [
      | inl same ↦ ap left same ∙ parts.0
      | inr other ↦ gone n left parts.1 (omega (arith, low, other))
    ]

    closing_finish : (phase : Phase) → r.phase ≡ phase → Closing (finish_row s r phase)
    unfolding finish_row
    closing_finish Down is = tt
    closing_finish Opening is = tt
    closing_finish Up is = closing_when (all_left s.tasks r.left && is_none r.pending) (to Off (f.Send p.Disconnect ∷ []))
        (λ e. inr (refl, record { on = ap is_off is; told = λ low stays. absurd (let left = gone s.tasks r.left (and_parts (all_left s.tasks r.left) (is_none r.pending) e).0 low in cc (left, stays)); well = λ unasked by. refl }))
    closing_finish Spilled is = tt
    closing_finish Off is = tt

  -- ---- Takes

  module _ (s : Setup) (l : Sizes) (r : Readings) (task seq : ℕ) where
    to_up : (request : Request) (effects : List Effect) → closes t effects ≡ false → Closing s r (c.Take task seq request) (to Up effects)
    to_up request effects none = inl (none, inl (λ e. absurd (cc e)))

    one_if : (b : Bool) (x y : List Effect) → closes t x ≡ false → closes t y ≡ false → closes t (cond b x y) ≡ false
    one_if true x y h k = h
    one_if false x y h k = k

    closing_publish : (qos : Qos) (topic payload : List ℕ) → Closing s r (c.Take task seq (requests.Publish qos topic payload)) (takes.publish_row l r task seq qos topic payload)
    unfolding takes.publish_row
    closing_publish AtMostOnce topic payload = to_up (requests.Publish AtMostOnce topic payload) _ refl
    closing_publish AtLeastOnce topic payload = to_up (requests.Publish AtLeastOnce topic payload) (takes.delivered l r task seq AtLeastOnce topic payload) (one_if (takes.is_full l r) (takes.at_once task seq o.NoRoom) _ refl refl)
    closing_publish ExactlyOnce topic payload = to_up (requests.Publish ExactlyOnce topic payload) (takes.delivered l r task seq ExactlyOnce topic payload) (one_if (takes.is_full l r) (takes.at_once task seq o.NoRoom) _ refl refl)

    unsubscribed : (filters : List (List ℕ)) → closes t (takes.unsubscribed l r task seq filters) ≡ false
    unsubscribed [] = refl
    unsubscribed (topics ∷ filters) = one_if (takes.is_full l r) (takes.at_once task seq o.NoRoom) _ refl refl

    closing_disconnect : (request : Request) → r.phase ≡ Up → asks_end (c.Take task seq request) ≡ true → Closing s r (c.Take task seq request) (takes.disconnect_row s r task seq)
    unfolding takes.disconnect_row
    closing_disconnect request is asked =
        inr (
          refl,
          record {
            on = ap is_off is;
            told = λ low stays. behind (cancel_all r) (f.Send p.Disconnect ∷ f.Done task seq o.Done ∷ close s r) (all_closed s.tasks r.left low stays);
            well = λ unasked e. absurd (cc (asked, unasked));
          },
        )

    closing_request : (request : Request) → r.phase ≡ Up → Closing s r (c.Take task seq request) (takes.up_row s l r task seq request)
    unfolding takes.subscribe_row takes.unsubscribe_row
    closing_request (requests.Publish qos topic payload) is = closing_publish qos topic payload
    closing_request (requests.Subscribe asks) is =
        to_up (requests.Subscribe asks) _ (one_if (takes.is_full l r) (takes.at_once task seq o.NoRoom) _ refl (one_if (nat_lt l.routes (length (takes.routes_with r task asks))) (takes.at_once task seq o.NoRoute) _ refl refl))
    closing_request (requests.Unsubscribe filters) is = to_up (requests.Unsubscribe filters) _ (unsubscribed (takes.own_filters r task filters))
    closing_request requests.Ping is = to_up requests.Ping _ refl
    closing_request requests.Disconnect is = closing_disconnect requests.Disconnect is refl
    closing_request requests.Terminate is = closing_disconnect requests.Terminate is refl
    closing_request requests.Leave is = to_up requests.Leave [] refl

    closing_off : (request : Request) → r.phase ≡ Off → Closing s r (c.Take task seq request) (takes.off_row r task seq request)
    closing_off (requests.Publish qos topic payload) is = inl (refl, inr is)
    closing_off (requests.Subscribe asks) is = inl (refl, inr is)
    closing_off (requests.Unsubscribe filters) is = inl (refl, inr is)
    closing_off requests.Ping is = inl (refl, inr is)
    closing_off requests.Disconnect is = inl (refl, inr is)
    closing_off requests.Terminate is = inl (refl, inr is)
    closing_off requests.Leave is = inl (refl, inr is)

    closing_take : (request : Request) (phase : Phase) → r.phase ≡ phase → Closing s r (c.Take task seq request) (takes.take_in s l r task seq request phase)
    closing_take request Down is = tt
    closing_take request Opening is = tt
    closing_take request Up is = closing_request request is
    closing_take request Spilled is = tt
    closing_take request Off is = closing_off request is

  closing_cause : (s : Setup) (l : Sizes) (r : Readings) (time : ℕ) (cause : Cause) → Closing s r cause (cause_row s l r time cause)
  unfolding takes.take_row arrived_row
  closing_cause s l r time c.Opened = closing_opened s r c.Opened r.phase
  closing_cause s l r time (c.Take task seq request) =
      closing_when s r (c.Take task seq request) (takes.may_take s r task seq request) (takes.take_in s l r task seq request r.phase) (λ e. closing_take s l r task seq request r.phase refl)
  closing_cause s l r time (c.Arrived packet) =
      closing_when s r (c.Arrived packet) (is_sound packet) (arrived_in s l r packet r.phase) (λ e. closing_arrived s r (c.Arrived packet) l packet r.phase refl (packet_bad r.phase packet))
  closing_cause s l r time (c.Broke why) = closing_broke s r (c.Broke why) time why (λ e. absurd (cc e))
  closing_cause s l r time c.Tick = closing_tick s r c.Tick time r.phase
  closing_cause s l r time c.GaveUp = closing_gave_up s r c.GaveUp r.phase refl (λ e. absurd (cc e))
  closing_cause s l r time c.Finish = closing_finish s r c.Finish r.phase refl

  pub closing_row : (s : Setup) (l : Sizes) (r : Readings) (time : ℕ) (cause : Cause) → Closing s r cause (row_of s l r time cause)
  unfolding row_of
  closing_row s l r time cause = closing_when s r cause (nat_le r.last_time time) (cause_row s l r time cause) (λ e. closing_cause s l r time cause)
