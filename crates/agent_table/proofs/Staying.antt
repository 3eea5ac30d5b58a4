-- An open QoS 2 publish stays open: only its PUBCOMP, the loss of the session and the agent's end complete it. In Off nothing
-- is sent any more.
use Rattle.std.proofs.Common.{◌≡◌, ◌⊎◌, ℕ, ◌≤◌, Bool, true, false, cond, List, [], ◌∷◌, ◌++◌, map, filter, length, Option, Some, None, refl, sym, ap, ◌∙◌, subst, arith}
use Rattle.std.specs.Prelude.{◌&&◌, ◌==◌, not, nat_lt, nat_le}
use Rattle.std.specs.List.{list_any, AllByRecursion}
use Rattle.std.proofs.lemmas.Bool.{eqb-true, eq-eqb}
use mathlib.Core.Logic.{inl, inr}
use Rattle.mqtt_packet.specs.declared.qos.Qos.{Qos}
use Rattle.mqtt_packet.specs.declared.qos.Qos.TheVariants.{AtMostOnce, AtLeastOnce, ExactlyOnce}
use Rattle.mqtt_packet.specs.declared.packet.Packet.{Packet}
use Rattle.mqtt_packet.specs.declared.packet.Packet.TheVariants as p
use Rattle.mqtt_packet.specs.Spelling.{is_sound}
use Rattle.topic_filter.specs.Texts.{is_name}
use Rattle.agent_journal.specs.declared.request.Request.{Request}
use Rattle.agent_journal.specs.declared.request.Request.TheVariants as requests
use Rattle.agent_journal.specs.declared.outcome.Outcome.{Outcome}
use Rattle.agent_journal.specs.declared.outcome.Outcome.TheVariants as o
use Rattle.agent_journal.specs.declared.entry.Cause.{Cause}
use Rattle.agent_journal.specs.declared.entry.Cause.TheVariants as c
use Rattle.agent_journal.specs.declared.entry.Why.{Why}
use Rattle.agent_journal.specs.declared.entry.Why.TheVariants as w
use Rattle.agent_journal.specs.declared.effect.Effect.TheVariants as f
use Rattle.agent_journal.specs.declared.setup.Setup.{Setup}
use Rattle.agent_journal.specs.declared.setup.Phase.{Phase}
use Rattle.agent_journal.specs.declared.setup.Phase.TheVariants.{Down, Opening, Up, Spilled, Off}
use Rattle.agent_journal.specs.Readings.{Pending, completes}
use Rattle.agent_journal.specs.Wires.{sends}
use Rattle.agent_table.specs.Arrivals.{arrived_row, arrived_in, opening_row, up_row, connack_row, first_row, resumed_row, publish_row, message_row, puback_row, pubrec_row, pubcomp_row, suback_row, unsuback_row, awaited, is_subscribe, is_unsubscribe, at, publishes_at, all_done}
use Rattle.agent_table.specs.Awaiting.{ends_waiting}
use Rattle.agent_table.specs.Breaks.{opened_row, broke_row, fault_row, end_row, idle_row, bytes_row, keep_alive_row, in_full_row, gave_up_row, tick_row, finish_row, down}
use Rattle.agent_table.specs.Deliveries.{publishes, is_among, is_open_publish, is_at_least_once, is_exactly_once}
use Rattle.agent_table.specs.Effects.{done, is_publish, resume, renew, pass}
use Rattle.agent_table.specs.Readings.{Readings}
use Rattle.agent_table.specs.Rows.{Row, to, when, ends}
use Rattle.agent_table.specs.Sizes.{Sizes}
use Rattle.agent_table.specs.Table.{row_of, cause_row}
use Rattle.agent_table.specs.Takes as takes
use Rattle.agent_table.proofs.Completions as most
use Rattle.agent_table.proofs.Counts.{is_command, opened, dones, count_append, count_more, all_dones, fewer}
use Rattle.agent_table.proofs.SoundRows.{all_kept}

-- ---- In Off

abbrev pub StaysOff : Option Row → Type 0
StaysOff None = Unit {0}
StaysOff (Some row) = (row.phase ≡ Off) × (sends row.effects ≡ [])

off_when : (b : Bool) (row : Option Row) → StaysOff row → StaysOff (when b row)
off_when true row h = h
off_when false row h = tt

off_take : (r : Readings) (task seq : ℕ) (request : Request) → StaysOff (takes.off_row r task seq request)
off_take r task seq (requests.Publish qos topic payload) = (refl, refl)
off_take r task seq (requests.Subscribe asks) = (refl, refl)
off_take r task seq (requests.Unsubscribe filters) = (refl, refl)
off_take r task seq requests.Ping = (refl, refl)
off_take r task seq requests.Disconnect = (refl, refl)
off_take r task seq requests.Terminate = (refl, refl)
off_take r task seq requests.Leave = (refl, refl)

-- the rows of a phase apart
module _ (s : Setup) (l : Sizes) (r : Readings) where
  off_opened : (phase : Phase) → phase ≡ Off → StaysOff (opened_row s r phase)
  unfolding opened_row
  off_opened phase is = subst (λ (at : Phase). StaysOff (opened_row s r at)) (sym is) tt

  off_broke : (time : ℕ) (why : Why) → r.phase ≡ Off → StaysOff (broke_row s r time why)
  unfolding fault_row end_row idle_row bytes_row keep_alive_row in_full_row
  off_broke time w.Fault is = subst (λ (at : Phase). StaysOff (fault_row s r at)) (sym is) (off_when r.just_sent (to Off []) (refl, refl))
  off_broke time w.End is = subst (λ (at : Phase). StaysOff (end_row r at)) (sym is) tt
  off_broke time w.Idle is = subst (λ (at : Phase). StaysOff (idle_row r at)) (sym is) tt
  off_broke time (w.Bad offset) is = subst (λ (at : Phase). StaysOff (bytes_row s r at)) (sym is) tt
  off_broke time (w.TooLong size) is = subst (λ (at : Phase). StaysOff (bytes_row s r at)) (sym is) tt
  off_broke time w.KeepAlive is = subst (λ (at : Phase). StaysOff (keep_alive_row r time at)) (sym is) tt
  off_broke time w.InFull is = subst (λ (at : Phase). StaysOff (in_full_row r at)) (sym is) tt

  off_cause : (time : ℕ) (cause : Cause) → r.phase ≡ Off → StaysOff (cause_row s l r time cause)
  unfolding takes.take_row arrived_row opened_row gave_up_row tick_row finish_row
  off_cause time c.Opened is = off_opened r.phase is
  off_cause time (c.Take task seq request) is = off_when (takes.may_take s r task seq request) _ (subst (λ (at : Phase). StaysOff (takes.take_in s l r task seq request at)) (sym is) (off_take r task seq request))
  off_cause time (c.Arrived packet) is = off_when (is_sound packet) _ (subst (λ (at : Phase). StaysOff (arrived_in s l r packet at)) (sym is) tt)
  off_cause time (c.Broke why) is = off_broke time why is
  off_cause time c.Tick is = subst (λ (at : Phase). StaysOff (tick_row s r time at)) (sym is) tt
  off_cause time c.GaveUp is = subst (λ (at : Phase). StaysOff (gave_up_row s r at)) (sym is) tt
  off_cause time c.Finish is = subst (λ (at : Phase). StaysOff (finish_row s r at)) (sym is) tt

  -- an agent that has ended stays so, and sends nothing
  pub off_row : (time : ℕ) (cause : Cause) → r.phase ≡ Off → StaysOff (row_of s l r time cause)
  unfolding row_of
  off_row time cause is = off_when (nat_le r.last_time time) (cause_row s l r time cause) (off_cause time cause is)

-- ---- What stays open

-- command q of task t is a QoS 2 publish of this identifier
pub record IsIt (n : ℕ) (command : Pending) : Type 0 where
  pub id : command.id ≡ n
  pub publish : publishes is_exactly_once command.request ≡ true

abbrev pub OnlyIt : ℕ → ℕ → ℕ → Pending → Type 0
OnlyIt t q n command = is_command t q command ≡ true → IsIt n command

least_not : (request : Request) → publishes is_exactly_once request ≡ true → publishes is_at_least_once request ≡ false
least_not (requests.Publish AtMostOnce topic payload) e = absurd (cc e)
least_not (requests.Publish AtLeastOnce topic payload) e = absurd (cc e)
least_not (requests.Publish ExactlyOnce topic payload) e = refl
least_not (requests.Subscribe asks) e = absurd (cc e)
least_not (requests.Unsubscribe filters) e = absurd (cc e)
least_not requests.Ping e = absurd (cc e)
least_not requests.Disconnect e = absurd (cc e)
least_not requests.Terminate e = absurd (cc e)
least_not requests.Leave e = absurd (cc e)

some_publish : (request : Request) → publishes is_exactly_once request ≡ true → not (is_publish request) ≡ false
some_publish (requests.Publish qos topic payload) e = refl
some_publish (requests.Subscribe asks) e = absurd (cc e)
some_publish (requests.Unsubscribe filters) e = absurd (cc e)
some_publish requests.Ping e = absurd (cc e)
some_publish requests.Disconnect e = absurd (cc e)
some_publish requests.Terminate e = absurd (cc e)
some_publish requests.Leave e = absurd (cc e)

subscribe_not : (request : Request) → publishes is_exactly_once request ≡ true → is_subscribe request ≡ false
subscribe_not (requests.Publish qos topic payload) e = refl
subscribe_not (requests.Subscribe asks) e = absurd (cc e)
subscribe_not (requests.Unsubscribe filters) e = absurd (cc e)
subscribe_not requests.Ping e = absurd (cc e)
subscribe_not requests.Disconnect e = absurd (cc e)
subscribe_not requests.Terminate e = absurd (cc e)
subscribe_not requests.Leave e = absurd (cc e)

unsubscribe_not : (request : Request) → publishes is_exactly_once request ≡ true → is_unsubscribe request ≡ false
unsubscribe_not (requests.Publish qos topic payload) e = refl
unsubscribe_not (requests.Subscribe asks) e = absurd (cc e)
unsubscribe_not (requests.Unsubscribe filters) e = absurd (cc e)
unsubscribe_not requests.Ping e = absurd (cc e)
unsubscribe_not requests.Disconnect e = absurd (cc e)
unsubscribe_not requests.Terminate e = absurd (cc e)
unsubscribe_not requests.Leave e = absurd (cc e)

module _ (t q n : ℕ) where
  one_kept : (keeps : Pending → Bool) (command : Pending) (rest : List Pending) (kept its : Bool) → keeps command ≡ kept → is_command t q command ≡ its → OnlyIt t q n command → ((command : Pending) → IsIt n command → keeps command ≡ false) → opened t q rest ≡ 0
      → opened t q (cond kept (command ∷ rest) rest) ≡ 0
  one_kept keeps command rest false its k e only none h = h
  one_kept keeps command rest true true k e only none h = absurd (cc (sym k ∙ none command (only e)))
  one_kept keeps command rest true false k e only none h = let sum = count_more (is_command t q) command rest in let another = ap (λ b. cond {A = ℕ} b 1 0) e in omega (arith, sum, another, h)

  -- the commands that pass a test aren't this one, where it doesn't pass
  none_kept : (keeps : Pending → Bool) (commands : List Pending) → AllByRecursion (OnlyIt t q n) commands → ((command : Pending) → IsIt n command → keeps command ≡ false) → opened t q (filter keeps commands) ≡ 0
  none_kept keeps [] all none = refl
  none_kept keeps (command ∷ commands) all none = one_kept keeps command (filter keeps commands) (keeps command) (is_command t q command) refl refl all.0 none (none_kept keeps commands all.1 none)

  abbrev pub Keeps : Option Row → Type 0
  Keeps None = Unit {0}
  Keeps (Some row) = (row.phase ≡ Off) ⊎ most.AtMost t q 0 row.effects

  module _ (s : Setup) (l : Sizes) (r : Readings) (cause : Cause) (only : AllByRecursion (OnlyIt t q n) r.pending) (waits : ends_waiting n cause ≡ false) where
    keeps_when : (b : Bool) (row : Option Row) → Keeps row → Keeps (when b row)
    keeps_when true row h = h
    keeps_when false row h = tt

    keeps_if : (b : Bool) (x y : Option Row) → (b ≡ true → Keeps x) → (b ≡ false → Keeps y) → Keeps (cond b x y)
    keeps_if true x y h k = h refl
    keeps_if false x y h k = k refl

    -- some of the open ones are done, and this one isn't among them
    others_done : (outcome : Outcome) (commands : List Pending) → opened t q commands ≡ 0 → most.AtMost t q 0 (map (done outcome) commands)
    others_done outcome commands none = let same = all_dones t q outcome commands in omega (arith, same, none)

    keeps_connack : (present : Bool) (code : ℕ) → cause ≡ c.Arrived (p.ConnAck present code) → Keeps (connack_row s r present code)
    unfolding connack_row
    keeps_connack present code is =
        keeps_if (not (code == 0)) (ends s r) _ (λ e. inl refl)
        (λ zero_is. keeps_if r.wiping (to Down (f.Send p.Disconnect ∷ [])) _ (λ e. inr (omega arith))
        (λ e. keeps_if r.first (first_row s r present) (resumed_row r present) (λ e. first present) (λ e. later present is zero_is)))
      where
        first : (present : Bool) → Keeps (first_row s r present)
        first false = inr (omega arith)
        first true = inl refl

        later : (present : Bool) → cause ≡ c.Arrived (p.ConnAck present code) → not (code == 0) ≡ false → Keeps (resumed_row r present)
        later true is zero_is = inr (let a = most.none_resumed t q r in let b = most.none_renewed t q r r.unsure in let sum = count_append (completes t q) (resume r) (renew r r.unsure) in omega (arith, sum, a, b))
        later false is zero_is = absurd (lost (code == 0) zero_is (sym (ap (ends_waiting n) is) ∙ waits))
          where
            lost : (b : Bool) → not b ≡ false → (b && true) ≡ false → ⊥
            lost true e k = cc k
            lost false e k = cc e

    keeps_opening : (packet : Packet) → cause ≡ c.Arrived packet → Keeps (opening_row s r packet)
    keeps_opening (p.Connect clean keep_alive client will user password) is = inl refl
    keeps_opening (p.ConnAck present code) is = keeps_connack present code is
    keeps_opening (p.Publish dup qos retain topic id payload) is = inl refl
    keeps_opening (p.PubAck id) is = inl refl
    keeps_opening (p.PubRec id) is = inl refl
    keeps_opening (p.PubRel id) is = inl refl
    keeps_opening (p.PubComp id) is = inl refl
    keeps_opening (p.Subscribe id asks) is = inl refl
    keeps_opening (p.SubAck id codes) is = inl refl
    keeps_opening (p.Unsubscribe id filters) is = inl refl
    keeps_opening (p.UnsubAck id) is = inl refl
    keeps_opening p.PingReq is = inl refl
    keeps_opening p.PingResp is = inl refl
    keeps_opening p.Disconnect is = inl refl

    keeps_message : (qos : Qos) (topic : List ℕ) (id : ℕ) (payload : List ℕ) → Keeps (message_row s l r qos topic id payload)
    keeps_message AtMostOnce topic id payload = inr (most.none_passed t q s.tasks r (record { topic = topic; qos = AtMostOnce; payload = payload }))
    keeps_message AtLeastOnce topic id payload = inr (most.answered_pass t q s r AtLeastOnce topic payload (p.PubAck id) 0)
    keeps_message ExactlyOnce topic id payload =
        keeps_if (is_among r.held id) (to Up (f.Send (p.PubRec id) ∷ [])) _ (λ e. inr (omega arith))
        (λ e. keeps_if (nat_lt (length r.held) l.inbound) (to Up (pass s r ExactlyOnce topic payload ++ f.Send (p.PubRec id) ∷ [])) (to Spilled []) (λ e. inr (most.answered_pass t q s r ExactlyOnce topic payload (p.PubRec id) 0)) (λ e. inr (omega arith)))

    -- what has an identifier and passes a test
    at_kept : (id : ℕ) → AllByRecursion (OnlyIt t q n) (at id r.pending)
    at_kept id = all_kept (OnlyIt t q n) (λ command. command.id == id) r.pending only

    keeps_completed : (id : ℕ) → cause ≡ c.Arrived (p.PubComp id) → opened t q (publishes_at is_exactly_once id r.pending) ≡ 0
    keeps_completed id is = omega (arith, part, none)
      where
        none : opened t q (at id r.pending) ≡ 0
        none = none_kept (λ command. command.id == id) r.pending only (λ command it. ap (λ k. k == id) it.id ∙ turned (n == id) refl (sym (ap (ends_waiting n) is) ∙ waits))
          where
            turned : (b : Bool) → (n == id) ≡ b → (id == n) ≡ false → b ≡ false
            turned false e k = refl
            turned true e k = absurd (cc (sym k ∙ eq-eqb id n (sym (eqb-true n id e))))

        part : opened t q (publishes_at is_exactly_once id r.pending) ≤ opened t q (at id r.pending)
        part = fewer t q (λ command. publishes is_exactly_once command.request) (at id r.pending)

    keeps_up : (packet : Packet) → cause ≡ c.Arrived packet → Keeps (up_row s l r packet)
    unfolding publish_row puback_row pubrec_row pubcomp_row suback_row unsuback_row
    keeps_up (p.Connect clean keep_alive client will user password) is = inl refl
    keeps_up (p.ConnAck present code) is = inl refl
    keeps_up (p.Publish dup qos retain topic id payload) is = keeps_if (is_name topic) (message_row s l r qos topic id payload) (ends s r) (λ e. keeps_message qos topic id payload) (λ e. inl refl)
    keeps_up (p.PubAck id) is =
        inr (others_done o.Done (publishes_at is_at_least_once id r.pending) (none_kept (λ command. publishes is_at_least_once command.request) (at id r.pending) (at_kept id) (λ command it. least_not command.request it.publish)))
    keeps_up (p.PubRec id) is = inr (most.most_if t q 0 (is_open_publish is_exactly_once r.pending id) (f.Send (p.PubRel id) ∷ []) [] (omega arith) (omega arith))
    keeps_up (p.PubRel id) is = inr (omega arith)
    keeps_up (p.PubComp id) is = inr (most.most_if t q 0 (is_among r.released id) (all_done (publishes_at is_exactly_once id r.pending)) [] (others_done o.Done (publishes_at is_exactly_once id r.pending) (keeps_completed id is)) (omega arith))
    keeps_up (p.Subscribe id asks) is = inl refl
    keeps_up (p.SubAck id codes) is =
        keeps_if (list_any (λ count. not (count == length codes)) (awaited r id)) (ends s r) _ (λ e. inl refl)
        (λ e. inr (others_done (o.Granted codes) (filter (λ command. is_subscribe command.request) (at id r.pending)) (none_kept (λ command. is_subscribe command.request) (at id r.pending) (at_kept id) (λ command it. subscribe_not command.request it.publish))))
    keeps_up (p.Unsubscribe id filters) is = inl refl
    keeps_up (p.UnsubAck id) is =
        inr (others_done o.Done (filter (λ command. is_unsubscribe command.request) (at id r.pending)) (none_kept (λ command. is_unsubscribe command.request) (at id r.pending) (at_kept id) (λ command it. unsubscribe_not command.request it.publish)))
    keeps_up p.PingReq is = inl refl
    keeps_up p.PingResp is = inr (omega arith)
    keeps_up p.Disconnect is = inl refl

    keeps_arrived : (packet : Packet) (phase : Phase) → cause ≡ c.Arrived packet → Keeps (arrived_in s l r packet phase)
    keeps_arrived packet Down is = tt
    keeps_arrived packet Opening is = keeps_opening packet is
    keeps_arrived packet Up is = keeps_up packet is
    keeps_arrived packet Spilled is = tt
    keeps_arrived packet Off is = tt

    keeps_down : Keeps (down r)
    keeps_down =
        let others : Pending → Bool = λ command. not (is_publish command.request) in
        inr (others_done o.LinkLost (filter others r.pending) (none_kept others r.pending only (λ command it. some_publish command.request it.publish)))

    keeps_fault : (phase : Phase) → Keeps (fault_row s r phase)
    unfolding fault_row
    keeps_fault Down = keeps_when _ (to Down []) (inr (omega arith))
    keeps_fault Opening = keeps_down
    keeps_fault Up = keeps_down
    keeps_fault Spilled = keeps_down
    keeps_fault Off = keeps_when _ (to Off []) (inl refl)

    keeps_end : (phase : Phase) → Keeps (end_row r phase)
    unfolding end_row
    keeps_end Down = tt
    keeps_end Opening = keeps_down
    keeps_end Up = keeps_down
    keeps_end Spilled = tt
    keeps_end Off = tt

    keeps_idle : (phase : Phase) → Keeps (idle_row r phase)
    unfolding idle_row
    keeps_idle Down = tt
    keeps_idle Opening = keeps_down
    keeps_idle Up = keeps_when _ (down r) keeps_down
    keeps_idle Spilled = tt
    keeps_idle Off = tt

    keeps_bytes : (phase : Phase) → Keeps (bytes_row s r phase)
    unfolding bytes_row
    keeps_bytes Down = tt
    keeps_bytes Opening = inl refl
    keeps_bytes Up = inl refl
    keeps_bytes Spilled = tt
    keeps_bytes Off = tt

    keeps_keep_alive : (time : ℕ) (phase : Phase) → Keeps (keep_alive_row r time phase)
    unfolding keep_alive_row
    keeps_keep_alive time Down = tt
    keeps_keep_alive time Opening = tt
    keeps_keep_alive time Up = keeps_when _ (down r) keeps_down
    keeps_keep_alive time Spilled = tt
    keeps_keep_alive time Off = tt

    keeps_in_full : (phase : Phase) → Keeps (in_full_row r phase)
    unfolding in_full_row
    keeps_in_full Down = tt
    keeps_in_full Opening = tt
    keeps_in_full Up = tt
    keeps_in_full Spilled = keeps_down
    keeps_in_full Off = tt

    keeps_broke : (time : ℕ) (why : Why) → Keeps (broke_row s r time why)
    keeps_broke time w.Fault = keeps_fault r.phase
    keeps_broke time w.End = keeps_end r.phase
    keeps_broke time w.Idle = keeps_idle r.phase
    keeps_broke time (w.Bad offset) = keeps_bytes r.phase
    keeps_broke time (w.TooLong size) = keeps_bytes r.phase
    keeps_broke time w.KeepAlive = keeps_keep_alive time r.phase
    keeps_broke time w.InFull = keeps_in_full r.phase

    keeps_opened : (phase : Phase) → Keeps (opened_row s r phase)
    unfolding opened_row
    keeps_opened Down = keeps_when _ (to Opening _) (inr (omega arith))
    keeps_opened Opening = tt
    keeps_opened Up = tt
    keeps_opened Spilled = tt
    keeps_opened Off = tt

    keeps_gave_up : (phase : Phase) → Keeps (gave_up_row s r phase)
    unfolding gave_up_row
    keeps_gave_up Down = keeps_when _ (ends s r) (inl refl)
    keeps_gave_up Opening = tt
    keeps_gave_up Up = tt
    keeps_gave_up Spilled = tt
    keeps_gave_up Off = tt

    keeps_tick : (time : ℕ) (phase : Phase) → Keeps (tick_row s r time phase)
    unfolding tick_row
    keeps_tick time Down = tt
    keeps_tick time Opening = tt
    keeps_tick time Up = keeps_when _ (to Up _) (inr (omega arith))
    keeps_tick time Spilled = tt
    keeps_tick time Off = tt

    keeps_finish : (phase : Phase) → Keeps (finish_row s r phase)
    unfolding finish_row
    keeps_finish Down = tt
    keeps_finish Opening = tt
    keeps_finish Up = keeps_when _ (to Off _) (inl refl)
    keeps_finish Spilled = tt
    keeps_finish Off = tt

    -- ---- Takes, of another command

    module _ (task seq : ℕ) (another : (task == t && seq == q) ≡ false) where
      lower : (row : Option Row) → most.Within t q (most.own t q task seq) row → Keeps row
      lower None h = tt
      lower (Some row) h = inr (subst (λ k. dones t q row.effects ≤ k) (ap (λ b. cond b 1 0) another) h)

      keeps_request : (request : Request) → Keeps (takes.up_row s l r task seq request)
      unfolding takes.subscribe_row takes.unsubscribe_row takes.disconnect_row
      keeps_request (requests.Publish qos topic payload) = lower (takes.publish_row l r task seq qos topic payload) (most.within_request t q l r task seq qos topic payload)
      keeps_request (requests.Subscribe asks) =
          lower (takes.subscribe_row l r task seq asks) (most.most_if t q (most.own t q task seq) (takes.is_full l r) (takes.at_once task seq o.NoRoom) _ (most.one_done t q task seq o.NoRoom)
          (most.most_if t q (most.own t q task seq) (nat_lt l.routes (length (takes.routes_with r task asks))) (takes.at_once task seq o.NoRoute) _ (most.one_done t q task seq o.NoRoute) (omega arith)))
      keeps_request (requests.Unsubscribe filters) = lower (takes.unsubscribe_row l r task seq filters) (most.within_unsubscribed t q l r task seq (takes.own_filters r task filters))
      keeps_request requests.Ping = lower (takes.ping_row task seq) (most.sent_done t q task seq p.PingReq o.Done)
      keeps_request requests.Disconnect = inl refl
      keeps_request requests.Terminate = inl refl
      keeps_request requests.Leave = inr (omega arith)

      keeps_off : (request : Request) → Keeps (takes.off_row r task seq request)
      keeps_off (requests.Publish qos topic payload) = inl refl
      keeps_off (requests.Subscribe asks) = inl refl
      keeps_off (requests.Unsubscribe filters) = inl refl
      keeps_off requests.Ping = inl refl
      keeps_off requests.Disconnect = inl refl
      keeps_off requests.Terminate = inl refl
      keeps_off requests.Leave = inl refl

      keeps_take : (request : Request) (phase : Phase) → Keeps (takes.take_in s l r task seq request phase)
      keeps_take request Down = tt
      keeps_take request Opening = tt
      keeps_take request Up = keeps_request request
      keeps_take request Spilled = tt
      keeps_take request Off = keeps_off request

    keeps_cause : (time : ℕ) (same : Cause) → cause ≡ same → ((task seq : ℕ) (request : Request) → same ≡ c.Take task seq request → (task == t && seq == q) ≡ false) → Keeps (cause_row s l r time same)
    unfolding takes.take_row arrived_row
    keeps_cause time c.Opened is another = keeps_opened r.phase
    keeps_cause time (c.Take task seq request) is another = keeps_when (takes.may_take s r task seq request) (takes.take_in s l r task seq request r.phase) (keeps_take task seq (another task seq request refl) request r.phase)
    keeps_cause time (c.Arrived packet) is another = keeps_when (is_sound packet) (arrived_in s l r packet r.phase) (keeps_arrived packet r.phase is)
    keeps_cause time (c.Broke why) is another = keeps_broke time why
    keeps_cause time c.Tick is another = keeps_tick time r.phase
    keeps_cause time c.GaveUp is another = keeps_gave_up r.phase
    keeps_cause time c.Finish is another = keeps_finish r.phase

    -- A row leads to Off or doesn't complete it, where its cause doesn't end the waiting and doesn't take it.
    pub keeps_row : (time : ℕ) → ((task seq : ℕ) (request : Request) → cause ≡ c.Take task seq request → (task == t && seq == q) ≡ false) → Keeps (row_of s l r time cause)
    unfolding row_of
    keeps_row time another = keeps_when (nat_le r.last_time time) (cause_row s l r time cause) (keeps_cause time cause refl another)
