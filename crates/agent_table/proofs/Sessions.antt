-- The first session: which rows lead to Opening and to Up, and that no CONNACK was accepted with clean session 0 before it.
use Rattle.std.proofs.Common.{◌≡◌, ◌⊎◌, ℕ, ◌+◌, Bool, true, false, cond, List, [], ◌∷◌, length, Option, Some, None, refl, sym, ap, ◌∙◌, subst, arith}
use Rattle.std.specs.Prelude.{◌&&◌, ◌||◌, ◌==◌, not, nat_lt, nat_le}
use Rattle.std.specs.List.{list_any}
use Rattle.std.proofs.lemmas.Bool.{eqb-true, eq-eqb, le-leb, leb-true}
use mathlib.Core.Logic.{inl, inr}
use Rattle.mqtt_packet.specs.declared.qos.Qos.{Qos}
use Rattle.mqtt_packet.specs.declared.qos.Qos.TheVariants.{AtMostOnce, AtLeastOnce, ExactlyOnce}
use Rattle.mqtt_packet.specs.declared.packet.Packet.{Packet}
use Rattle.mqtt_packet.specs.declared.packet.Packet.TheVariants as p
use Rattle.mqtt_packet.specs.Spelling.{is_sound}
use Rattle.topic_filter.specs.Texts.{is_name}
use Rattle.agent_journal.specs.declared.request.Request.{Request}
use Rattle.agent_journal.specs.declared.request.Request.TheVariants as requests
use Rattle.agent_journal.specs.declared.entry.Cause.{Cause}
use Rattle.agent_journal.specs.declared.entry.Cause.TheVariants as c
use Rattle.agent_journal.specs.declared.entry.Entry.{Entry}
use Rattle.agent_journal.specs.declared.entry.Why.{Why}
use Rattle.agent_journal.specs.declared.entry.Why.TheVariants as w
use Rattle.agent_journal.specs.declared.effect.Effect.{Effect}
use Rattle.agent_journal.specs.declared.effect.Effect.TheVariants as f
use Rattle.agent_journal.specs.declared.setup.Setup.{Setup}
use Rattle.agent_journal.specs.declared.setup.Phase.{Phase}
use Rattle.agent_journal.specs.declared.setup.Phase.TheVariants.{Down, Opening, Up, Spilled, Off}
use Rattle.agent_journal.specs.Readings.{accepts, accepted_of}
use Rattle.agent_journal.specs.Wires.{is_opened, sends}
use Rattle.agent_table.specs.Arrivals.{arrived_row, arrived_in, opening_row, up_row, connack_row, first_row, resumed_row, publish_row, message_row, puback_row, pubrec_row, pubcomp_row, suback_row, unsuback_row, awaited}
use Rattle.agent_table.specs.Breaks.{connect, opened_row, broke_row, fault_row, end_row, idle_row, bytes_row, keep_alive_row, in_full_row, gave_up_row, tick_row, finish_row, down, is_none, all_left}
use Rattle.agent_table.specs.Deliveries.{is_among}
use Rattle.agent_table.specs.Histories.{IsLegalPast, readings, row, effects_of, phase_of, phase_by}
use Rattle.agent_table.specs.Meanings.{is_clean_connect, is_clean, has_session, FirstHasNoSession}
use Rattle.agent_table.specs.Readings.{Readings}
use Rattle.agent_table.specs.Rows.{Row, to, when, ends}
use Rattle.agent_table.specs.Sessions.{is_wiping, is_first}
use Rattle.agent_table.specs.Sizes.{Sizes}
use Rattle.agent_table.specs.Table.{row_of, cause_row}
use Rattle.agent_table.specs.Takes as takes

-- Opening is reached by an opening alone, and Up from Up or by a CONNACK on a connection that isn't wiping.
record Goes (s : Setup) (r : Readings) (cause : Cause) (found : Row) : Type 0 where
  pub opening : found.phase ≡ Opening → (is_opened cause ≡ true) × (found.effects ≡ f.Send (connect s r.wiping) ∷ [])
  pub up : found.phase ≡ Up → ((r.phase ≡ Up) ⊎ ((r.phase ≡ Opening) × (r.wiping ≡ false) × (accepts cause ≡ true))) × (is_opened cause ≡ false)
  pub accepting : accepts cause ≡ true → (r.phase ≡ Up) ⊎ (r.phase ≡ Opening)

flipped : (b : Bool) → not b ≡ false → b ≡ true
flipped true e = refl
flipped false e = absurd (cc e)

module _ (s : Setup) (r : Readings) (cause : Cause) where
  abbrev GoesBy : Option Row → Type 0
  GoesBy None = Unit {0}
  GoesBy (Some found) = Goes s r cause found

  goes_when : (b : Bool) (found : Option Row) → GoesBy found → GoesBy (when b found)
  goes_when true found h = h
  goes_when false found h = tt

  goes_if : (b : Bool) (x y : Option Row) → GoesBy x → (b ≡ false → GoesBy y) → GoesBy (cond b x y)
  goes_if true x y h k = h
  goes_if false x y h k = k refl

  module _ (shut : is_opened cause ≡ false) (accepting : accepts cause ≡ true → (r.phase ≡ Up) ⊎ (r.phase ≡ Opening)) where
    to_off : (effects : List Effect) → GoesBy (to Off effects)
    to_off effects = record { opening = λ e. absurd (cc e); up = λ e. absurd (cc e); accepting = accepting }

    to_down : (effects : List Effect) → GoesBy (to Down effects)
    to_down effects = record { opening = λ e. absurd (cc e); up = λ e. absurd (cc e); accepting = accepting }

    to_spilled : (effects : List Effect) → GoesBy (to Spilled effects)
    to_spilled effects = record { opening = λ e. absurd (cc e); up = λ e. absurd (cc e); accepting = accepting }

    stays_up : (effects : List Effect) → r.phase ≡ Up → GoesBy (to Up effects)
    stays_up effects is = record { opening = λ e. absurd (cc e); up = λ e. (inl is, shut); accepting = accepting }

    comes_up : (effects : List Effect) → r.phase ≡ Opening → r.wiping ≡ false → accepts cause ≡ true → GoesBy (to Up effects)
    comes_up effects is keeps accepted = record { opening = λ e. absurd (cc e); up = λ e. (inr (is, keeps, accepted), shut); accepting = accepting }

    goes_ends : GoesBy (ends s r)
    goes_ends = to_off _

    goes_first : (present : Bool) → r.phase ≡ Opening → r.wiping ≡ false → accepts cause ≡ true → GoesBy (first_row s r present)
    goes_first false is keeps accepted = comes_up [] is keeps accepted
    goes_first true is keeps accepted = to_off _

    goes_resumed : (present : Bool) → r.phase ≡ Opening → r.wiping ≡ false → accepts cause ≡ true → GoesBy (resumed_row r present)
    goes_resumed true is keeps accepted = comes_up _ is keeps accepted
    goes_resumed false is keeps accepted = comes_up _ is keeps accepted

    goes_connack : (present : Bool) (code : ℕ) → r.phase ≡ Opening → accepts cause ≡ (code == 0) → GoesBy (connack_row s r present code)
    unfolding connack_row
    goes_connack present code is by_code =
        goes_if (not (code == 0)) (ends s r) _ goes_ends
        (λ zero_is. goes_if r.wiping (to Down (f.Send p.Disconnect ∷ [])) _ (to_down _)
        (λ keeps. goes_if r.first (first_row s r present) (resumed_row r present) (goes_first present is keeps (by_code ∙ flipped (code == 0) zero_is)) (λ later. goes_resumed present is keeps (by_code ∙ flipped (code == 0) zero_is))))

    goes_opening : (packet : Packet) → r.phase ≡ Opening → cause ≡ c.Arrived packet → GoesBy (opening_row s r packet)
    goes_opening (p.Connect clean keep_alive client will user password) is its = goes_ends
    goes_opening (p.ConnAck present code) is its = goes_connack present code is (ap accepts its)
    goes_opening (p.Publish dup qos retain topic id payload) is its = goes_ends
    goes_opening (p.PubAck id) is its = goes_ends
    goes_opening (p.PubRec id) is its = goes_ends
    goes_opening (p.PubRel id) is its = goes_ends
    goes_opening (p.PubComp id) is its = goes_ends
    goes_opening (p.Subscribe id asks) is its = goes_ends
    goes_opening (p.SubAck id codes) is its = goes_ends
    goes_opening (p.Unsubscribe id filters) is its = goes_ends
    goes_opening (p.UnsubAck id) is its = goes_ends
    goes_opening p.PingReq is its = goes_ends
    goes_opening p.PingResp is its = goes_ends
    goes_opening p.Disconnect is its = goes_ends

    goes_message : (l : Sizes) (qos : Qos) (topic : List ℕ) (id : ℕ) (payload : List ℕ) → r.phase ≡ Up → GoesBy (message_row s l r qos topic id payload)
    goes_message l AtMostOnce topic id payload is = stays_up _ is
    goes_message l AtLeastOnce topic id payload is = stays_up _ is
    goes_message l ExactlyOnce topic id payload is =
        goes_if (is_among r.held id) (to Up (f.Send (p.PubRec id) ∷ [])) _ (stays_up _ is)
        (λ other. goes_if (nat_lt (length r.held) l.inbound) _ (to Spilled []) (stays_up _ is) (λ full. to_spilled []))

    goes_up : (l : Sizes) (packet : Packet) → r.phase ≡ Up → GoesBy (up_row s l r packet)
    unfolding publish_row puback_row pubrec_row pubcomp_row suback_row unsuback_row
    goes_up l (p.Connect clean keep_alive client will user password) is = goes_ends
    goes_up l (p.ConnAck present code) is = goes_ends
    goes_up l (p.Publish dup qos retain topic id payload) is = goes_if (is_name topic) (message_row s l r qos topic id payload) (ends s r) (goes_message l qos topic id payload is) (λ e. goes_ends)
    goes_up l (p.PubAck id) is = stays_up _ is
    goes_up l (p.PubRec id) is = stays_up _ is
    goes_up l (p.PubRel id) is = stays_up _ is
    goes_up l (p.PubComp id) is = stays_up _ is
    goes_up l (p.Subscribe id asks) is = goes_ends
    goes_up l (p.SubAck id codes) is = goes_if (list_any (λ count. not (count == length codes)) (awaited r id)) (ends s r) _ goes_ends (λ e. stays_up _ is)
    goes_up l (p.Unsubscribe id filters) is = goes_ends
    goes_up l (p.UnsubAck id) is = stays_up _ is
    goes_up l p.PingReq is = goes_ends
    goes_up l p.PingResp is = stays_up _ is
    goes_up l p.Disconnect is = goes_ends

    -- ---- Breaks and times

    goes_fault : (phase : Phase) → GoesBy (fault_row s r phase)
    unfolding fault_row
    goes_fault Down = goes_when (nat_le r.breaks s.reopen) (to Down []) (to_down [])
    goes_fault Opening = to_down _
    goes_fault Up = to_down _
    goes_fault Spilled = to_down _
    goes_fault Off = goes_when r.just_sent (to Off []) (to_off [])

    goes_end : (phase : Phase) → GoesBy (end_row r phase)
    unfolding end_row
    goes_end Down = tt
    goes_end Opening = to_down _
    goes_end Up = to_down _
    goes_end Spilled = tt
    goes_end Off = tt

    goes_idle : (phase : Phase) → GoesBy (idle_row r phase)
    unfolding idle_row
    goes_idle Down = tt
    goes_idle Opening = to_down _
    goes_idle Up = goes_when (not (is_none r.pending)) (down r) (to_down _)
    goes_idle Spilled = tt
    goes_idle Off = tt

    goes_bytes : (phase : Phase) → GoesBy (bytes_row s r phase)
    unfolding bytes_row
    goes_bytes Down = tt
    goes_bytes Opening = goes_ends
    goes_bytes Up = goes_ends
    goes_bytes Spilled = tt
    goes_bytes Off = tt

    goes_keep_alive : (time : ℕ) (phase : Phase) → GoesBy (keep_alive_row r time phase)
    unfolding keep_alive_row
    goes_keep_alive time Down = tt
    goes_keep_alive time Opening = tt
    goes_keep_alive time Up = goes_when _ (down r) (to_down _)
    goes_keep_alive time Spilled = tt
    goes_keep_alive time Off = tt

    goes_in_full : (phase : Phase) → GoesBy (in_full_row r phase)
    unfolding in_full_row
    goes_in_full Down = tt
    goes_in_full Opening = tt
    goes_in_full Up = tt
    goes_in_full Spilled = to_down _
    goes_in_full Off = tt

    goes_broke : (time : ℕ) (why : Why) → GoesBy (broke_row s r time why)
    goes_broke time w.Fault = goes_fault r.phase
    goes_broke time w.End = goes_end r.phase
    goes_broke time w.Idle = goes_idle r.phase
    goes_broke time (w.Bad offset) = goes_bytes r.phase
    goes_broke time (w.TooLong size) = goes_bytes r.phase
    goes_broke time w.KeepAlive = goes_keep_alive time r.phase
    goes_broke time w.InFull = goes_in_full r.phase

    goes_gave_up : (phase : Phase) → GoesBy (gave_up_row s r phase)
    unfolding gave_up_row
    goes_gave_up Down = goes_when (r.breaks == s.reopen + 1) (ends s r) goes_ends
    goes_gave_up Opening = tt
    goes_gave_up Up = tt
    goes_gave_up Spilled = tt
    goes_gave_up Off = tt

    goes_tick : (time : ℕ) (phase : Phase) → r.phase ≡ phase → GoesBy (tick_row s r time phase)
    unfolding tick_row
    goes_tick time Down is = tt
    goes_tick time Opening is = tt
    goes_tick time Up is = goes_when _ (to Up (f.Send p.PingReq ∷ [])) (stays_up _ is)
    goes_tick time Spilled is = tt
    goes_tick time Off is = tt

    goes_finish : (phase : Phase) → GoesBy (finish_row s r phase)
    unfolding finish_row
    goes_finish Down = tt
    goes_finish Opening = tt
    goes_finish Up = goes_when (all_left s.tasks r.left && is_none r.pending) (to Off (f.Send p.Disconnect ∷ [])) (to_off _)
    goes_finish Spilled = tt
    goes_finish Off = tt

    -- ---- Takes

    goes_publish : (l : Sizes) (task seq : ℕ) (qos : Qos) (topic payload : List ℕ) → r.phase ≡ Up → GoesBy (takes.publish_row l r task seq qos topic payload)
    unfolding takes.publish_row
    goes_publish l task seq AtMostOnce topic payload is = stays_up _ is
    goes_publish l task seq AtLeastOnce topic payload is = stays_up _ is
    goes_publish l task seq ExactlyOnce topic payload is = stays_up _ is

    goes_request : (l : Sizes) (task seq : ℕ) (request : Request) → r.phase ≡ Up → GoesBy (takes.up_row s l r task seq request)
    unfolding takes.subscribe_row takes.unsubscribe_row takes.disconnect_row
    goes_request l task seq (requests.Publish qos topic payload) is = goes_publish l task seq qos topic payload is
    goes_request l task seq (requests.Subscribe asks) is = stays_up _ is
    goes_request l task seq (requests.Unsubscribe filters) is = stays_up _ is
    goes_request l task seq requests.Ping is = stays_up _ is
    goes_request l task seq requests.Disconnect is = to_off _
    goes_request l task seq requests.Terminate is = to_off _
    goes_request l task seq requests.Leave is = stays_up _ is

    goes_off : (task seq : ℕ) (request : Request) → GoesBy (takes.off_row r task seq request)
    goes_off task seq (requests.Publish qos topic payload) = to_off _
    goes_off task seq (requests.Subscribe asks) = to_off _
    goes_off task seq (requests.Unsubscribe filters) = to_off _
    goes_off task seq requests.Ping = to_off _
    goes_off task seq requests.Disconnect = to_off _
    goes_off task seq requests.Terminate = to_off _
    goes_off task seq requests.Leave = to_off _

    goes_take : (l : Sizes) (task seq : ℕ) (request : Request) (phase : Phase) → r.phase ≡ phase → GoesBy (takes.take_in s l r task seq request phase)
    goes_take l task seq request Down is = tt
    goes_take l task seq request Opening is = tt
    goes_take l task seq request Up is = goes_request l task seq request is
    goes_take l task seq request Spilled is = tt
    goes_take l task seq request Off is = goes_off task seq request

goes_arrived : (s : Setup) (l : Sizes) (r : Readings) (packet : Packet) (phase : Phase) → r.phase ≡ phase → GoesBy s r (c.Arrived packet) (arrived_in s l r packet phase)
goes_arrived s l r packet Down is = tt
goes_arrived s l r packet Opening is = goes_opening s r (c.Arrived packet) refl (λ e. inr is) packet is refl
goes_arrived s l r packet Up is = goes_up s r (c.Arrived packet) refl (λ e. inl is) l packet is
goes_arrived s l r packet Spilled is = tt
goes_arrived s l r packet Off is = tt

goes_opened : (s : Setup) (r : Readings) (phase : Phase) → GoesBy s r c.Opened (opened_row s r phase)
unfolding opened_row
goes_opened s r Down =
    goes_when s r c.Opened (nat_le r.breaks s.reopen) (to Opening (f.Send (connect s r.wiping) ∷ []))
    (record { opening = λ e. (refl, refl); up = λ e. absurd (cc e); accepting = λ e. absurd (cc e) })
goes_opened s r Opening = tt
goes_opened s r Up = tt
goes_opened s r Spilled = tt
goes_opened s r Off = tt

goes_cause : (s : Setup) (l : Sizes) (r : Readings) (time : ℕ) (cause : Cause) → GoesBy s r cause (cause_row s l r time cause)
unfolding takes.take_row arrived_row
goes_cause s l r time c.Opened = goes_opened s r r.phase
goes_cause s l r time (c.Take task seq request) =
    goes_when s r (c.Take task seq request) (takes.may_take s r task seq request) (takes.take_in s l r task seq request r.phase)
    (goes_take s r (c.Take task seq request) refl (λ e. absurd (cc e)) l task seq request r.phase refl)
goes_cause s l r time (c.Arrived packet) = goes_when s r (c.Arrived packet) (is_sound packet) (arrived_in s l r packet r.phase) (goes_arrived s l r packet r.phase refl)
goes_cause s l r time (c.Broke why) = goes_broke s r (c.Broke why) refl (λ e. absurd (cc e)) time why
goes_cause s l r time c.Tick = goes_tick s r c.Tick refl (λ e. absurd (cc e)) time r.phase refl
goes_cause s l r time c.GaveUp = goes_gave_up s r c.GaveUp refl (λ e. absurd (cc e)) r.phase
goes_cause s l r time c.Finish = goes_finish s r c.Finish refl (λ e. absurd (cc e)) r.phase

goes_row : (s : Setup) (l : Sizes) (r : Readings) (time : ℕ) (cause : Cause) → GoesBy s r cause (row_of s l r time cause)
unfolding row_of
goes_row s l r time cause = goes_when s r cause (nat_le r.last_time time) (cause_row s l r time cause) (goes_cause s l r time cause)

-- ---- A past

opened_accepts : (cause : Cause) → is_opened cause ≡ true → accepts cause ≡ false
opened_accepts c.Opened e = refl
opened_accepts (c.Take task seq request) e = absurd (cc e)
opened_accepts (c.Arrived packet) e = absurd (cc e)
opened_accepts (c.Broke why) e = absurd (cc e)
opened_accepts c.Tick e = absurd (cc e)
opened_accepts c.GaveUp e = absurd (cc e)
opened_accepts c.Finish e = absurd (cc e)

record Knows (s : Setup) (l : Sizes) (past : List Entry) : Type 0 where
  opening : phase_of s l past ≡ Opening → is_clean past ≡ is_wiping s (accepted_of past)
  up : phase_of s l past ≡ Up → (is_clean past ≡ false) × (is_first s (accepted_of past) ≡ false)
  first : is_first s (accepted_of past) ≡ not (has_session past)

-- one more accepted CONNACK: on a wiping connection it was the first one, and on another the connection isn't first any more
one_more_wiping : (wipe : Bool) (n : ℕ) → (wipe && n == 0) ≡ true → (nat_le (n + 1) (cond wipe 1 0) ≡ true) × (nat_le n (cond wipe 1 0) ≡ true)
one_more_wiping true n wiping = let none : n ≡ 0 = eqb-true n 0 wiping in (le-leb (n + 1) 1 (omega (arith, none)), le-leb n 1 (omega (arith, none)))
one_more_wiping false n wiping = absurd (cc wiping)

no_longer : (wipe : Bool) (n : ℕ) → (wipe && n == 0) ≡ false → nat_le (n + 1) (cond wipe 1 0) ≡ false
no_longer wipe n keeps = go (nat_le (n + 1) (cond wipe 1 0)) refl
  where
    never : (wipe : Bool) → (wipe && n == 0) ≡ false → nat_le (n + 1) (cond wipe 1 0) ≡ true → ⊥
    never true other e = let more = leb-true (n + 1) 1 e in cc (other, eq-eqb n 0 (omega (arith, more)))
    never false other e = let more = leb-true (n + 1) 0 e in omega (arith, more)

    go : (b : Bool) → nat_le (n + 1) (cond wipe 1 0) ≡ b → b ≡ false
    go false e = refl
    go true e = absurd (never wipe keeps e)

later_still : (n limit : ℕ) → nat_le n limit ≡ false → nat_le (n + 1) limit ≡ false
later_still n limit is = go (nat_le (n + 1) limit) refl
  where
    go : (b : Bool) → nat_le (n + 1) limit ≡ b → b ≡ false
    go false e = refl
    go true e = let more = leb-true (n + 1) limit e in absurd (cc (le-leb n limit (omega (arith, more)), is))

module _ (s : Setup) (l : Sizes) (e : Entry) (past : List Entry) (knows : Knows s l past) (found : Row) (phase : phase_of s l (e ∷ past) ≡ found.phase) (same : found.effects ≡ e.effects)
    (goes : Goes s (readings s l past) e.cause found) where
  abbrev n : ℕ
  n = accepted_of past

  or_false : (b : Bool) → (b || false) ≡ b
  or_false true = refl
  or_false false = refl

  opening_on : phase_of s l (e ∷ past) ≡ Opening → is_clean (e ∷ past) ≡ is_wiping s (accepted_of (e ∷ past))
  opening_on is =
      let by = goes.opening (sym phase ∙ is) in
      let effects : e.effects ≡ f.Send (connect s (is_wiping s n)) ∷ [] = sym same ∙ by.1 in
      ap (λ b. cond b (list_any is_clean_connect (sends e.effects)) (is_clean past)) by.0 ∙ ap (λ (es : List Effect). list_any is_clean_connect (sends es)) effects ∙ or_false (is_wiping s n)
      ∙ sym (ap (λ b. is_wiping s (cond b (n + 1) n)) (opened_accepts e.cause by.0))

  -- on the connection that is Up no clean session was asked for
  was_unclean : (phase_of s l past ≡ Up) ⊎ ((phase_of s l past ≡ Opening) × (is_wiping s n ≡ false) × (accepts e.cause ≡ true)) → is_clean past ≡ false
  was_unclean (inl is) = (knows.up is).0
  was_unclean (inr (is, keeps, accepted)) = knows.opening is ∙ keeps

  not_first : (phase_of s l past ≡ Up) ⊎ ((phase_of s l past ≡ Opening) × (is_wiping s n ≡ false) × (accepts e.cause ≡ true)) → is_first s (accepted_of (e ∷ past)) ≡ false
  not_first (inl is) = by (accepts e.cause)
    where
      by : (b : Bool) → is_first s (cond b (n + 1) n) ≡ false
      by true = later_still n (cond s.wipe 1 0) (knows.up is).1
      by false = (knows.up is).1
  not_first (inr (is, keeps, accepted)) = ap (λ b. is_first s (cond b (n + 1) n)) accepted ∙ no_longer s.wipe n keeps

  up_on : phase_of s l (e ∷ past) ≡ Up → (is_clean (e ∷ past) ≡ false) × (is_first s (accepted_of (e ∷ past)) ≡ false)
  up_on is = let by = goes.up (sym phase ∙ is) in (ap (λ b. cond b (list_any is_clean_connect (sends e.effects)) (is_clean past)) by.1 ∙ was_unclean by.0, not_first by.0)

  first_by : (b : Bool) → accepts e.cause ≡ b → is_first s (cond b (n + 1) n) ≡ not ((b && not (is_clean past)) || has_session past)
  first_by false is = knows.first
  first_by true is = by (goes.accepting is)
    where
      on_clean : (clean : Bool) → is_clean past ≡ clean → is_wiping s n ≡ clean → is_first s (n + 1) ≡ not ((true && not clean) || has_session past)
      on_clean true clean wiping = let both = one_more_wiping s.wipe n wiping in both.0 ∙ sym both.1 ∙ knows.first
      on_clean false clean keeps = no_longer s.wipe n keeps

      by : (phase_of s l past ≡ Up) ⊎ (phase_of s l past ≡ Opening) → is_first s (n + 1) ≡ not ((true && not (is_clean past)) || has_session past)
      by (inl up) = let was = knows.up up in later_still n (cond s.wipe 1 0) was.1 ∙ ap (λ b. not ((true && not b) || has_session past)) (sym was.0)
      by (inr opening) = on_clean (is_clean past) refl (sym (knows.opening opening))

  first_on : is_first s (accepted_of (e ∷ past)) ≡ not (has_session (e ∷ past))
  first_on = first_by (accepts e.cause) refl

  knows_on : Knows s l (e ∷ past)
  knows_on = record { opening = opening_on; up = up_on; first = first_on }

knows : (s : Setup) (l : Sizes) (past : List Entry) → IsLegalPast s l past → Knows s l past
knows s l [] legal = record { opening = λ e. absurd (cc e); up = λ e. absurd (cc e); first = le-leb 0 (cond s.wipe 1 0) (omega arith) }
knows s l (e ∷ past) legal = by (row s l past e.at e.cause) refl legal.0 (knows s l past legal.1)
  where
    by : (found : Option Row) → row s l past e.at e.cause ≡ found → effects_of found ≡ Some e.effects → Knows s l past → Knows s l (e ∷ past)
    by None made has before = absurd (cc has)
    by (Some found) made has before =
        let same : found.effects ≡ e.effects = cc in
        knows_on s l e past before found (ap (λ (x : Option Row). phase_by x (phase_of s l past)) made) same
        (subst (GoesBy s (readings s l past) e.cause) made (goes_row s l (readings s l past) e.at e.cause))

pub first_has_no_session : FirstHasNoSession
first_has_no_session s l past legal = (knows s l past legal).first
