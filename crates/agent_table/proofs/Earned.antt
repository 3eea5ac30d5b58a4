-- Good outcomes are earned.
use Rattle.std.proofs.Common.{◌≡◌, ℕ, zero, suc, Bool, true, false, cond, List, [], ◌∷◌, ◌++◌, map, drop, filter, Option, Some, None, refl, sym, ap, ◌∙◌, subst}
use Rattle.std.specs.Prelude.{◌==◌, ◌||◌, not, nat_lt, nat_le, length, find}
use Rattle.std.specs.List.{list_any, flat_map, AllByRecursion}
use Rattle.std.proofs.lemmas.Bool.{eqb-true}
use mathlib.Core.Logic.{inl, inr}
use Rattle.mqtt_packet.specs.declared.qos.Qos.{Qos}
use Rattle.mqtt_packet.specs.declared.qos.Qos.TheVariants.{AtMostOnce, AtLeastOnce, ExactlyOnce}
use Rattle.mqtt_packet.specs.declared.packet.Packet.{Packet}
use Rattle.mqtt_packet.specs.declared.packet.Packet.TheVariants as p
use Rattle.mqtt_packet.specs.declared.will.Ask.{Ask}
use Rattle.mqtt_packet.specs.Spelling.{is_sound}
use Rattle.topic_filter.specs.Texts.{is_name}
use Rattle.agent_journal.specs.declared.request.Request.{Request}
use Rattle.agent_journal.specs.declared.request.Request.TheVariants as requests
use Rattle.agent_journal.specs.declared.message.Message.{Message}
use Rattle.agent_journal.specs.declared.outcome.Outcome.{Outcome}
use Rattle.agent_journal.specs.declared.outcome.Outcome.TheVariants as o
use Rattle.agent_journal.specs.declared.entry.Cause.{Cause}
use Rattle.agent_journal.specs.declared.entry.Cause.TheVariants as c
use Rattle.agent_journal.specs.declared.entry.Why.{Why}
use Rattle.agent_journal.specs.declared.entry.Why.TheVariants as w
use Rattle.agent_journal.specs.declared.effect.Effect.{Effect}
use Rattle.agent_journal.specs.declared.effect.Effect.TheVariants as f
use Rattle.agent_journal.specs.declared.setup.Setup.{Setup}
use Rattle.agent_journal.specs.declared.setup.Phase.{Phase}
use Rattle.agent_journal.specs.declared.setup.Phase.TheVariants.{Down, Opening, Up, Spilled, Off}
use Rattle.agent_journal.specs.Readings.{Pending}
use Rattle.agent_table.specs.Arrivals.{arrived_row, arrived_in, opening_row, up_row, connack_row, first_row, resumed_row, publish_row, message_row, puback_row, pubrec_row, pubcomp_row, suback_row, unsuback_row, awaited, counts_of, renewal_counts, is_subscribe, is_unsubscribe, at, publishes_at, all_done, all_granted}
use Rattle.agent_table.specs.Breaks.{opened_row, broke_row, fault_row, end_row, idle_row, bytes_row, keep_alive_row, in_full_row, gave_up_row, tick_row, finish_row, down}
use Rattle.agent_table.specs.Deliveries.{publishes, is_among, is_open_publish, is_at_least_once, is_exactly_once}
use Rattle.agent_table.specs.Effects.{done, cancel_all, close, closed_below, lose_session, resume, again_by, renew, subscribes, pass, passed_below, is_reached, used}
use Rattle.agent_table.specs.Identifiers.{fresh}
use Rattle.agent_table.specs.Histories.{readings, row, effects_of}
use Rattle.agent_table.specs.Laws.{IsOneOf, Acknowledges, AcknowledgesPublish, EarnsOutcome, Earns, OutcomesAreEarned}
use Rattle.agent_table.specs.Readings.{Readings}
use Rattle.agent_table.specs.Routes.{asks_in}
use Rattle.agent_table.specs.Rows.{Row, to, when, ends}
use Rattle.agent_table.specs.Sizes.{Sizes}
use Rattle.agent_table.specs.Table.{row_of, cause_row}
use Rattle.agent_table.specs.Takes as takes

-- what is so of each of the commands is so of each that is kept
one_kept : (keeps : Pending → Bool) (b : Bool) (x command : Pending) (commands : List Pending) → keeps x ≡ b → ((h : IsOneOf command (filter keeps commands)) → IsOneOf command commands × (keeps command ≡ true))
    → IsOneOf command (cond b (x ∷ filter keeps commands) (filter keeps commands)) → IsOneOf command (x ∷ commands) × (keeps command ≡ true)
one_kept keeps true x command commands is rest (inl e) = (inl e, ap keeps e ∙ is)
one_kept keeps true x command commands is rest (inr h) = let k = rest h in (inr k.0, k.1)
one_kept keeps false x command commands is rest h = let k = rest h in (inr k.0, k.1)

pub kept : (keeps : Pending → Bool) (command : Pending) (commands : List Pending) → IsOneOf command (filter keeps commands) → IsOneOf command commands × (keeps command ≡ true)
kept keeps command [] h = absurd h
kept keeps command (x ∷ commands) h = one_kept keeps (keeps x) x command commands refl (kept keeps command commands) h

module _ (r : Readings) (cause : Cause) where
  abbrev Good : List Effect → Type 0
  Good effects = AllByRecursion (Earns r cause) effects

  both : (xs ys : List Effect) → Good xs → Good ys → Good (xs ++ ys)
  both [] ys h k = k
  both (x ∷ xs) ys h k = (h.0, both xs ys h.1 k)

  -- each of these commands has this outcome
  all_of : (outcome : Outcome) (commands : List Pending) → ((command : Pending) → IsOneOf command commands → EarnsOutcome r cause command.task command.seq outcome) → Good (map (done outcome) commands)
  all_of outcome [] h = tt
  all_of outcome (x ∷ commands) h = (h x (inl refl), all_of outcome commands (λ command k. h command (inr k)))

  one_closed : (gone : Bool) (n : ℕ) → Good (cond gone [] (f.Closed n ∷ []))
  one_closed true n = tt
  one_closed false n = (tt, tt)

  good_closed : (n : ℕ) (left : ℕ → Bool) → Good (closed_below n left)
  good_closed zero left = tt
  good_closed (suc n) left = both (closed_below n left) (cond (left n) [] (f.Closed n ∷ [])) (good_closed n left) (one_closed (left n) n)

  one_passed : (reached : Bool) (n : ℕ) (message : Message) → Good (cond reached (f.Pass n message ∷ []) [])
  one_passed true n message = (tt, tt)
  one_passed false n message = tt

  good_passed : (n : ℕ) (message : Message) → Good (passed_below n r message)
  good_passed zero message = tt
  good_passed (suc n) message = both (passed_below n r message) (cond (is_reached r message.topic n) (f.Pass n message ∷ []) []) (good_passed n message) (one_passed (is_reached r message.topic n) n message)

  good_released : (ids : List ℕ) → Good (map (λ id. f.Send (p.PubRel id)) ids)
  good_released [] = tt
  good_released (id ∷ ids) = (tt, good_released ids)

  one_again : (id : ℕ) (request : Request) → Good (again_by id request)
  one_again id (requests.Publish qos topic payload) = (tt, tt)
  one_again id (requests.Subscribe asks) = tt
  one_again id (requests.Unsubscribe filters) = tt
  one_again id requests.Ping = tt
  one_again id requests.Disconnect = tt
  one_again id requests.Terminate = tt
  one_again id requests.Leave = tt

  good_again : (commands : List Pending) → Good (flat_map (λ command. again_by command.id command.request) commands)
  good_again [] = tt
  good_again (command ∷ commands) = both (again_by command.id command.request) (flat_map (λ other. again_by other.id other.request) commands) (one_again command.id command.request) (good_again commands)

  good_subscribed : (k last : ℕ) (in_use : List ℕ) (asks : List Ask) → Good (subscribes k last in_use asks)
  good_subscribed zero last in_use asks = tt
  good_subscribed (suc k) last in_use [] = tt
  good_subscribed (suc k) last in_use (ask ∷ asks) = (tt, good_subscribed k (fresh last in_use) (fresh last in_use ∷ in_use) (drop 8 (ask ∷ asks)))

  good_renewed : (asks : List Ask) → Good (renew r asks)
  good_renewed asks = good_subscribed (length asks) r.last_drawn (used r) asks

  abbrev GoodRow : Option Row → Type 0
  GoodRow None = Unit {0}
  GoodRow (Some found) = Good found.effects

  good_when : (b : Bool) (found : Option Row) → GoodRow found → GoodRow (when b found)
  good_when true found h = h
  good_when false found h = tt

  good_if : (b : Bool) (x y : Option Row) → GoodRow x → GoodRow y → GoodRow (cond b x y)
  good_if true x y h k = h
  good_if false x y h k = k

  good_unless : (b : Bool) (x y : Option Row) → GoodRow x → (b ≡ false → GoodRow y) → GoodRow (cond b x y)
  good_unless true x y h k = h
  good_unless false x y h k = k refl

  effects_if : (b : Bool) (x y : List Effect) → (b ≡ true → Good x) → Good y → Good (cond b x y)
  effects_if true x y h k = h refl
  effects_if false x y h k = k

  good_close : (s : Setup) → Good (close s r)
  good_close s = good_closed s.tasks r.left

  good_ends : (s : Setup) → GoodRow (ends s r)
  good_ends s = both (cancel_all r) (close s r) (all_of o.Cancelled r.pending (λ command h. tt)) (good_close s)

  good_first : (s : Setup) (present : Bool) → GoodRow (first_row s r present)
  good_first s false = tt
  good_first s true = good_close s

  good_resume : Good (resume r)
  good_resume =
      let rest = filter (λ command. not (is_among r.released command.id)) r.pending in
      both (map (λ id. f.Send (p.PubRel id)) r.released) (flat_map (λ command. again_by command.id command.request) rest) (good_released r.released) (good_again rest)

  good_resumed : (present : Bool) → GoodRow (resumed_row r present)
  good_resumed true = both (resume r) (renew r r.unsure) good_resume (good_renewed r.unsure)
  good_resumed false = both (lose_session r) (renew r r.renewable) (all_of o.SessionLost _ (λ command h. tt)) (good_renewed r.renewable)

  good_connack : (s : Setup) (present : Bool) (code : ℕ) → GoodRow (connack_row s r present code)
  unfolding connack_row
  good_connack s present code =
      good_if (not (code == 0)) (ends s r) _ (good_ends s)
      (good_if r.wiping (to Down (f.Send p.Disconnect ∷ [])) _ (tt, tt) (good_if r.first (first_row s r present) (resumed_row r present) (good_first s present) (good_resumed present)))

  good_opening : (s : Setup) (packet : Packet) → GoodRow (opening_row s r packet)
  good_opening s (p.Connect clean keep_alive client will user password) = good_ends s
  good_opening s (p.ConnAck present code) = good_connack s present code
  good_opening s (p.Publish dup qos retain topic id payload) = good_ends s
  good_opening s (p.PubAck id) = good_ends s
  good_opening s (p.PubRec id) = good_ends s
  good_opening s (p.PubRel id) = good_ends s
  good_opening s (p.PubComp id) = good_ends s
  good_opening s (p.Subscribe id asks) = good_ends s
  good_opening s (p.SubAck id codes) = good_ends s
  good_opening s (p.Unsubscribe id filters) = good_ends s
  good_opening s (p.UnsubAck id) = good_ends s
  good_opening s p.PingReq = good_ends s
  good_opening s p.PingResp = good_ends s
  good_opening s p.Disconnect = good_ends s

  good_message : (s : Setup) (l : Sizes) (qos : Qos) (topic : List ℕ) (id : ℕ) (payload : List ℕ) → GoodRow (message_row s l r qos topic id payload)
  good_message s l AtMostOnce topic id payload = good_passed s.tasks (record { topic = topic; qos = AtMostOnce; payload = payload })
  good_message s l AtLeastOnce topic id payload = both (pass s r AtLeastOnce topic payload) (f.Send (p.PubAck id) ∷ []) (good_passed s.tasks (record { topic = topic; qos = AtLeastOnce; payload = payload })) (tt, tt)
  good_message s l ExactlyOnce topic id payload =
      good_if (is_among r.held id) (to Up (f.Send (p.PubRec id) ∷ [])) _ (tt, tt)
      (good_if (nat_lt (length r.held) l.inbound) (to Up (pass s r ExactlyOnce topic payload ++ f.Send (p.PubRec id) ∷ [])) (to Spilled [])
      (both (pass s r ExactlyOnce topic payload) (f.Send (p.PubRec id) ∷ []) (good_passed s.tasks (record { topic = topic; qos = ExactlyOnce; payload = payload })) (tt, tt)) tt)

  good_down : GoodRow (down r)
  good_down = all_of o.LinkLost _ (λ command h. tt)

  good_fault : (s : Setup) (phase : Phase) → GoodRow (fault_row s r phase)
  unfolding fault_row
  good_fault s Down = good_when _ (to Down []) tt
  good_fault s Opening = good_down
  good_fault s Up = good_down
  good_fault s Spilled = good_down
  good_fault s Off = good_when _ (to Off []) tt

  good_end : (phase : Phase) → GoodRow (end_row r phase)
  unfolding end_row
  good_end Down = tt
  good_end Opening = good_down
  good_end Up = good_down
  good_end Spilled = tt
  good_end Off = tt

  good_idle : (phase : Phase) → GoodRow (idle_row r phase)
  unfolding idle_row
  good_idle Down = tt
  good_idle Opening = good_down
  good_idle Up = good_when _ (down r) good_down
  good_idle Spilled = tt
  good_idle Off = tt

  good_bytes : (s : Setup) (phase : Phase) → GoodRow (bytes_row s r phase)
  unfolding bytes_row
  good_bytes s Down = tt
  good_bytes s Opening = good_ends s
  good_bytes s Up = good_ends s
  good_bytes s Spilled = tt
  good_bytes s Off = tt

  good_keep_alive : (time : ℕ) (phase : Phase) → GoodRow (keep_alive_row r time phase)
  unfolding keep_alive_row
  good_keep_alive time Down = tt
  good_keep_alive time Opening = tt
  good_keep_alive time Up = good_when _ (down r) good_down
  good_keep_alive time Spilled = tt
  good_keep_alive time Off = tt

  good_in_full : (phase : Phase) → GoodRow (in_full_row r phase)
  unfolding in_full_row
  good_in_full Down = tt
  good_in_full Opening = tt
  good_in_full Up = tt
  good_in_full Spilled = good_down
  good_in_full Off = tt

  good_broke : (s : Setup) (time : ℕ) (why : Why) → GoodRow (broke_row s r time why)
  good_broke s time w.Fault = good_fault s r.phase
  good_broke s time w.End = good_end r.phase
  good_broke s time w.Idle = good_idle r.phase
  good_broke s time (w.Bad offset) = good_bytes s r.phase
  good_broke s time (w.TooLong size) = good_bytes s r.phase
  good_broke s time w.KeepAlive = good_keep_alive time r.phase
  good_broke s time w.InFull = good_in_full r.phase

  good_opened : (s : Setup) (phase : Phase) → GoodRow (opened_row s r phase)
  unfolding opened_row
  good_opened s Down = good_when _ (to Opening _) (tt, tt)
  good_opened s Opening = tt
  good_opened s Up = tt
  good_opened s Spilled = tt
  good_opened s Off = tt

  good_gave_up : (s : Setup) (phase : Phase) → GoodRow (gave_up_row s r phase)
  unfolding gave_up_row
  good_gave_up s Down = good_when _ (ends s r) (good_ends s)
  good_gave_up s Opening = tt
  good_gave_up s Up = tt
  good_gave_up s Spilled = tt
  good_gave_up s Off = tt

  good_tick : (s : Setup) (time : ℕ) (phase : Phase) → GoodRow (tick_row s r time phase)
  unfolding tick_row
  good_tick s time Down = tt
  good_tick s time Opening = tt
  good_tick s time Up = good_when _ (to Up _) (tt, tt)
  good_tick s time Spilled = tt
  good_tick s time Off = tt

  good_finish : (s : Setup) (phase : Phase) → GoodRow (finish_row s r phase)
  unfolding finish_row
  good_finish s Down = tt
  good_finish s Opening = tt
  good_finish s Up = good_when _ (to Off _) (tt, tt)
  good_finish s Spilled = tt
  good_finish s Off = tt

-- ---- Acknowledgements

at_least : (qos : Qos) → is_at_least_once qos ≡ true → qos ≡ AtLeastOnce
at_least AtMostOnce e = absurd (cc e)
at_least AtLeastOnce e = refl
at_least ExactlyOnce e = absurd (cc e)

exactly : (qos : Qos) → is_exactly_once qos ≡ true → qos ≡ ExactlyOnce
exactly AtMostOnce e = absurd (cc e)
exactly AtLeastOnce e = absurd (cc e)
exactly ExactlyOnce e = refl

by_puback : (r : Readings) (n id : ℕ) (request : Request) → id ≡ n → publishes is_at_least_once request ≡ true → Acknowledges r (c.Arrived (p.PubAck n)) id request
by_puback r n id (requests.Publish qos topic payload) same is = subst (λ (q : Qos). AcknowledgesPublish (is_among r.released id ≡ true) (c.Arrived (p.PubAck n)) id q) (sym (at_least qos is)) (ap (λ k. c.Arrived (p.PubAck k)) (sym same))
by_puback r n id (requests.Subscribe asks) same is = absurd (cc is)
by_puback r n id (requests.Unsubscribe filters) same is = absurd (cc is)
by_puback r n id requests.Ping same is = absurd (cc is)
by_puback r n id requests.Disconnect same is = absurd (cc is)
by_puback r n id requests.Terminate same is = absurd (cc is)
by_puback r n id requests.Leave same is = absurd (cc is)

by_pubcomp : (r : Readings) (n id : ℕ) (request : Request) → id ≡ n → is_among r.released n ≡ true → publishes is_exactly_once request ≡ true → Acknowledges r (c.Arrived (p.PubComp n)) id request
by_pubcomp r n id (requests.Publish qos topic payload) same released is =
    subst (λ (q : Qos). AcknowledgesPublish (is_among r.released id ≡ true) (c.Arrived (p.PubComp n)) id q) (sym (exactly qos is)) (ap (λ k. c.Arrived (p.PubComp k)) (sym same), ap (is_among r.released) same ∙ released)
by_pubcomp r n id (requests.Subscribe asks) same released is = absurd (cc is)
by_pubcomp r n id (requests.Unsubscribe filters) same released is = absurd (cc is)
by_pubcomp r n id requests.Ping same released is = absurd (cc is)
by_pubcomp r n id requests.Disconnect same released is = absurd (cc is)
by_pubcomp r n id requests.Terminate same released is = absurd (cc is)
by_pubcomp r n id requests.Leave same released is = absurd (cc is)

by_unsuback : (r : Readings) (n id : ℕ) (request : Request) → id ≡ n → is_unsubscribe request ≡ true → Acknowledges r (c.Arrived (p.UnsubAck n)) id request
by_unsuback r n id (requests.Publish qos topic payload) same is = absurd (cc is)
by_unsuback r n id (requests.Subscribe asks) same is = absurd (cc is)
by_unsuback r n id (requests.Unsubscribe filters) same is = ap (λ k. c.Arrived (p.UnsubAck k)) (sym same)
by_unsuback r n id requests.Ping same is = absurd (cc is)
by_unsuback r n id requests.Disconnect same is = absurd (cc is)
by_unsuback r n id requests.Terminate same is = absurd (cc is)
by_unsuback r n id requests.Leave same is = absurd (cc is)

-- one of the open commands of this identifier that pass a test
twice_kept : (also : Pending → Bool) (n : ℕ) (command : Pending) (commands : List Pending) → IsOneOf command (filter also (at n commands)) → IsOneOf command commands × (command.id ≡ n) × (also command ≡ true)
twice_kept also n command commands h =
    let outer = kept also command (at n commands) h in let inner = kept (λ other. other.id == n) command commands outer.0 in (inner.0, eqb-true command.id n inner.1, outer.1)

neither : (a b : Bool) → (a || b) ≡ false → (a ≡ false) × (b ≡ false)
neither true b e = absurd (cc e)
neither false b e = (refl, e)

same_number : (b : Bool) (n m : ℕ) → (n == m) ≡ b → not b ≡ false → m ≡ n
same_number true n m is e = sym (eqb-true n m is)
same_number false n m is e = absurd (cc e)

-- each subscribe that a SUBACK answers has as many filters as it has codes
as_many : (codes : List ℕ) (commands : List Pending) (rest : List ℕ) (command : Pending) → list_any (λ count. not (count == length codes)) (counts_of commands ++ rest) ≡ false → IsOneOf command commands
    → length codes ≡ length (asks_in command.request)
as_many codes [] rest command e one = absurd one
as_many codes (other ∷ commands) rest command e (inl same) =
    let first = neither (not (length (asks_in other.request) == length codes)) (list_any (λ count. not (count == length codes)) (counts_of commands ++ rest)) e in
    same_number (length (asks_in other.request) == length codes) (length (asks_in other.request)) (length codes) refl first.0 ∙ ap (λ (x : Pending). length (asks_in x.request)) (sym same)
as_many codes (other ∷ commands) rest command e (inr later) =
    as_many codes commands rest command (neither (not (length (asks_in other.request) == length codes)) (list_any (λ count. not (count == length codes)) (counts_of commands ++ rest)) e).1 later

good_up : (s : Setup) (l : Sizes) (r : Readings) (packet : Packet) → GoodRow r (c.Arrived packet) (up_row s l r packet)
unfolding publish_row puback_row pubrec_row pubcomp_row suback_row unsuback_row
good_up s l r (p.Connect clean keep_alive client will user password) = good_ends r (c.Arrived (p.Connect clean keep_alive client will user password)) s
good_up s l r (p.ConnAck present code) = good_ends r (c.Arrived (p.ConnAck present code)) s
good_up s l r (p.Publish dup qos retain topic id payload) =
    let cause = c.Arrived (p.Publish dup qos retain topic id payload) in good_if r cause (is_name topic) (message_row s l r qos topic id payload) (ends s r) (good_message r cause s l qos topic id payload) (good_ends r cause s)
good_up s l r (p.PubAck id) =
    all_of r (c.Arrived (p.PubAck id)) o.Done (publishes_at is_at_least_once id r.pending)
    (λ command h. let k = twice_kept (λ other. publishes is_at_least_once other.request) id command r.pending h in inr (command, k.0, refl, refl, by_puback r id command.id command.request k.1 k.2))
good_up s l r (p.PubRec id) = effects_if r (c.Arrived (p.PubRec id)) (is_open_publish is_exactly_once r.pending id) (f.Send (p.PubRel id) ∷ []) [] (λ e. (tt, tt)) tt
good_up s l r (p.PubRel id) = (tt, tt)
good_up s l r (p.PubComp id) =
    effects_if r (c.Arrived (p.PubComp id)) (is_among r.released id) (all_done (publishes_at is_exactly_once id r.pending)) []
    (λ released. all_of r (c.Arrived (p.PubComp id)) o.Done (publishes_at is_exactly_once id r.pending)
    (λ command h. let k = twice_kept (λ other. publishes is_exactly_once other.request) id command r.pending h in inr (command, k.0, refl, refl, by_pubcomp r id command.id command.request k.1 released k.2))) tt
good_up s l r (p.Subscribe id asks) = good_ends r (c.Arrived (p.Subscribe id asks)) s
good_up s l r (p.SubAck id codes) =
    let cause = c.Arrived (p.SubAck id codes) in
    let subscribes = filter (λ command. is_subscribe command.request) (at id r.pending) in
    let renewals = renewal_counts (find (λ renewal. renewal.id == id) r.renewals) in
    good_unless r cause (list_any (λ count. not (count == length codes)) (awaited r id)) (ends s r) (to Up (all_granted codes subscribes)) (good_ends r cause s)
    (λ fits. all_of r cause (o.Granted codes) subscribes
    (λ command h. let k = twice_kept (λ other. is_subscribe other.request) id command r.pending h in
    (command, k.0, refl, refl, ap (λ n. c.Arrived (p.SubAck n codes)) (sym k.1), k.2, as_many codes subscribes renewals command fits h)))
good_up s l r (p.Unsubscribe id filters) = good_ends r (c.Arrived (p.Unsubscribe id filters)) s
good_up s l r (p.UnsubAck id) =
    all_of r (c.Arrived (p.UnsubAck id)) o.Done (filter (λ command. is_unsubscribe command.request) (at id r.pending))
    (λ command h. let k = twice_kept (λ other. is_unsubscribe other.request) id command r.pending h in inr (command, k.0, refl, refl, by_unsuback r id command.id command.request k.1 k.2))
good_up s l r p.PingReq = good_ends r (c.Arrived p.PingReq) s
good_up s l r p.PingResp = tt
good_up s l r p.Disconnect = good_ends r (c.Arrived p.Disconnect) s

good_arrived : (s : Setup) (l : Sizes) (r : Readings) (packet : Packet) (phase : Phase) → GoodRow r (c.Arrived packet) (arrived_in s l r packet phase)
good_arrived s l r packet Down = tt
good_arrived s l r packet Opening = good_opening r (c.Arrived packet) s packet
good_arrived s l r packet Up = good_up s l r packet
good_arrived s l r packet Spilled = tt
good_arrived s l r packet Off = tt

-- ---- Takes

good_delivered : (l : Sizes) (r : Readings) (cause : Cause) (task seq : ℕ) (qos : Qos) (topic payload : List ℕ) → Good r cause (takes.delivered l r task seq qos topic payload)
good_delivered l r cause task seq qos topic payload = effects_if r cause (takes.is_full l r) (takes.at_once task seq o.NoRoom) _ (λ e. (tt, tt)) (tt, tt)

good_publish : (l : Sizes) (r : Readings) (task seq : ℕ) (qos : Qos) (topic payload : List ℕ) → GoodRow r (c.Take task seq (requests.Publish qos topic payload)) (takes.publish_row l r task seq qos topic payload)
unfolding takes.publish_row
good_publish l r task seq AtMostOnce topic payload = (tt, (inl (requests.Publish AtMostOnce topic payload, refl, tt), tt))
good_publish l r task seq AtLeastOnce topic payload = good_delivered l r (c.Take task seq (requests.Publish AtLeastOnce topic payload)) task seq AtLeastOnce topic payload
good_publish l r task seq ExactlyOnce topic payload = good_delivered l r (c.Take task seq (requests.Publish ExactlyOnce topic payload)) task seq ExactlyOnce topic payload

good_unsubscribed : (l : Sizes) (r : Readings) (task seq : ℕ) (all filters : List (List ℕ)) → Good r (c.Take task seq (requests.Unsubscribe all)) (takes.unsubscribed l r task seq filters)
good_unsubscribed l r task seq all [] = (inl (requests.Unsubscribe all, refl, tt), tt)
good_unsubscribed l r task seq all (topics ∷ filters) = effects_if r (c.Take task seq (requests.Unsubscribe all)) (takes.is_full l r) (takes.at_once task seq o.NoRoom) _ (λ e. (tt, tt)) (tt, tt)

good_disconnect : (s : Setup) (r : Readings) (cause : Cause) (task seq : ℕ) → EarnsOutcome r cause task seq o.Done → GoodRow r cause (takes.disconnect_row s r task seq)
unfolding takes.disconnect_row
good_disconnect s r cause task seq own =
    both r cause (cancel_all r) (f.Send p.Disconnect ∷ f.Done task seq o.Done ∷ close s r) (all_of r cause o.Cancelled r.pending (λ command h. tt)) (tt, (own, good_close r cause s))

good_request : (s : Setup) (l : Sizes) (r : Readings) (task seq : ℕ) (request : Request) → GoodRow r (c.Take task seq request) (takes.up_row s l r task seq request)
unfolding takes.subscribe_row takes.unsubscribe_row
good_request s l r task seq (requests.Publish qos topic payload) = good_publish l r task seq qos topic payload
good_request s l r task seq (requests.Subscribe asks) =
    let cause = c.Take task seq (requests.Subscribe asks) in
    effects_if r cause (takes.is_full l r) (takes.at_once task seq o.NoRoom) _ (λ e. (tt, tt)) (effects_if r cause (nat_lt l.routes (length (takes.routes_with r task asks))) (takes.at_once task seq o.NoRoute) _ (λ e. (tt, tt)) (tt, tt))
good_request s l r task seq (requests.Unsubscribe filters) = good_unsubscribed l r task seq filters (takes.own_filters r task filters)
good_request s l r task seq requests.Ping = (tt, (inl (requests.Ping, refl, tt), tt))
good_request s l r task seq requests.Disconnect = good_disconnect s r (c.Take task seq requests.Disconnect) task seq (inl (requests.Disconnect, refl, tt))
good_request s l r task seq requests.Terminate = good_disconnect s r (c.Take task seq requests.Terminate) task seq (inl (requests.Terminate, refl, tt))
good_request s l r task seq requests.Leave = tt

refusal_good : (terminated : Bool) (r : Readings) (cause : Cause) (task seq : ℕ) → EarnsOutcome r cause task seq (cond terminated o.Cancelled o.NotConnected)
refusal_good true r cause task seq = tt
refusal_good false r cause task seq = tt

good_off : (r : Readings) (task seq : ℕ) (request : Request) → GoodRow r (c.Take task seq request) (takes.off_row r task seq request)
good_off r task seq (requests.Publish qos topic payload) = (refusal_good r.terminated r (c.Take task seq (requests.Publish qos topic payload)) task seq, tt)
good_off r task seq (requests.Subscribe asks) = (refusal_good r.terminated r (c.Take task seq (requests.Subscribe asks)) task seq, tt)
good_off r task seq (requests.Unsubscribe filters) = (refusal_good r.terminated r (c.Take task seq (requests.Unsubscribe filters)) task seq, tt)
good_off r task seq requests.Ping = (refusal_good r.terminated r (c.Take task seq requests.Ping) task seq, tt)
good_off r task seq requests.Disconnect = (refusal_good r.terminated r (c.Take task seq requests.Disconnect) task seq, tt)
good_off r task seq requests.Terminate = (inl (requests.Terminate, refl, tt), tt)
good_off r task seq requests.Leave = tt

good_take : (s : Setup) (l : Sizes) (r : Readings) (task seq : ℕ) (request : Request) (phase : Phase) → GoodRow r (c.Take task seq request) (takes.take_in s l r task seq request phase)
good_take s l r task seq request Down = tt
good_take s l r task seq request Opening = tt
good_take s l r task seq request Up = good_request s l r task seq request
good_take s l r task seq request Spilled = tt
good_take s l r task seq request Off = good_off r task seq request

good_cause : (s : Setup) (l : Sizes) (r : Readings) (time : ℕ) (cause : Cause) → GoodRow r cause (cause_row s l r time cause)
unfolding takes.take_row arrived_row
good_cause s l r time c.Opened = good_opened r c.Opened s r.phase
good_cause s l r time (c.Take task seq request) =
    good_when r (c.Take task seq request) (takes.may_take s r task seq request) (takes.take_in s l r task seq request r.phase) (good_take s l r task seq request r.phase)
good_cause s l r time (c.Arrived packet) = good_when r (c.Arrived packet) (is_sound packet) (arrived_in s l r packet r.phase) (good_arrived s l r packet r.phase)
good_cause s l r time (c.Broke why) = good_broke r (c.Broke why) s time why
good_cause s l r time c.Tick = good_tick r c.Tick s time r.phase
good_cause s l r time c.GaveUp = good_gave_up r c.GaveUp s r.phase
good_cause s l r time c.Finish = good_finish r c.Finish s r.phase

good_row : (s : Setup) (l : Sizes) (r : Readings) (time : ℕ) (cause : Cause) → GoodRow r cause (row_of s l r time cause)
unfolding row_of
good_row s l r time cause = good_when r cause (nat_le r.last_time time) (cause_row s l r time cause) (good_cause s l r time cause)

good_effects : (r : Readings) (cause : Cause) (found : Option Row) (effects : List Effect) → effects_of found ≡ Some effects → GoodRow r cause found → AllByRecursion (Earns r cause) effects
good_effects r cause None effects e h = absurd (cc e)
good_effects r cause (Some found) effects e h = let is : found.effects ≡ effects = cc in subst (AllByRecursion (Earns r cause)) is h

pub outcomes_are_earned : OutcomesAreEarned
outcomes_are_earned s l past time cause effects has = good_effects (readings s l past) cause (row s l past time cause) effects has (good_row s l (readings s l past) time cause)
