-- Few identifiers are in use: those of open commands, and of renewals, which are no more than routes.
use Rattle.std.proofs.Common.{◌≡◌, ℕ, zero, suc, ◌+◌, ◌≤◌, Bool, true, false, cond, List, [], ◌∷◌, ◌++◌, map, take, drop, filter, length, Option, Some, None, refl, sym, ap, ◌∙◌, subst, arith}
use Rattle.std.specs.Prelude.{◌&&◌, ◌==◌, not, nat_lt, nat_le}
use Rattle.std.specs.List.{list_any, flat_map}
use Rattle.std.specs.Str.{bytes_eq}
use Rattle.std.proofs.lemmas.List.{length-append, length-map}
use mathlib.Core.Logic.{inl, inr}
use Rattle.mqtt_packet.specs.declared.qos.Qos.{Qos}
use Rattle.mqtt_packet.specs.declared.qos.Qos.TheVariants.{AtMostOnce, AtLeastOnce, ExactlyOnce}
use Rattle.mqtt_packet.specs.declared.packet.Packet.{Packet}
use Rattle.mqtt_packet.specs.declared.packet.Packet.TheVariants as p
use Rattle.mqtt_packet.specs.declared.will.Ask.{Ask}
use Rattle.mqtt_packet.specs.Spelling.{is_sound}
use Rattle.topic_filter.specs.Texts.{is_name}
use Rattle.agent_journal.specs.declared.request.Request.{Request}
use Rattle.agent_journal.specs.declared.request.Request.TheVariants as requests
use Rattle.agent_journal.specs.declared.outcome.Outcome.{Outcome}
use Rattle.agent_journal.specs.declared.outcome.Outcome.TheVariants as o
use Rattle.agent_journal.specs.declared.entry.Cause.{Cause}
use Rattle.agent_journal.specs.declared.entry.Cause.TheVariants as c
use Rattle.agent_journal.specs.declared.entry.Entry.{Entry}
use Rattle.agent_journal.specs.declared.entry.Why.{Why}
use Rattle.agent_journal.specs.declared.effect.Effect.{Effect}
use Rattle.agent_journal.specs.declared.effect.Effect.TheVariants as f
use Rattle.agent_journal.specs.declared.setup.Setup.{Setup}
use Rattle.agent_journal.specs.declared.setup.Phase.{Phase}
use Rattle.agent_journal.specs.declared.setup.Phase.TheVariants.{Down, Opening, Up, Spilled, Off}
use Rattle.agent_journal.specs.Readings.{Pending}
use Rattle.agent_journal.specs.Wires.{sends}
use Rattle.agent_table.specs.Arrivals.{arrived_row, arrived_in, opening_row, up_row, connack_row, first_row, resumed_row, publish_row, message_row, puback_row, pubrec_row, pubcomp_row, suback_row, unsuback_row, awaited}
use Rattle.agent_table.specs.Breaks.{opened_row, gave_up_row, tick_row, finish_row}
use Rattle.agent_table.specs.Deliveries.{is_among}
use Rattle.agent_table.specs.Effects.{done, is_publish, cancel_all, close, closed_below, resume, again_by, renew, subscribes, used, lose_session}
use Rattle.agent_table.specs.Filters.{is_one_of, comes_before, sorted_with, sorted}
use Rattle.agent_table.specs.Histories.{IsLegalPast, readings, row, effects_of, phase_of, phase_by}
use Rattle.agent_table.specs.Identifiers.{fresh}
use Rattle.agent_table.specs.Laws.{IdentifiersAreFew}
use Rattle.agent_table.specs.Readings.{Readings, unless_off}
use Rattle.agent_table.specs.Routes.{Route, Renewal, renewal_in, renewals_behind, renewals_of, routes_of, topics_of, asks_for, renewable_of, unsure_of, lost_of, sure_of, while_opening, qos_of}
use Rattle.agent_table.specs.Rows.{Row, to, when, ends}
use Rattle.agent_table.specs.Sizes.{Sizes}
use Rattle.agent_table.specs.Table.{row_of}
use Rattle.agent_table.proofs.Ended.{Lands, lands}
use Rattle.agent_table.proofs.SoundRows.{few_kept}
use Rattle.agent_table.proofs.Rooms.{Few, few}

-- ---- What is renewed

sorted_length : (filters : List (List ℕ)) → length (sorted filters) ≤ length filters
sorted_length [] = omega arith
sorted_length (topics ∷ filters) = let rest = sorted_length filters in let one = with_length (sorted filters) topics in omega (arith, rest, one)
  where
    chosen : (same before : Bool) (topics other : List ℕ) (filters more : List (List ℕ)) → length more ≤ suc (length filters) → length (cond same (other ∷ filters) (cond before (topics ∷ other ∷ filters) (other ∷ more))) ≤ suc (suc (length filters))
    chosen true before topics other filters more h = omega arith
    chosen false true topics other filters more h = omega arith
    chosen false false topics other filters more h = omega (arith, h)

    with_length : (filters : List (List ℕ)) (topics : List ℕ) → length (sorted_with filters topics) ≤ suc (length filters)
    with_length [] topics = omega arith
    with_length (other ∷ filters) topics = chosen (bytes_eq other topics) (comes_before topics other) topics other filters (sorted_with filters topics) (with_length filters topics)

asks_length : (past : List Entry) (filters : List (List ℕ)) → length (asks_for past filters) ≤ length filters
asks_length past filters = let size = length-map {B = Ask} (sorted filters) (λ (topics : List ℕ). record { filter = topics; qos = qos_of past topics }) in let less = sorted_length filters in omega (arith, size, less)

while_few : (phase : Phase) (asks : List Ask) (n : ℕ) → length asks ≤ n → length (while_opening phase asks) ≤ n
while_few Down asks n h = omega arith
while_few Opening asks n h = h
while_few Up asks n h = omega arith
while_few Spilled asks n h = omega arith
while_few Off asks n h = omega arith

topics_length : (routes : List Route) → length (topics_of routes) ≡ length routes
topics_length routes = length-map routes (λ (r : Route). r.topics)

renewable_few : (past : List Entry) → length (renewable_of past) ≤ length (routes_of past)
renewable_few past = let size = topics_length (routes_of past) in let less = asks_length past (topics_of (routes_of past)) in omega (arith, size, less)

unsure_few : (s : Setup) (past : List Entry) → length (unsure_of s past) ≤ length (routes_of past)
unsure_few s past =
    let is_unsure : List ℕ → Bool = λ topics. lost_of s past && not (is_one_of (sure_of s past) topics) in
    let size = topics_length (routes_of past) in
    let fewer = few_kept is_unsure (topics_of (routes_of past)) in
    let less = asks_length past (filter is_unsure (topics_of (routes_of past))) in
    omega (arith, size, fewer, less)

-- ---- Renewals in effects

abbrev renews : List Effect → ℕ
renews effects = length (flat_map renewal_in (sends effects))

renews_both : (xs ys : List Effect) → renews (xs ++ ys) ≡ renews xs + renews ys
renews_both [] ys = omega arith
renews_both (f.Send packet ∷ xs) ys =
    let whole = length-append (renewal_in packet) (flat_map renewal_in (sends (xs ++ ys))) in let part = length-append (renewal_in packet) (flat_map renewal_in (sends xs)) in let rest = renews_both xs ys in omega (arith, whole, part, rest)
renews_both (f.Done task seq outcome ∷ xs) ys = renews_both xs ys
renews_both (f.Pass task message ∷ xs) ys = renews_both xs ys
renews_both (f.Closed task ∷ xs) ys = renews_both xs ys

none_done : (outcome : Outcome) (commands : List Pending) → renews (map (done outcome) commands) ≡ 0
none_done outcome [] = refl
none_done outcome (command ∷ commands) = none_done outcome commands

one_closed : (gone : Bool) (n : ℕ) → renews (cond gone [] (f.Closed n ∷ [])) ≡ 0
one_closed true n = refl
one_closed false n = refl

closed_none : (n : ℕ) (left : ℕ → Bool) → renews (closed_below n left) ≡ 0
closed_none zero left = refl
closed_none (suc n) left = let sum = renews_both (closed_below n left) (cond (left n) [] (f.Closed n ∷ [])) in let rest = closed_none n left in let one = one_closed (left n) n in omega (arith, sum, rest, one)

released_none : (ids : List ℕ) → renews (map (λ id. f.Send (p.PubRel id)) ids) ≡ 0
released_none [] = refl
released_none (id ∷ ids) = released_none ids

again_none : (id : ℕ) (request : Request) → renews (again_by id request) ≡ 0
again_none id (requests.Publish qos topic payload) = refl
again_none id (requests.Subscribe asks) = refl
again_none id (requests.Unsubscribe filters) = refl
again_none id requests.Ping = refl
again_none id requests.Disconnect = refl
again_none id requests.Terminate = refl
again_none id requests.Leave = refl

all_again_none : (commands : List Pending) → renews (flat_map (λ command. again_by command.id command.request) commands) ≡ 0
all_again_none [] = refl
all_again_none (command ∷ commands) =
    let sum = renews_both (again_by command.id command.request) (flat_map (λ other. again_by other.id other.request) commands) in let rest = all_again_none commands in let one = again_none command.id command.request in omega (arith, sum, rest, one)

subscribed_few : (k last : ℕ) (in_use : List ℕ) (asks : List Ask) → renews (subscribes k last in_use asks) ≤ k
subscribed_few zero last in_use asks = omega arith
subscribed_few (suc k) last in_use [] = omega arith
subscribed_few (suc k) last in_use (ask ∷ asks) =
    let rest = subscribed_few k (fresh last in_use) (fresh last in_use ∷ in_use) (drop 8 (ask ∷ asks)) in
    let sum = length-append (renewal_in (p.Subscribe (fresh last in_use) (take 8 (ask ∷ asks)))) (flat_map renewal_in (sends (subscribes k (fresh last in_use) (fresh last in_use ∷ in_use) (drop 8 (ask ∷ asks))))) in
    omega (arith, rest, sum)

-- ---- Renewals behind a row

-- the phases in which none is open
abbrev is_low : Phase → Bool
is_low Down = true
is_low Opening = true
is_low Up = false
is_low Spilled = false
is_low Off = false

-- what is open behind a cause with these effects, in this phase
record Renews (l : Sizes) (rs : List Renewal) (cause : Cause) (effects : List Effect) (phase : Phase) : Type 0 where
  low : is_low phase ≡ true → renewals_behind cause effects rs ≡ []
  few : length (renewals_behind cause effects rs) ≤ l.routes

abbrev RenewsRow : Sizes → List Renewal → Cause → Option Row → Type 0
RenewsRow l rs cause None = Unit {0}
RenewsRow l rs cause (Some found) = Renews l rs cause found.effects found.phase

module _ (s : Setup) (l : Sizes) (r : Readings) (rs : List Renewal) (most : length rs ≤ l.routes) (unsure : length r.unsure ≤ l.routes) (renewable : length r.renewable ≤ l.routes) where
  renews_when : (cause : Cause) (b : Bool) (found : Option Row) → RenewsRow l rs cause found → RenewsRow l rs cause (when b found)
  renews_when cause true found h = h
  renews_when cause false found h = tt

  renews_if : (cause : Cause) (b : Bool) (x y : Option Row) → RenewsRow l rs cause x → RenewsRow l rs cause y → RenewsRow l rs cause (cond b x y)
  renews_if cause true x y h k = h
  renews_if cause false x y h k = k

  -- to a phase in which some may be open
  on : (cause : Cause) (effects : List Effect) (phase : Phase) → is_low phase ≡ false → length (renewals_behind cause effects rs) ≤ length rs → Renews l rs cause effects phase
  on cause effects phase high few = record { low = λ low. absurd (cc (sym high ∙ low)); few = omega (arith, few, most) }

  -- ---- Arrivals in Opening, where none is open

  module _ (none : rs ≡ []) where
    new_few : (present : Bool) (code : ℕ) (effects : List Effect) (phase : Phase) → is_low phase ≡ false → renews effects ≤ l.routes → Renews l rs (c.Arrived (p.ConnAck present code)) effects phase
    new_few present code effects phase high h =
        let sum = length-append rs (flat_map renewal_in (sends effects)) in let zero_is = ap length none in
        record { low = λ low. absurd (cc (sym high ∙ low)); few = omega (arith, sum, zero_is, h) }

    ends_none : renews (cancel_all r ++ close s r) ≡ 0
    ends_none = let sum = renews_both (cancel_all r) (close s r) in let a = none_done o.Cancelled r.pending in let b = closed_none s.tasks r.left in omega (arith, sum, a, b)

    first_renews : (present : Bool) (code : ℕ) (is_present : Bool) → RenewsRow l rs (c.Arrived (p.ConnAck present code)) (first_row s r is_present)
    first_renews present code false = new_few present code [] Up refl (omega arith)
    first_renews present code true = new_few present code (close s r) Off refl (let b = closed_none s.tasks r.left in omega (arith, b))

    resumed_renews : (present : Bool) (code : ℕ) (is_present : Bool) → RenewsRow l rs (c.Arrived (p.ConnAck present code)) (resumed_row r is_present)
    resumed_renews present code true =
        let rest = filter (λ command. not (is_among r.released command.id)) r.pending in
        let sum = renews_both (resume r) (renew r r.unsure) in
        let two = renews_both (map (λ id. f.Send (p.PubRel id)) r.released) (flat_map (λ command. again_by command.id command.request) rest) in
        let a = released_none r.released in let b = all_again_none rest in let d = subscribed_few (length r.unsure) r.last_drawn (used r) r.unsure in
        new_few present code (resume r ++ renew r r.unsure) Up refl (omega (arith, sum, two, a, b, d, unsure))
    resumed_renews present code false =
        let sum = renews_both (lose_session r) (renew r r.renewable) in
        let a = none_done o.SessionLost (filter (λ command. is_publish command.request) r.pending) in let d = subscribed_few (length r.renewable) r.last_drawn (used r) r.renewable in
        new_few present code (lose_session r ++ renew r r.renewable) Up refl (omega (arith, sum, a, d, renewable))

    connack_renews : (present : Bool) (code : ℕ) → RenewsRow l rs (c.Arrived (p.ConnAck present code)) (connack_row s r present code)
    unfolding connack_row
    connack_renews present code =
        let cause = c.Arrived (p.ConnAck present code) in
        renews_if cause (not (code == 0)) (ends s r) _ (new_few present code (cancel_all r ++ close s r) Off refl (omega (arith, ends_none)))
        (renews_if cause r.wiping (to Down (f.Send p.Disconnect ∷ [])) _ (record { low = λ low. ap (λ (renewals : List Renewal). renewals ++ []) none; few = (let zero_is = ap (λ (renewals : List Renewal). length (renewals ++ [])) none in omega (arith, zero_is)) })
        (renews_if cause r.first (first_row s r present) (resumed_row r present) (first_renews present code present) (resumed_renews present code present)))

    opening_renews : (packet : Packet) → RenewsRow l rs (c.Arrived packet) (opening_row s r packet)
    opening_renews (p.ConnAck present code) = connack_renews present code
    opening_renews (p.SubAck id codes) = on (c.Arrived (p.SubAck id codes)) (cancel_all r ++ close s r) Off refl (few_kept (λ renewal. not (renewal.id == id)) rs)
    opening_renews packet = on (c.Arrived packet) (cancel_all r ++ close s r) Off refl (omega arith)

  -- ---- Arrivals in Up

  ended : (packet : Packet) → length (renewals_behind (c.Arrived packet) (cancel_all r ++ close s r) rs) ≤ length rs → RenewsRow l rs (c.Arrived packet) (ends s r)
  ended packet h = on (c.Arrived packet) (cancel_all r ++ close s r) Off refl h

  message_renews : (dup : Bool) (qos : Qos) (retain : Bool) (topic : List ℕ) (id : ℕ) (payload : List ℕ) (level : Qos) → RenewsRow l rs (c.Arrived (p.Publish dup qos retain topic id payload)) (message_row s l r level topic id payload)
  message_renews dup qos retain topic id payload AtMostOnce = on (c.Arrived (p.Publish dup qos retain topic id payload)) _ Up refl (omega arith)
  message_renews dup qos retain topic id payload AtLeastOnce = on (c.Arrived (p.Publish dup qos retain topic id payload)) _ Up refl (omega arith)
  message_renews dup qos retain topic id payload ExactlyOnce =
      let cause = c.Arrived (p.Publish dup qos retain topic id payload) in
      renews_if cause (is_among r.held id) (to Up (f.Send (p.PubRec id) ∷ [])) _ (on cause (f.Send (p.PubRec id) ∷ []) Up refl (omega arith))
      (renews_if cause (nat_lt (length r.held) l.inbound) _ (to Spilled []) (on cause _ Up refl (omega arith)) (on cause [] Spilled refl (omega arith)))

  up_renews : (packet : Packet) → RenewsRow l rs (c.Arrived packet) (up_row s l r packet)
  unfolding publish_row puback_row pubrec_row pubcomp_row suback_row unsuback_row
  up_renews (p.Connect clean keep_alive client will user password) = ended (p.Connect clean keep_alive client will user password) (omega arith)
  up_renews (p.ConnAck present code) =
      let sum = length-append rs (flat_map renewal_in (sends (cancel_all r ++ close s r))) in
      let two = renews_both (cancel_all r) (close s r) in let a = none_done o.Cancelled r.pending in let b = closed_none s.tasks r.left in
      ended (p.ConnAck present code) (omega (arith, sum, two, a, b))
  up_renews (p.Publish dup qos retain topic id payload) =
      renews_if (c.Arrived (p.Publish dup qos retain topic id payload)) (is_name topic) (message_row s l r qos topic id payload) (ends s r) (message_renews dup qos retain topic id payload qos) (ended (p.Publish dup qos retain topic id payload) (omega arith))
  up_renews (p.PubAck id) = on (c.Arrived (p.PubAck id)) _ Up refl (omega arith)
  up_renews (p.PubRec id) = on (c.Arrived (p.PubRec id)) _ Up refl (omega arith)
  up_renews (p.PubRel id) = on (c.Arrived (p.PubRel id)) _ Up refl (omega arith)
  up_renews (p.PubComp id) = on (c.Arrived (p.PubComp id)) _ Up refl (omega arith)
  up_renews (p.Subscribe id asks) = ended (p.Subscribe id asks) (omega arith)
  up_renews (p.SubAck id codes) =
      let less = few_kept (λ renewal. not (renewal.id == id)) rs in
      renews_if (c.Arrived (p.SubAck id codes)) (list_any (λ count. not (count == length codes)) (awaited r id)) (ends s r) _ (ended (p.SubAck id codes) less) (on (c.Arrived (p.SubAck id codes)) _ Up refl less)
  up_renews (p.Unsubscribe id filters) = ended (p.Unsubscribe id filters) (omega arith)
  up_renews (p.UnsubAck id) = on (c.Arrived (p.UnsubAck id)) _ Up refl (omega arith)
  up_renews p.PingReq = ended p.PingReq (omega arith)
  up_renews p.PingResp = on (c.Arrived p.PingResp) [] Up refl (omega arith)
  up_renews p.Disconnect = ended p.Disconnect (omega arith)

  -- ---- All rows

  module _ (none : is_low r.phase ≡ true → rs ≡ []) where
    arrived_renews : (packet : Packet) (phase : Phase) → r.phase ≡ phase → RenewsRow l rs (c.Arrived packet) (arrived_in s l r packet phase)
    arrived_renews packet Down is = tt
    arrived_renews packet Opening is = opening_renews (none (ap is_low is)) packet
    arrived_renews packet Up is = up_renews packet
    arrived_renews packet Spilled is = tt
    arrived_renews packet Off is = tt

    broke_renews : (why : Why) (found : Option Row) → RenewsRow l rs (c.Broke why) found
    broke_renews why None = tt
    broke_renews why (Some found) = record { low = λ low. refl; few = omega arith }

    take_renews : (task seq : ℕ) (request : Request) (found : Option Row) → Lands found → RenewsRow l rs (c.Take task seq request) found
    take_renews task seq request None h = tt
    take_renews task seq request (Some found) (inl up) = on (c.Take task seq request) found.effects found.phase (ap is_low up) (omega arith)
    take_renews task seq request (Some found) (inr off) = on (c.Take task seq request) found.effects found.phase (ap is_low off) (omega arith)

    opened_renews : (phase : Phase) → r.phase ≡ phase → RenewsRow l rs c.Opened (opened_row s r phase)
    unfolding opened_row
    opened_renews Down is = renews_when c.Opened _ (to Opening _) (record { low = λ low. none (ap is_low is); few = most })
    opened_renews Opening is = tt
    opened_renews Up is = tt
    opened_renews Spilled is = tt
    opened_renews Off is = tt

    tick_renews : (time : ℕ) (phase : Phase) → RenewsRow l rs c.Tick (tick_row s r time phase)
    unfolding tick_row
    tick_renews time Down = tt
    tick_renews time Opening = tt
    tick_renews time Up = renews_when c.Tick _ (to Up _) (on c.Tick _ Up refl (omega arith))
    tick_renews time Spilled = tt
    tick_renews time Off = tt

    gave_up_renews : (phase : Phase) → RenewsRow l rs c.GaveUp (gave_up_row s r phase)
    unfolding gave_up_row
    gave_up_renews Down = renews_when c.GaveUp _ (ends s r) (on c.GaveUp (cancel_all r ++ close s r) Off refl (omega arith))
    gave_up_renews Opening = tt
    gave_up_renews Up = tt
    gave_up_renews Spilled = tt
    gave_up_renews Off = tt

    finish_renews : (phase : Phase) → RenewsRow l rs c.Finish (finish_row s r phase)
    unfolding finish_row
    finish_renews Down = tt
    finish_renews Opening = tt
    finish_renews Up = renews_when c.Finish _ (to Off _) (on c.Finish _ Off refl (omega arith))
    finish_renews Spilled = tt
    finish_renews Off = tt

    cause_renews : (time : ℕ) (cause : Cause) → RenewsRow l rs cause (row_of s l r time cause)
    unfolding row_of arrived_row
    cause_renews time c.Opened = renews_when c.Opened (nat_le r.last_time time) (opened_row s r r.phase) (opened_renews r.phase refl)
    cause_renews time (c.Take task seq request) = take_renews task seq request _ (lands s l r time task seq request)
    cause_renews time (c.Arrived packet) = renews_when (c.Arrived packet) (nat_le r.last_time time) (arrived_row s l r packet) (renews_when (c.Arrived packet) (is_sound packet) (arrived_in s l r packet r.phase) (arrived_renews packet r.phase refl))
    cause_renews time (c.Broke why) = broke_renews why _
    cause_renews time c.Tick = renews_when c.Tick (nat_le r.last_time time) (tick_row s r time r.phase) (tick_renews time r.phase)
    cause_renews time c.GaveUp = renews_when c.GaveUp (nat_le r.last_time time) (gave_up_row s r r.phase) (gave_up_renews r.phase)
    cause_renews time c.Finish = renews_when c.Finish (nat_le r.last_time time) (finish_row s r r.phase) (finish_renews r.phase)

-- ---- Pasts

record RenewsFew (s : Setup) (l : Sizes) (past : List Entry) : Type 0 where
  low : is_low (phase_of s l past) ≡ true → renewals_of past ≡ []
  few : length (renewals_of past) ≤ l.routes

renews_on : (s : Setup) (l : Sizes) (past : List Entry) (e : Entry) → Few s l past → RenewsFew s l past → effects_of (row s l past e.at e.cause) ≡ Some e.effects → RenewsFew s l (e ∷ past)
renews_on s l past e before its legal =
    by (row s l past e.at e.cause) refl legal
    (cause_renews s l (readings s l past) (renewals_of past) its.few
    (while_few (phase_of s l past) (unsure_of s past) l.routes (let a = unsure_few s past in let b = before.routes in omega (arith, a, b)))
    (while_few (phase_of s l past) (renewable_of past) l.routes (let a = renewable_few past in let b = before.routes in omega (arith, a, b)))
    its.low e.at e.cause)
  where
    by : (found : Option Row) → row s l past e.at e.cause ≡ found → effects_of found ≡ Some e.effects → RenewsRow l (renewals_of past) e.cause (row s l past e.at e.cause) → RenewsFew s l (e ∷ past)
    by None made has h = absurd (cc has)
    by (Some found) made has h =
        let same : found.effects ≡ e.effects = cc in
        let next : phase_of s l (e ∷ past) ≡ found.phase = ap (λ (x : Option Row). phase_by x (phase_of s l past)) made in
        let one : Renews l (renewals_of past) e.cause found.effects found.phase = subst (RenewsRow l (renewals_of past) e.cause) made h in
        let two : Renews l (renewals_of past) e.cause e.effects (phase_of s l (e ∷ past)) = subst (λ (phase : Phase). Renews l (renewals_of past) e.cause e.effects phase) (sym next) (subst (λ (effects : List Effect). Renews l (renewals_of past) e.cause effects found.phase) same one) in
        record { low = two.low; few = two.few }

renews_few : (s : Setup) (l : Sizes) (past : List Entry) → IsLegalPast s l past → RenewsFew s l past
renews_few s l [] legal = record { low = λ low. refl; few = omega arith }
renews_few s l (e ∷ past) legal = renews_on s l past e (few s l past legal.1) (renews_few s l past legal.1) legal.0

unless_few : (phase : Phase) (renewals : List Renewal) (n : ℕ) → length renewals ≤ n → length (unless_off phase renewals) ≤ n
unless_few Down renewals n h = h
unless_few Opening renewals n h = h
unless_few Up renewals n h = h
unless_few Spilled renewals n h = h
unless_few Off renewals n h = omega arith

pub identifiers_are_few : IdentifiersAreFew
identifiers_are_few s l past legal =
    let r = readings s l past in
    let sum = length-append (map (λ command. command.id) r.pending) (map (λ renewal. renewal.id) r.renewals) in
    let one = length-map r.pending (λ (command : Pending). command.id) in
    let two = length-map r.renewals (λ (renewal : Renewal). renewal.id) in
    let a = (few s l past legal).pending in
    let b = unless_few (phase_of s l past) (renewals_of past) l.routes (renews_few s l past legal).few in
    omega (arith, sum, one, two, a, b)
