-- In a legal journal all packets are sound: what a past reads as is well, and so is what its next row sends.
use Rattle.std.proofs.Common.{◌≡◌, ℕ, zero, suc, ◌<◌, ◌≤◌, Bool, true, false, cond, List, [], ◌∷◌, ◌++◌, map, filter, Option, Some, None, is_some, refl, sym, ap, ◌∙◌, subst, arith}
use Rattle.std.specs.Prelude.{◌&&◌, ◌||◌, ◌==◌, not, nat_lt, nat_le, length}
use Rattle.std.specs.List.{list_all, flat_map, AllByRecursion}
use Rattle.std.specs.Str.{bytes_eq}
use Rattle.std.proofs.lemmas.Bool.{eqb-true}
use Rattle.mqtt_packet.specs.declared.qos.Qos.{Qos}
use Rattle.mqtt_packet.specs.declared.qos.Qos.TheVariants.{AtMostOnce, AtLeastOnce, ExactlyOnce}
use Rattle.mqtt_packet.specs.declared.packet.Packet.{Packet}
use Rattle.mqtt_packet.specs.declared.packet.Packet.TheVariants as p
use Rattle.mqtt_packet.specs.declared.will.Ask.{Ask}
use Rattle.mqtt_packet.specs.Spelling.{is_sound, has_fields, is_identifier, is_delivery, is_string, is_ask, has_some, spelling}
use Rattle.agent_journal.specs.declared.request.Request.{Request}
use Rattle.agent_journal.specs.declared.request.Request.TheVariants as requests
use Rattle.agent_journal.specs.declared.entry.Cause.{Cause}
use Rattle.agent_journal.specs.declared.entry.Cause.TheVariants as c
use Rattle.agent_journal.specs.declared.entry.Entry.{Entry}
use Rattle.agent_journal.specs.declared.effect.Effect.{Effect}
use Rattle.agent_journal.specs.declared.effect.Effect.TheVariants as f
use Rattle.agent_journal.specs.declared.setup.Setup.{Setup}
use Rattle.agent_journal.specs.declared.setup.Phase.{Phase}
use Rattle.agent_journal.specs.declared.setup.Phase.TheVariants.{Down, Opening, Up, Spilled, Off}
use Rattle.agent_journal.specs.Sound.{IsSoundEffect, IsSoundCause, IsSoundEntry}
use Rattle.agent_journal.specs.Readings.{Pending, pending_of, has_left, opens, opened_by, sent_filters, sent_id, or_else, command_id, id_at, stays_open}
use Rattle.agent_journal.specs.Requests.{is_valid, is_few, is_wanted}
use Rattle.agent_journal.specs.Setups.{is_client}
use Rattle.std.proofs.lemmas.Bool.{and_parts}
use Rattle.agent_table.specs.Arrivals.{arrived_row, arrived_in}
use Rattle.agent_table.specs.Deliveries.{publishes, is_open_publish, is_exactly_once, released_behind, released_of}
use Rattle.agent_table.specs.Filters.{is_one_of, comes_before, sorted_with, sorted}
use Rattle.agent_table.specs.Histories.{IsLegalPast, readings, row, effects_of, phase_of}
use Rattle.agent_table.specs.Identifiers.{last_or, last_drawn_of}
use Rattle.agent_table.specs.Laws.{PacketsAreSound}
use Rattle.agent_table.specs.Readings.{Readings}
use Rattle.agent_table.specs.Routes.{Route, route, has_route, with_route, with_routes, coded, codes_by, outcomes_in, refused_in, asks_in, granted_to, routes_to, dropped_by, renewed, without, without_filters, renewals_of, granted_of, asked_for, routes_of, topics_of, qos_of, renewable_of, unsure_of, lost_of, sure_of, while_opening}
use Rattle.agent_table.specs.Rows.{Row, when}
use Rattle.agent_table.specs.Sends.{drawn_by, drawn_in}
use Rattle.agent_table.specs.Sizes.{Sizes}
use Rattle.agent_table.specs.Table.{row_of, cause_row}
use Rattle.agent_table.specs.Takes as takes
use Rattle.agent_table.proofs.Once.{has_row}
use Rattle.agent_table.proofs.SoundPackets.{IsWellAsk, IsWellFilter}
use Rattle.agent_table.proofs.SoundRows.{IsLow, IsSome, IsAwaited, IsWellPending, IsWell, AreWell, IsWellRow, all_both, all_kept, all_passed, all_tested, well_row}

-- ---- What a row says of its cause

some_when : (b : Bool) (found : Option Row) → is_some (when b found) ≡ true → (b ≡ true) × (is_some found ≡ true)
some_when true found some = (refl, some)
some_when false found some = absurd (cc some)

in_time : (s : Setup) (l : Sizes) (r : Readings) (time : ℕ) (cause : Cause) → is_some (row_of s l r time cause) ≡ true → is_some (cause_row s l r time cause) ≡ true
unfolding row_of
in_time s l r time cause some = (some_when (nat_le r.last_time time) (cause_row s l r time cause) some).1

arrived_sound : (s : Setup) (l : Sizes) (r : Readings) (packet : Packet) → is_some (arrived_row s l r packet) ≡ true → is_sound packet ≡ true
unfolding arrived_row
arrived_sound s l r packet some = (some_when (is_sound packet) (arrived_in s l r packet r.phase) some).0

taken_valid : (s : Setup) (l : Sizes) (r : Readings) (task seq : ℕ) (request : Request) → is_some (takes.take_row s l r task seq request) ≡ true → is_valid request ≡ true
unfolding takes.take_row takes.may_take
taken_valid s l r task seq request some =
    let may = (some_when (nat_lt task s.tasks && not (r.left task) && (seq == r.takes task) && is_valid request) (takes.take_in s l r task seq request r.phase) some).0 in
    (and_parts (nat_lt task s.tasks && not (r.left task) && (seq == r.takes task)) (is_valid request) may).1

cause_sound : (s : Setup) (l : Sizes) (r : Readings) (time : ℕ) (cause : Cause) → is_some (cause_row s l r time cause) ≡ true → IsSoundCause cause
cause_sound s l r time c.Opened some = tt
cause_sound s l r time (c.Take task seq request) some = tt
cause_sound s l r time (c.Arrived packet) some = arrived_sound s l r packet some
cause_sound s l r time (c.Broke why) some = tt
cause_sound s l r time c.Tick some = tt
cause_sound s l r time c.GaveUp some = tt
cause_sound s l r time c.Finish some = tt

effects_well : (found : Option Row) (effects : List Effect) → IsWellRow found → effects_of found ≡ Some effects → AreWell effects
effects_well None effects h e = absurd (cc e)
effects_well (Some found) effects h e = let is : found.effects ≡ effects = cc in subst AreWell is h

effects_sound : (effects : List Effect) → AreWell effects → AllByRecursion IsSoundEffect effects
effects_sound [] well = tt
effects_sound (f.Send packet ∷ effects) well = (well.0.0, effects_sound effects well.1)
effects_sound (f.Done task seq outcome ∷ effects) well = (tt, effects_sound effects well.1)
effects_sound (f.Pass task message ∷ effects) well = (tt, effects_sound effects well.1)
effects_sound (f.Closed task ∷ effects) well = (tt, effects_sound effects well.1)

-- ---- A publish at quality of service 0 isn't open

abbrev HasNoId : Option Row → Type 0
HasNoId None = Unit {0}
HasNoId (Some found) = sent_id found.effects ≡ None

no_id_when : (b : Bool) (found : Option Row) → HasNoId found → HasNoId (when b found)
no_id_when true found h = h
no_id_when false found h = tt

no_id_in : (s : Setup) (l : Sizes) (r : Readings) (task seq : ℕ) (topic payload : List ℕ) (phase : Phase) → HasNoId (takes.take_in s l r task seq (requests.Publish AtMostOnce topic payload) phase)
unfolding takes.publish_row
no_id_in s l r task seq topic payload Down = tt
no_id_in s l r task seq topic payload Opening = tt
no_id_in s l r task seq topic payload Up = refl
no_id_in s l r task seq topic payload Spilled = tt
no_id_in s l r task seq topic payload Off = refl

no_id_row : (s : Setup) (l : Sizes) (r : Readings) (time task seq : ℕ) (topic payload : List ℕ) → HasNoId (row_of s l r time (c.Take task seq (requests.Publish AtMostOnce topic payload)))
unfolding row_of takes.take_row
no_id_row s l r time task seq topic payload =
    let request = requests.Publish AtMostOnce topic payload in
    let may = takes.may_take s r task seq request in
    let found = takes.take_in s l r task seq request r.phase in
    no_id_when (nat_le r.last_time time) (when may found) (no_id_when may found (no_id_in s l r task seq topic payload r.phase))

no_id_of : (found : Option Row) (effects : List Effect) → HasNoId found → effects_of found ≡ Some effects → sent_id effects ≡ None
no_id_of None effects h e = absurd (cc e)
no_id_of (Some found) effects h e = let is : found.effects ≡ effects = cc in ap sent_id (sym is) ∙ h

awaited : (s : Setup) (l : Sizes) (r : Readings) (time task seq id : ℕ) (request : Request) (effects : List Effect) → effects_of (row_of s l r time (c.Take task seq request)) ≡ Some effects → sent_id effects ≡ Some id → IsAwaited request
awaited s l r time task seq id (requests.Publish AtMostOnce topic payload) effects e sent = absurd (let none = no_id_of _ effects (no_id_row s l r time task seq topic payload) e in cc (sent, none))
awaited s l r time task seq id (requests.Publish AtLeastOnce topic payload) effects e sent = tt
awaited s l r time task seq id (requests.Publish ExactlyOnce topic payload) effects e sent = tt
awaited s l r time task seq id (requests.Subscribe asks) effects e sent = tt
awaited s l r time task seq id (requests.Unsubscribe filters) effects e sent = tt
awaited s l r time task seq id requests.Ping effects e sent = tt
awaited s l r time task seq id requests.Disconnect effects e sent = tt
awaited s l r time task seq id requests.Terminate effects e sent = tt
awaited s l r time task seq id requests.Leave effects e sent = tt

-- ---- Identifiers of what is sent

not_zero : (id : ℕ) → is_identifier id ≡ true → 0 < id
not_zero zero e = absurd (cc e)
not_zero (suc id) e = omega arith

publish_low : (dup : Bool) (qos : Qos) (id n : ℕ) → is_delivery dup qos id ≡ true → id_at qos id ≡ Some n → 0 < n
publish_low dup AtMostOnce id n is e = absurd (cc e)
publish_low dup AtLeastOnce id n is e = let same : id ≡ n = cc in subst IsSome same (not_zero id is)
publish_low dup ExactlyOnce id n is e = let same : id ≡ n = cc in subst IsSome same (not_zero id is)

command_low : (packet : Packet) (n : ℕ) → has_fields packet ≡ true → command_id packet ≡ Some n → 0 < n
command_low (p.Connect clean keep_alive client will user password) n is e = absurd (cc e)
command_low (p.ConnAck present code) n is e = absurd (cc e)
command_low (p.Publish dup qos retain topic id payload) n is e = publish_low dup qos id n (and_parts (is_string topic) (is_delivery dup qos id) is).1 e
command_low (p.PubAck id) n is e = absurd (cc e)
command_low (p.PubRec id) n is e = absurd (cc e)
command_low (p.PubRel id) n is e = absurd (cc e)
command_low (p.PubComp id) n is e = absurd (cc e)
command_low (p.Subscribe id asks) n is e = let same : id ≡ n = cc in subst IsSome same (not_zero id (and_parts (is_identifier id) (has_some asks && list_all is_ask asks) is).0)
command_low (p.SubAck id codes) n is e = absurd (cc e)
command_low (p.Unsubscribe id filters) n is e = let same : id ≡ n = cc in subst IsSome same (not_zero id (and_parts (is_identifier id) (has_some filters && list_all is_string filters) is).0)
command_low (p.UnsubAck id) n is e = absurd (cc e)
command_low p.PingReq n is e = absurd (cc e)
command_low p.PingResp n is e = absurd (cc e)
command_low p.Disconnect n is e = absurd (cc e)

sent_by : (first later : Option ℕ) (n : ℕ) → ((m : ℕ) → first ≡ Some m → 0 < m) → ((m : ℕ) → later ≡ Some m → 0 < m) → or_else first later ≡ Some n → 0 < n
sent_by None later n h k e = k n e
sent_by (Some m) later n h k e = h n e

sent_low : (effects : List Effect) (n : ℕ) → AreWell effects → sent_id effects ≡ Some n → 0 < n
sent_low [] n well e = absurd (cc e)
sent_low (f.Send packet ∷ effects) n well e =
    sent_by (command_id packet) (sent_id effects) n (λ m is. command_low packet m (and_parts (has_fields packet) (nat_le (length (spelling packet)) 262144) well.0.0).0 is) (λ m is. sent_low effects m well.1 is) e
sent_low (f.Done task seq outcome ∷ effects) n well e = sent_low effects n well.1 e
sent_low (f.Pass task message ∷ effects) n well e = sent_low effects n well.1 e
sent_low (f.Closed task ∷ effects) n well e = sent_low effects n well.1 e

drawn_low : (effects : List Effect) → AreWell effects → AllByRecursion IsLow (drawn_in effects)
drawn_low [] well = tt
drawn_low (f.Send packet ∷ effects) well = all_both IsLow (drawn_by packet) (drawn_in effects) well.0.1 (drawn_low effects well.1)
drawn_low (f.Done task seq outcome ∷ effects) well = drawn_low effects well.1
drawn_low (f.Pass task message ∷ effects) well = drawn_low effects well.1
drawn_low (f.Closed task ∷ effects) well = drawn_low effects well.1

pub last_low : (n : ℕ) (ns : List ℕ) → n ≤ 65535 → AllByRecursion IsLow ns → last_or n ns ≤ 65535
last_low n [] low all = low
last_low n (m ∷ ns) low all = last_low m ns all.0 all.1

-- ---- Open commands

opened_well : (s : Setup) (l : Sizes) (r : Readings) (time task seq : ℕ) (request : Request) (effects : List Effect) (id : Option ℕ) → AreWell effects → effects_of (row_of s l r time (c.Take task seq request)) ≡ Some effects → sent_id effects ≡ id
    → AllByRecursion IsWellPending (opened_by task seq request (sent_filters effects) id)
opened_well s l r time task seq request effects None well e is = tt
opened_well s l r time task seq request effects (Some id) well e is =
    let some = in_time s l r time (c.Take task seq request) (has_row (row_of s l r time (c.Take task seq request)) effects e) in
    (record { id = sent_low effects id well is; valid = taken_valid s l r task seq request some; awaited = awaited s l r time task seq id request effects e is }, tt)

opens_well : (s : Setup) (l : Sizes) (r : Readings) (time : ℕ) (cause : Cause) (effects : List Effect) → AreWell effects → effects_of (row_of s l r time cause) ≡ Some effects → AllByRecursion IsWellPending (opens cause effects)
opens_well s l r time c.Opened effects well e = tt
opens_well s l r time (c.Take task seq request) effects well e = opened_well s l r time task seq request effects (sent_id effects) well e refl
opens_well s l r time (c.Arrived packet) effects well e = tt
opens_well s l r time (c.Broke why) effects well e = tt
opens_well s l r time c.Tick effects well e = tt
opens_well s l r time c.GaveUp effects well e = tt
opens_well s l r time c.Finish effects well e = tt

-- ---- Released publishes

open_by : (here : Bool) (publish others : Bool) (n : ℕ) (command : Pending) → (command.id == n) ≡ here → 0 < command.id → (others ≡ true → 0 < n) → ((here && publish) || others) ≡ true → 0 < n
open_by true publish others n command e low rest is = subst IsSome (eqb-true command.id n e) low
open_by false publish others n command e low rest is = rest is

open_low : (commands : List Pending) (n : ℕ) → AllByRecursion IsWellPending commands → is_open_publish is_exactly_once commands n ≡ true → 0 < n
open_low [] n all e = absurd (cc e)
open_low (command ∷ commands) n all e =
    open_by (command.id == n) (publishes is_exactly_once command.request) (is_open_publish is_exactly_once commands n) n command refl all.0.id (λ is. open_low commands n all.1 is) e

all_open : (commands : List Pending) (ns : List ℕ) → AllByRecursion IsWellPending commands → AllByRecursion (λ n. is_open_publish is_exactly_once commands n ≡ true) ns → AllByRecursion IsSome ns
all_open commands [] well all = tt
all_open commands (n ∷ ns) well all = (open_low commands n well all.0, all_open commands ns well all.1)

released_well : (past : List Entry) → AllByRecursion IsWellPending (pending_of past) → AllByRecursion IsSome (released_of past)
released_well [] well = tt
released_well (e ∷ past) well =
    all_open (pending_of (e ∷ past)) (released_of (e ∷ past)) well (all_passed (is_open_publish is_exactly_once (pending_of (e ∷ past))) (released_behind (pending_of past) (released_of past) e.cause))

-- ---- Routes

abbrev IsWellRoute : Route → Type 0
IsWellRoute r = is_wanted r.topics ≡ true

with_by : (b : Bool) (routes : List Route) (r : Route) → AllByRecursion IsWellRoute routes → IsWellRoute r → AllByRecursion IsWellRoute (cond b routes (routes ++ r ∷ []))
with_by true routes r all h = all
with_by false routes r all h = all_both IsWellRoute routes (r ∷ []) all (h, tt)

with_well : (routes rs : List Route) → AllByRecursion IsWellRoute routes → AllByRecursion IsWellRoute rs → AllByRecursion IsWellRoute (with_routes routes rs)
with_well routes [] all more = all
with_well routes (r ∷ rs) all more = with_well (with_route routes r) rs (with_by (has_route routes r) routes r all more.0) more.1

asks_well : (request : Request) → is_valid request ≡ true → AllByRecursion IsWellAsk (asks_in request)
unfolding is_valid
asks_well (requests.Publish qos topic payload) valid = tt
asks_well (requests.Subscribe asks) valid = all_tested (λ ask. is_wanted ask.filter) asks (and_parts (is_few (length asks)) (list_all (λ ask. is_wanted ask.filter) asks) valid).1
asks_well (requests.Unsubscribe filters) valid = tt
asks_well requests.Ping valid = tt
asks_well requests.Disconnect valid = tt
asks_well requests.Terminate valid = tt
asks_well requests.Leave valid = tt

asked_well : (task : ℕ) (asks : List Ask) → AllByRecursion IsWellAsk asks → AllByRecursion IsWellRoute (map (λ ask. route task ask.filter) asks)
asked_well task [] all = tt
asked_well task (ask ∷ asks) all = (all.0, asked_well task asks all.1)

asked_for_well : (commands : List Pending) → AllByRecursion IsWellPending commands → AllByRecursion IsWellRoute (asked_for commands)
asked_for_well [] all = tt
asked_for_well (command ∷ commands) all =
    all_both IsWellRoute (map (λ ask. route command.task ask.filter) (asks_in command.request)) (asked_for commands) (asked_well command.task (asks_in command.request) (asks_well command.request all.0.valid)) (asked_for_well commands all.1)

abbrev IsWellPair : List ℕ × ℕ → Type 0
IsWellPair pair = is_wanted pair.0 ≡ true

coded_well : (asks : List Ask) (codes : List ℕ) → AllByRecursion IsWellAsk asks → AllByRecursion IsWellPair (coded asks codes)
coded_well [] codes all = tt
coded_well (ask ∷ asks) [] all = tt
coded_well (ask ∷ asks) (code ∷ codes) all = (all.0, coded_well asks codes all.1)

firsts_well : (pairs : List (List ℕ × ℕ)) → AllByRecursion IsWellPair pairs → AllByRecursion IsWellFilter (map (λ pair. pair.0) pairs)
firsts_well [] all = tt
firsts_well (pair ∷ pairs) all = (all.0, firsts_well pairs all.1)

routes_well : (task : ℕ) (filters : List (List ℕ)) → AllByRecursion IsWellFilter filters → AllByRecursion IsWellRoute (map (route task) filters)
routes_well task [] all = tt
routes_well task (topics ∷ filters) all = (all.0, routes_well task filters all.1)

granted_to_well : (effects : List Effect) (command : Pending) → is_valid command.request ≡ true → AllByRecursion IsWellRoute (routes_to effects command)
granted_to_well effects command valid =
    let codes = flat_map codes_by (outcomes_in command.task command.seq effects) in
    let pairs = coded (asks_in command.request) codes in
    let all = coded_well (asks_in command.request) codes (asks_well command.request valid) in
    routes_well command.task (granted_to effects command) (firsts_well (filter (λ pair. nat_lt pair.1 128) pairs) (all_kept IsWellPair (λ pair. nat_lt pair.1 128) pairs all))

all_granted_well : (effects : List Effect) (commands : List Pending) → AllByRecursion IsWellPending commands → AllByRecursion IsWellRoute (flat_map (routes_to effects) commands)
all_granted_well effects [] all = tt
all_granted_well effects (command ∷ commands) all =
    all_both IsWellRoute (routes_to effects command) (flat_map (routes_to effects) commands) (granted_to_well effects command all.0.valid) (all_granted_well effects commands all.1)

sorted_by : (same before : Bool) (topics other : List ℕ) (filters : List (List ℕ)) (more : List (List ℕ)) → is_wanted topics ≡ true → is_wanted other ≡ true → AllByRecursion IsWellFilter filters → AllByRecursion IsWellFilter more
    → AllByRecursion IsWellFilter (cond same (other ∷ filters) (cond before (topics ∷ other ∷ filters) (other ∷ more)))
sorted_by true before topics other filters more h k all rest = (k, all)
sorted_by false true topics other filters more h k all rest = (h, (k, all))
sorted_by false false topics other filters more h k all rest = (k, rest)

sorted_with_well : (filters : List (List ℕ)) (topics : List ℕ) → AllByRecursion IsWellFilter filters → is_wanted topics ≡ true → AllByRecursion IsWellFilter (sorted_with filters topics)
sorted_with_well [] topics all h = (h, tt)
sorted_with_well (other ∷ filters) topics all h = sorted_by (bytes_eq other topics) (comes_before topics other) topics other filters (sorted_with filters topics) h all.0 all.1 (sorted_with_well filters topics all.1 h)

sorted_well : (filters : List (List ℕ)) → AllByRecursion IsWellFilter filters → AllByRecursion IsWellFilter (sorted filters)
sorted_well [] all = tt
sorted_well (topics ∷ filters) all = sorted_with_well (sorted filters) topics (sorted_well filters all.1) all.0

asks_of_well : (past : List Entry) (filters : List (List ℕ)) → AllByRecursion IsWellFilter filters → AllByRecursion IsWellAsk (map (λ topics. record { filter = topics; qos = qos_of past topics }) filters)
asks_of_well past [] all = tt
asks_of_well past (topics ∷ filters) all = (all.0, asks_of_well past filters all.1)

topics_well : (routes : List Route) → AllByRecursion IsWellRoute routes → AllByRecursion IsWellFilter (topics_of routes)
topics_well [] all = tt
topics_well (r ∷ routes) all = (all.0, topics_well routes all.1)

-- ---- Pasts

record IsWellPast (past : List Entry) : Type 0 where
  pending : AllByRecursion IsWellPending (pending_of past)
  drawn : last_drawn_of past ≤ 65535
  granted : AllByRecursion IsWellRoute (granted_of past)

routes_of_well : (past : List Entry) → IsWellPast past → AllByRecursion IsWellFilter (topics_of (routes_of past))
routes_of_well past h =
    topics_well (routes_of past) (all_kept IsWellRoute (λ r. not (has_left r.task past)) (with_routes (granted_of past) (asked_for (pending_of past))) (with_well (granted_of past) (asked_for (pending_of past)) h.granted (asked_for_well (pending_of past) h.pending)))

while_well : (phase : Phase) (asks : List Ask) → AllByRecursion IsWellAsk asks → AllByRecursion IsWellAsk (while_opening phase asks)
while_well Down asks all = tt
while_well Opening asks all = all
while_well Up asks all = tt
while_well Spilled asks all = tt
while_well Off asks all = tt

reads_well : (s : Setup) (l : Sizes) (past : List Entry) → IsWellPast past → IsWell (readings s l past)
reads_well s l past h =
    let routes = routes_of_well past h in
    let is_unsure : List ℕ → Bool = λ topics. lost_of s past && not (is_one_of (sure_of s past) topics) in
    record {
      pending = h.pending;
      released = released_well past h.pending;
      drawn = h.drawn;
      renewable = while_well (phase_of s l past) (renewable_of past) (asks_of_well past (sorted (topics_of (routes_of past))) (sorted_well (topics_of (routes_of past)) routes));
      unsure = while_well (phase_of s l past) (unsure_of s past)
          (asks_of_well past (sorted (filter is_unsure (topics_of (routes_of past)))) (sorted_well (filter is_unsure (topics_of (routes_of past))) (all_kept IsWellFilter is_unsure (topics_of (routes_of past)) routes)));
    }

none_well : IsWellPast []
none_well = record { pending = tt; drawn = omega arith; granted = tt }

more_well : (s : Setup) (l : Sizes) (past : List Entry) (e : Entry) → IsWellPast past → AreWell e.effects → effects_of (row s l past e.at e.cause) ≡ Some e.effects → IsWellPast (e ∷ past)
more_well s l past e h well is = record {
  pending = all_kept IsWellPending (stays_open e.effects) (pending_of past ++ opens e.cause e.effects)
      (all_both IsWellPending (pending_of past) (opens e.cause e.effects) h.pending (opens_well s l (readings s l past) e.at e.cause e.effects well is));
  drawn = last_low (last_drawn_of past) (drawn_in e.effects) h.drawn (drawn_low e.effects well);
  granted = with_well (without_filters (refused_in (renewed e.cause (renewals_of past))) (without (dropped_by e.cause e.effects (pending_of past)) (granted_of past))) (flat_map (routes_to e.effects) (pending_of past))
      (all_kept IsWellRoute (λ r. not (is_one_of (refused_in (renewed e.cause (renewals_of past))) r.topics)) (without (dropped_by e.cause e.effects (pending_of past)) (granted_of past))
      (all_kept IsWellRoute (λ r. not (has_route (dropped_by e.cause e.effects (pending_of past)) r)) (granted_of past) h.granted))
      (all_granted_well e.effects (pending_of past) h.pending);
}

well_past : (s : Setup) (l : Sizes) (past : List Entry) → is_client s.client ≡ true → IsLegalPast s l past → IsWellPast past × AllByRecursion IsSoundEntry past
well_past s l [] client legal = (none_well, tt)
well_past s l (e ∷ past) client legal =
    let before = well_past s l past client legal.1 in
    let r = readings s l past in
    let found = row s l past e.at e.cause in
    let well = effects_well found e.effects (well_row s l r client (reads_well s l past before.0) e.at e.cause) legal.0 in
    let some = in_time s l r e.at e.cause (has_row found e.effects legal.0) in
    (more_well s l past e before.0 well legal.0, (record { cause = cause_sound s l r e.at e.cause some; effects = effects_sound e.effects well }, before.1))

pub packets_are_sound : PacketsAreSound
packets_are_sound s l past client legal = (well_past s l past client legal).1
