-- Where a cause has a row, its entry can be noted.
use Rattle.std.proofs.Common.{◌≡◌, ℕ, ◌+◌, ◌<◌, ◌≤◌, Bool, true, false, not, List, [], ◌∷◌, ◌++◌, length, map, Option, Some, None, is_some, refl, ap, sym, ◌∙◌, subst, arith}
use Rattle.std.specs.Prelude.{◌&&◌, ◌||◌, ◌==◌, nat_le, nat_lt, filter, find, if◌then◌else◌, slice_set}
use Rattle.std.specs.List.{list_any, list_all}
use Rattle.std.proofs.lemmas.Bool.{ltb-true, and_parts}
use Rattle.std.proofs.lemmas.List.{length-append, length-map, length-set}
use Rattle.agent_journal.specs.declared.entry.Cause.{Cause}
use Rattle.agent_journal.specs.declared.entry.Cause.TheVariants as c
use Rattle.agent_journal.specs.declared.effect.Effect.{Effect}
use Rattle.agent_journal.specs.declared.request.Request.{Request}
use Rattle.agent_journal.specs.declared.request.Request.TheVariants as requests
use Rattle.agent_journal.specs.declared.setup.Phase.{Phase}
use Rattle.agent_journal.specs.declared.setup.Phase.TheVariants.{Down, Opening, Up, Spilled, Off}
use Rattle.agent_journal.specs.Readings.{Pending, opens, opened_by, sent_id, is_leave, sent_filters}
use Rattle.agent_journal.specs.Requests.{is_valid, is_few, is_wanted, is_short}
use Rattle.topic_filter.specs.Texts.{is_filter}
use Rattle.mqtt_packet.specs.declared.will.Ask.{Ask}
use Rattle.agent_table.proofs.Fresh.{fresh_is_fresh}
use Rattle.agent_table.specs.Deliveries.{is_among}
use Rattle.agent_table.specs.Identifiers.{fresh}
use Rattle.agent_table.specs.Readings.{unless_off}
use Rattle.agent_table.specs.Routes.{with_routes, Renewal, while_opening, is_done, outcomes_in}
use Rattle.agent_table.specs.Rows.{Row}
use Rattle.agent_table.specs.Table.{cause_row}
use Rattle.agent_table.specs.Takes.{take_row, take_in, may_take, routes_with}
use Rattle.mqtt_packet.specs.declared.packet.Packet.{Packet}
use Rattle.mqtt_packet.specs.declared.packet.Packet.TheVariants as p
use Rattle.agent_journal.specs.declared.effect.Effect.TheVariants as f
use Rattle.agent_journal.specs.declared.outcome.Outcome.{Outcome}
use Rattle.agent_journal.specs.declared.outcome.Outcome.TheVariants as o
use Rattle.agent_table.specs.Arrivals.{arrived_row}
use Rattle.agent_core.specs.After.{takes_with, left_with, routing_lost, routing_caused, routing_asked, taken_by, asked_by, answered_by, asked_at, renewal_answered}
use Rattle.agent_core.specs.Completions.{Books, books, ended, ended_with, all_ended, routing_ended, subscribe_ended, is_count}
use Rattle.pending_acks.specs.Commands.{has_id, is_command}
use Rattle.subscriptions.specs.Routing.{Routing, Asked, has_room, routes, routes_asked, renewable, granted, granted_to, lost, asked_len, renewal_len, renewal_granted, renewal_granted_to, is_renewal, filters_dropped}
use Rattle.subscriptions.specs.Routing.{has_id as has_asked}
use Rattle.subscriptions.specs.Rooms.{are_filters}
use Rattle.agent_core.specs.Kept.{Kept, readings_in, used_in}
use Rattle.agent_core.specs.Renewing.{as_list}
use Rattle.agent_core.specs.Tied.{CanOpen, CanHold, CanAsk, CanAskFor, InRange}
use Rattle.agent_core.proofs.Breaks.{some_when}
use Rattle.agent_core.proofs.Used.{among_more, among_open}
use Rattle.agent_core.proofs.RowFacts.{IsSentWell, take_sends, arrived_holds, connack_few}

not_or : (a b : Bool) → (a || b) ≡ false → a ≡ false
not_or true b e = absurd (cc e)
not_or false b e = refl

-- a Take with a row is of a task that there is, and its request is valid
taken : (k : Kept) (task seq : ℕ) (request : Request) (row : Row) → take_row k.setup k.sizes (readings_in k) task seq request ≡ Some row → (task < k.setup.tasks) × (is_valid request ≡ true)
unfolding take_row may_take
taken k task seq request row e =
    let r = readings_in k in
    let may = (some_when (nat_lt task k.setup.tasks && not (r.left task) && (seq == r.takes task) && is_valid request) (take_in k.setup k.sizes r task seq request r.phase) (ap is_some e)).0 in
    let four = and_parts (nat_lt task k.setup.tasks && not (r.left task) && (seq == r.takes task)) (is_valid request) may in
    let three = and_parts (nat_lt task k.setup.tasks && not (r.left task)) (seq == r.takes task) four.0 in
    let two = and_parts (nat_lt task k.setup.tasks) (not (r.left task)) three.0 in
    (ltb-true task k.setup.tasks two.0, four.1)

used_up : (k : Kept) → k.phase ≡ Up → fresh (readings_in k).last_drawn (map (λ command. command.id) (readings_in k).pending ++ map (λ renewal. renewal.id) (readings_in k).renewals) ≡ fresh k.last_drawn (used_in k)
used_up k up = go k.phase up
  where
    go : (phase : Phase) → phase ≡ Up → fresh k.last_drawn (map (λ command. command.id) k.pending ++ map (λ renewal. renewal.id) (unless_off phase k.routing.renewals)) ≡ fresh k.last_drawn (used_in k)
    go Down e = absurd (cc e)
    go Opening e = absurd (cc e)
    go Up e = refl
    go Spilled e = absurd (cc e)
    go Off e = absurd (cc e)

fresh_in : (k : Kept) (id : ℕ) → k.last_drawn ≤ 65535 → length (used_in k) < 65535 → id ≡ fresh k.last_drawn (used_in k) → list_any (has_id id) k.pending ≡ false
fresh_in k id low few is =
    let free : is_among (used_in k) id ≡ false = subst (λ (n : ℕ). is_among (used_in k) n ≡ false) (sym is) (fresh_is_fresh k.last_drawn (used_in k) low few).2 in
    sym (among_open k.pending id) ∙ not_or (is_among (map (λ command. command.id) k.pending) id) (is_among (map (λ renewal. renewal.id) k.routing.renewals) id)
    (sym (among_more (map (λ command. command.id) k.pending) (map (λ renewal. renewal.id) k.routing.renewals) id) ∙ free)

-- the command that is opened is the one with the identifier that is sent
sent_open : (k : Kept) (task seq : ℕ) (request : Request) (names : List (List ℕ)) (id : Option ℕ) (opened : Option Pending) → k.last_drawn ≤ 65535 → length (used_in k) < 65535
    → IsSentWell k.phase k.sizes (readings_in k) task request id → as_list opened ≡ opened_by task seq request names id → CanOpen k.sizes.acks k.pending opened
sent_open k task seq request names None None low few well e = tt
sent_open k task seq request names None (Some command) low few well e = absurd (cc e)
sent_open k task seq request names (Some id) None low few well e = absurd (cc e)
sent_open k task seq request names (Some id) (Some command) low few well e =
    let same : command.id ≡ id = ap id_of e in
    (well.1, fresh_in k command.id low few (same ∙ well.2 ∙ used_up k well.0))
  where
    id_of : List Pending → ℕ
    id_of [] = 0
    id_of (other ∷ commands) = other.id

no_command : (room : ℕ) (commands : List Pending) (opened : Option Pending) → as_list opened ≡ [] → CanOpen room commands opened
no_command room commands None e = tt
no_command room commands (Some command) e = absurd (cc e)

pub can_open : (k : Kept) (at : ℕ) (cause : Cause) (row : Row) (opened : Option Pending) → cause_row k.setup k.sizes (readings_in k) at cause ≡ Some row → as_list opened ≡ opens cause row.effects
    → k.last_drawn ≤ 65535 → length (used_in k) < 65535 → CanOpen k.sizes.acks k.pending opened
can_open k at c.Opened row opened e is low few = no_command k.sizes.acks k.pending opened is
can_open k at (c.Take task seq request) row opened e is low few =
    sent_open k task seq request (sent_filters row.effects) (sent_id row.effects) opened low few (take_sends k.setup k.sizes (readings_in k) task seq request row e) is
can_open k at (c.Arrived packet) row opened e is low few = no_command k.sizes.acks k.pending opened is
can_open k at (c.Broke why) row opened e is low few = no_command k.sizes.acks k.pending opened is
can_open k at c.Tick row opened e is low few = no_command k.sizes.acks k.pending opened is
can_open k at c.GaveUp row opened e is low few = no_command k.sizes.acks k.pending opened is
can_open k at c.Finish row opened e is low few = no_command k.sizes.acks k.pending opened is

pub can_hold : (k : Kept) (at : ℕ) (cause : Cause) (row : Row) → cause_row k.setup k.sizes (readings_in k) at cause ≡ Some row → CanHold cause row.effects k.sizes.inbound k.held
can_hold k at c.Opened row e = tt
can_hold k at (c.Take task seq request) row e = tt
can_hold k at (c.Arrived packet) row e = arrived_holds k.setup k.sizes (readings_in k) packet row e
can_hold k at (c.Broke why) row e = tt
can_hold k at c.Tick row e = tt
can_hold k at c.GaveUp row e = tt
can_hold k at c.Finish row e = tt

pub in_range : (k : Kept) (at : ℕ) (cause : Cause) (row : Row) → length k.takes ≡ k.setup.tasks → length k.left ≡ k.setup.tasks → cause_row k.setup k.sizes (readings_in k) at cause ≡ Some row → InRange cause (length k.takes) (length k.left)
in_range k at c.Opened row takes left e = tt
in_range k at (c.Take task seq request) row takes left e = let below = (taken k task seq request row e).0 in (omega (arith, below, takes), omega (arith, below, left))
in_range k at (c.Arrived packet) row takes left e = tt
in_range k at (c.Broke why) row takes left e = tt
in_range k at c.Tick row takes left e = tt
in_range k at c.GaveUp row takes left e = tt
in_range k at c.Finish row takes left e = tt

-- ---- Subscribes

room_up : (k : Kept) (task : ℕ) (asks : List Ask) → k.phase ≡ Up → nat_le (length (routes_with (readings_in k) task asks)) k.sizes.routes ≡ true → has_room k.sizes.routes k.routing task asks ≡ true
room_up k task asks up few = go k.phase up few
  where
    go : (phase : Phase) → phase ≡ Up → nat_le (length (with_routes (with_routes [] (unless_off phase (routes k.routing))) (routes_asked task asks))) k.sizes.routes ≡ true → has_room k.sizes.routes k.routing task asks ≡ true
    go Down e few = absurd (cc e)
    go Opening e few = absurd (cc e)
    go Up e few = few
    go Spilled e few = absurd (cc e)
    go Off e few = absurd (cc e)

valid_asks : (asks : List Ask) → is_valid (requests.Subscribe asks) ≡ true → are_filters asks ≡ true
unfolding is_valid
valid_asks asks valid = all asks (and_parts (is_few (length asks)) (list_all (λ ask. is_wanted ask.filter) asks) valid).1
  where
    all : (asks : List Ask) → list_all (λ ask. is_wanted ask.filter) asks ≡ true → are_filters asks ≡ true
    all [] h = refl
    all (ask ∷ asks) h =
        let parts = and_parts (is_wanted ask.filter) (list_all (λ ask. is_wanted ask.filter) asks) h in
        rw ((and_parts (is_short ask.filter) (is_filter ask.filter) parts.0).1) (all asks parts.1)

sent_ask : (k : Kept) (task seq : ℕ) (request : Request) (names : List (List ℕ)) (id : Option ℕ) (opened : Option Pending) → is_valid request ≡ true → IsSentWell k.phase k.sizes (readings_in k) task request id
    → as_list opened ≡ opened_by task seq request names id → CanAskFor k.sizes.routes k.routing task request (as_list opened)
sent_ask k task seq (requests.Publish qos topic payload) names id opened valid well e = tt
sent_ask k task seq (requests.Subscribe asks) names None None valid well e = tt
sent_ask k task seq (requests.Subscribe asks) names None (Some command) valid well e = absurd (cc e)
sent_ask k task seq (requests.Subscribe asks) names (Some id) None valid well e = tt
sent_ask k task seq (requests.Subscribe asks) names (Some id) (Some command) valid well e = (room_up k task asks well.0 well.3, valid_asks asks valid)
sent_ask k task seq (requests.Unsubscribe filters) names id opened valid well e = tt
sent_ask k task seq requests.Ping names id opened valid well e = tt
sent_ask k task seq requests.Disconnect names id opened valid well e = tt
sent_ask k task seq requests.Terminate names id opened valid well e = tt
sent_ask k task seq requests.Leave names id opened valid well e = tt

pub can_ask : (k : Kept) (at : ℕ) (cause : Cause) (row : Row) (opened : Option Pending) → cause_row k.setup k.sizes (readings_in k) at cause ≡ Some row → as_list opened ≡ opens cause row.effects
    → CanAsk k.sizes.routes k.routing cause (as_list opened)
can_ask k at c.Opened row opened e is = tt
can_ask k at (c.Take task seq request) row opened e is =
    sent_ask k task seq request (sent_filters row.effects) (sent_id row.effects) opened (taken k task seq request row e).1 (take_sends k.setup k.sizes (readings_in k) task seq request row e) is
can_ask k at (c.Arrived packet) row opened e is = tt
can_ask k at (c.Broke why) row opened e is = tt
can_ask k at c.Tick row opened e is = tt
can_ask k at c.GaveUp row opened e is = tt
can_ask k at c.Finish row opened e is = tt

-- ---- Renewals

ended_keeps : (command : Pending) (request : Request) (outcome : Outcome) (k : Routing) → (routing_ended command request outcome k).renewals ≡ k.renewals
ended_keeps command (requests.Publish qos topic payload) outcome k = refl
ended_keeps command (requests.Subscribe asks) outcome k = subscribe_keeps command.id outcome
  where
    lost_or : (id : ℕ) (codes : List ℕ) (b : Bool) → (if b then granted id codes k else lost id k).renewals ≡ k.renewals
    lost_or id codes true = found (find (has_asked id) k.asked)
      where
        found : (a : Option Asked) → (granted_to id a codes k).renewals ≡ k.renewals
        found None = refl
        found (Some a) = refl
    lost_or id codes false = refl

    subscribe_keeps : (id : ℕ) (outcome : Outcome) → (subscribe_ended id outcome k).renewals ≡ k.renewals
    subscribe_keeps id o.Done = refl
    subscribe_keeps id (o.Granted codes) = lost_or id codes (is_count (asked_len id k) (length codes))
    subscribe_keeps id o.NoRoom = refl
    subscribe_keeps id o.NoRoute = refl
    subscribe_keeps id o.NotConnected = refl
    subscribe_keeps id o.LinkLost = refl
    subscribe_keeps id o.SessionLost = refl
    subscribe_keeps id o.Cancelled = refl
    subscribe_keeps id o.NoMemory = refl
ended_keeps command (requests.Unsubscribe filters) outcome k = go (is_done outcome)
  where
    go : (b : Bool) → (if b then filters_dropped command.task filters k else k).renewals ≡ k.renewals
    go true = refl
    go false = refl
ended_keeps command requests.Ping outcome k = refl
ended_keeps command requests.Disconnect outcome k = refl
ended_keeps command requests.Terminate outcome k = refl
ended_keeps command requests.Leave outcome k = refl

one_keeps : (b : Books) (effect : Effect) → (ended b effect).routing.renewals ≡ b.routing.renewals
one_keeps b (f.Send packet) = refl
one_keeps b (f.Done task seq outcome) = go (find (is_command task seq) b.pending)
  where
    go : (found : Option Pending) → (ended_with outcome b found).routing.renewals ≡ b.routing.renewals
    go None = refl
    go (Some command) = ended_keeps command command.request outcome b.routing
one_keeps b (f.Pass task message) = refl
one_keeps b (f.Closed task) = refl

all_keep : (b : Books) (effects : List Effect) → (all_ended b effects).routing.renewals ≡ b.routing.renewals
all_keep b [] = refl
all_keep b (effect ∷ effects) = all_keep (ended b effect) effects ∙ one_keeps b effect

lost_keeps : (lost : Bool) (k : Routing) → (routing_lost lost k).renewals ≡ k.renewals
lost_keeps true k = refl
lost_keeps false k = refl

taken_keeps : (task seq : ℕ) (request : Request) (effects : List Effect) (k : Routing) → (taken_by task seq request effects k).renewals ≡ k.renewals
taken_keeps task seq (requests.Publish qos topic payload) effects k = refl
taken_keeps task seq (requests.Subscribe asks) effects k = refl
taken_keeps task seq (requests.Unsubscribe filters) effects k = go (list_any is_done (outcomes_in task seq effects))
  where
    go : (b : Bool) → (if b then filters_dropped task filters k else k).renewals ≡ k.renewals
    go true = refl
    go false = refl
taken_keeps task seq requests.Ping effects k = refl
taken_keeps task seq requests.Disconnect effects k = refl
taken_keeps task seq requests.Terminate effects k = refl
taken_keeps task seq requests.Leave effects k = refl

asked_keeps : (task : ℕ) (request : Request) (opened : List Pending) (k : Routing) → (asked_by task request opened k).renewals ≡ k.renewals
asked_keeps task (requests.Publish qos topic payload) opened k = refl
asked_keeps task (requests.Subscribe asks) [] k = refl
asked_keeps task (requests.Subscribe asks) (command ∷ commands) k = refl
asked_keeps task (requests.Unsubscribe filters) opened k = refl
asked_keeps task requests.Ping opened k = refl
asked_keeps task requests.Disconnect opened k = refl
asked_keeps task requests.Terminate opened k = refl
asked_keeps task requests.Leave opened k = refl

fewer : (p : Renewal → Bool) (renewals : List Renewal) → length (filter p renewals) ≤ length renewals
fewer p [] = omega arith
fewer p (renewal ∷ renewals) = go (p renewal) refl (fewer p renewals)
  where
    go : (b : Bool) → p renewal ≡ b → length (filter p renewals) ≤ length renewals → length (filter p (renewal ∷ renewals)) ≤ length (renewal ∷ renewals)
    go true e rest = rw e (omega (arith, rest))
    go false e rest = rw e (omega (arith, rest))

answered_few : (id : ℕ) (codes : List ℕ) (k : Routing) → length (renewal_answered id codes k).renewals ≤ length k.renewals
answered_few id codes k = go (is_count (renewal_len id k) (length codes))
  where
    found : (renewal : Option Renewal) → length (renewal_granted_to id renewal codes k).renewals ≤ length k.renewals
    found None = omega arith
    found (Some renewal) = fewer (λ other. not (is_renewal id other)) k.renewals

    go : (b : Bool) → length (if b then renewal_granted id codes k else k).renewals ≤ length k.renewals
    go true = found (find (is_renewal id) k.renewals)
    go false = omega arith

while_few : (phase : Phase) (asks : List Ask) (most : ℕ) → length asks ≤ most → length (while_opening phase asks) ≤ most
while_few Down asks most few = omega arith
while_few Opening asks most few = few
while_few Up asks most few = omega arith
while_few Spilled asks most few = omega arith
while_few Off asks most few = omega arith

packet_few : (k : Kept) (packet : Packet) (row : Row) (most : ℕ) → arrived_row k.setup k.sizes (readings_in k) packet ≡ Some row → ((all : Bool) → length (renewable all k.routing) ≤ most) → length k.routing.renewals ≤ most
    → length (answered_by packet (asked_at packet row.effects k.routing)).renewals ≤ most
packet_few k (p.Connect clean keep_alive client will user password) row most e few now = now
packet_few k (p.ConnAck present code) row most e few now =
    connack_few k.setup k.sizes (readings_in k) most (while_few k.phase (renewable true k.routing) most (few true)) (while_few k.phase (renewable false k.routing) most (few false)) present code row e
packet_few k (p.Publish dup qos retain topic id payload) row most e few now = now
packet_few k (p.PubAck id) row most e few now = now
packet_few k (p.PubRec id) row most e few now = now
packet_few k (p.PubRel id) row most e few now = now
packet_few k (p.PubComp id) row most e few now = now
packet_few k (p.Subscribe id asks) row most e few now = now
packet_few k (p.SubAck id codes) row most e few now = let less = answered_few id codes k.routing in omega (arith, less, now)
packet_few k (p.Unsubscribe id filters) row most e few now = now
packet_few k (p.UnsubAck id) row most e few now = now
packet_few k p.PingReq row most e few now = now
packet_few k p.PingResp row most e few now = now
packet_few k p.Disconnect row most e few now = now

caused_few : (k : Kept) (at : ℕ) (cause : Cause) (row : Row) (opened : List Pending) (most : ℕ) → cause_row k.setup k.sizes (readings_in k) at cause ≡ Some row → ((all : Bool) → length (renewable all k.routing) ≤ most)
    → length k.routing.renewals ≤ most → length (routing_caused cause row.effects (routing_asked cause row.effects opened k.routing)).renewals ≤ most
caused_few k at c.Opened row opened most e few now = now
caused_few k at (c.Take task seq request) row opened most e few now =
    let same : length (taken_by task seq request row.effects (asked_by task request opened k.routing)).renewals ≡ length k.routing.renewals =
    ap length (taken_keeps task seq request row.effects (asked_by task request opened k.routing) ∙ asked_keeps task request opened k.routing) in omega (arith, same, now)
caused_few k at (c.Arrived packet) row opened most e few now = packet_few k packet row most e few now
caused_few k at (c.Broke why) row opened most e few now = omega arith
caused_few k at c.Tick row opened most e few now = now
caused_few k at c.GaveUp row opened most e few now = now
caused_few k at c.Finish row opened most e few now = now

pub renewals_few : (k : Kept) (at : ℕ) (cause : Cause) (row : Row) (opened commands : List Pending) (released : List ℕ) (most : ℕ) (lost : Bool) → cause_row k.setup k.sizes (readings_in k) at cause ≡ Some row
    → ((all : Bool) → length (renewable all k.routing) ≤ most) → length k.routing.renewals ≤ most
    → length (all_ended (books commands released (routing_lost lost (routing_caused cause row.effects (routing_asked cause row.effects opened k.routing)))) row.effects).routing.renewals ≤ most
renewals_few k at cause row opened commands released most lost e few now =
    let caused = routing_caused cause row.effects (routing_asked cause row.effects opened k.routing) in
    let same : length (all_ended (books commands released (routing_lost lost caused)) row.effects).routing.renewals ≡ length caused.renewals =
    ap length (all_keep (books commands released (routing_lost lost caused)) row.effects ∙ lost_keeps lost caused) in
    let most_are = caused_few k at cause row opened most e few now in
    omega (arith, same, most_are)

-- ---- All of it

-- what the state is known to be
pub record IsKept (k : Kept) : Type 0 where
  pub takes : length k.takes ≡ k.setup.tasks
  pub left : length k.left ≡ k.setup.tasks
  pub drawn : k.last_drawn ≤ 65535
  pub acks : k.sizes.acks ≤ 1024
  pub routes : k.sizes.routes ≤ 1024
  pub pending : length k.pending ≤ k.sizes.acks
  pub renewals : length k.routing.renewals ≤ k.sizes.routes
  pub renewable : (all : Bool) → length (renewable all k.routing) ≤ k.sizes.routes

-- and what its entry needs
pub record IsReady (k : Kept) (cause : Cause) (effects : List Effect) (opened : Option Pending) : Type 0 where
  pub asks : CanAsk k.sizes.routes k.routing cause (as_list opened)
  pub holds : CanHold cause effects k.sizes.inbound k.held
  pub opens : CanOpen k.sizes.acks k.pending opened
  pub range : InRange cause (length k.takes) (length k.left)
  pub few : (commands : List Pending) (released : List ℕ) (lost : Bool)
      → length (all_ended (books commands released (routing_lost lost (routing_caused cause effects (routing_asked cause effects (as_list opened) k.routing)))) effects).routing.renewals ≤ k.sizes.routes

pub used_few : (k : Kept) → IsKept k → length (used_in k) < 65535
used_few k kept =
    let sum = length-append (map (λ command. command.id) k.pending) (map (λ renewal. renewal.id) k.routing.renewals) in
    let one : length (map (λ command. command.id) k.pending) ≡ length k.pending = length-map k.pending (λ command. command.id) in
    let two : length (map (λ renewal. renewal.id) k.routing.renewals) ≡ length k.routing.renewals = length-map k.routing.renewals (λ renewal. renewal.id) in
    let a = kept.acks in let b = kept.routes in let c = kept.pending in let d = kept.renewals in
    omega (arith, sum, one, two, a, b, c, d)

pub ready : (k : Kept) (at : ℕ) (cause : Cause) (row : Row) (effects : List Effect) (opened : Option Pending) → IsKept k → cause_row k.setup k.sizes (readings_in k) at cause ≡ Some row → effects ≡ row.effects
    → as_list opened ≡ opens cause effects → IsReady k cause effects opened
ready k at cause row effects opened kept e same is =
    let its = is ∙ ap (opens cause) same in
    subst (λ (es : List Effect). IsReady k cause es opened) (sym same) (record {
      asks = can_ask k at cause row opened e its;
      holds = can_hold k at cause row e;
      opens = can_open k at cause row opened e its kept.drawn (used_few k kept);
      range = in_range k at cause row kept.takes kept.left e;
      few = λ commands released lost. renewals_few k at cause row (as_list opened) commands released k.sizes.routes lost e kept.renewable kept.renewals;
    })

pub takes_length : (cause : Cause) (takes next : List ℕ) (n : ℕ) → length takes ≡ n → next ≡ takes_with cause takes → length next ≡ n
takes_length cause takes next n size e = ap length e ∙ go cause ∙ size
  where
    go : (cause : Cause) → length (takes_with cause takes) ≡ length takes
    go c.Opened = refl
    go (c.Take task seq request) = length-set takes task (seq + 1)
    go (c.Arrived packet) = refl
    go (c.Broke why) = refl
    go c.Tick = refl
    go c.GaveUp = refl
    go c.Finish = refl

pub left_length : (cause : Cause) (left next : List Bool) (n : ℕ) → length left ≡ n → next ≡ left_with cause left → length next ≡ n
left_length cause left next n size e = ap length e ∙ go cause ∙ size
  where
    one : (b : Bool) (task : ℕ) → length (if b then slice_set left task true else left) ≡ length left
    one true task = length-set left task true
    one false task = refl

    go : (cause : Cause) → length (left_with cause left) ≡ length left
    go c.Opened = refl
    go (c.Take task seq request) = one (is_leave request) task
    go (c.Arrived packet) = refl
    go (c.Broke why) = refl
    go c.Tick = refl
    go c.GaveUp = refl
    go c.Finish = refl

pub still_few : (k : Kept) (cause : Cause) (effects : List Effect) (opened : Option Pending) (asked : Routing) (commands : List Pending) (released : List ℕ) (lost : Bool) (now : Books) → IsReady k cause effects opened
    → asked ≡ routing_asked cause effects (as_list opened) k.routing → now ≡ all_ended (books commands released (routing_lost lost (routing_caused cause effects asked))) effects → length now.routing.renewals ≤ k.sizes.routes
still_few k cause effects opened asked commands released lost now its is_asked is =
    let few = its.few commands released lost in
    let same : length now.routing.renewals ≡ length (all_ended (books commands released (routing_lost lost (routing_caused cause effects (routing_asked cause effects (as_list opened) k.routing)))) effects).routing.renewals =
    ap (λ (b : Books). length b.routing.renewals) (is ∙ ap (λ (r : Routing). all_ended (books commands released (routing_lost lost (routing_caused cause effects r))) effects) is_asked) in
    omega (arith, few, same)
