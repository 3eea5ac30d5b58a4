-- No more commands are open than there is room for, and there are no more routes: a Take looks for room, and routes come only
-- from what is asked for.
use Rattle.std.proofs.Common.{◌≡◌, ◌⊎◌, ℕ, ◌+◌, ◌≤◌, Bool, true, false, cond, List, [], ◌∷◌, ◌++◌, map, filter, length, Option, Some, None, refl, sym, ap, ◌∙◌, subst, arith}
use Rattle.std.specs.Prelude.{◌||◌, not, nat_lt, nat_le}
use Rattle.std.specs.List.{flat_map, IsDistinct}
use Rattle.std.proofs.lemmas.Bool.{leb-false, ltb-false}
use Rattle.std.proofs.lemmas.List.{append-nil, length-append}
use Rattle.std.proofs.lemmas.Grind.{flat_map-append}
use mathlib.Core.Logic.{inl, inr}
use Rattle.mqtt_packet.specs.declared.qos.Qos.{Qos}
use Rattle.mqtt_packet.specs.declared.qos.Qos.TheVariants.{AtMostOnce, AtLeastOnce, ExactlyOnce}
use Rattle.mqtt_packet.specs.declared.packet.Packet.TheVariants as p
use Rattle.mqtt_packet.specs.declared.will.Ask.{Ask}
use Rattle.agent_journal.specs.declared.request.Request.{Request}
use Rattle.agent_journal.specs.declared.request.Request.TheVariants as requests
use Rattle.agent_journal.specs.declared.outcome.Outcome.TheVariants as o
use Rattle.agent_journal.specs.declared.entry.Cause.{Cause}
use Rattle.agent_journal.specs.declared.entry.Cause.TheVariants as c
use Rattle.agent_journal.specs.declared.entry.Entry.{Entry}
use Rattle.agent_journal.specs.declared.effect.Effect.{Effect}
use Rattle.agent_journal.specs.declared.effect.Effect.TheVariants as f
use Rattle.agent_journal.specs.declared.setup.Setup.{Setup}
use Rattle.agent_journal.specs.declared.setup.Phase.{Phase}
use Rattle.agent_journal.specs.declared.setup.Phase.TheVariants.{Down, Opening, Up, Spilled, Off}
use Rattle.agent_journal.specs.Readings.{Pending, pending_of, has_left, leaves_by, opens, opened_by, sent_filters, sent_id, stays_open}
use Rattle.agent_table.specs.Effects.{close}
use Rattle.agent_table.specs.Filters.{is_one_of}
use Rattle.agent_table.specs.Histories.{IsLegalPast, readings, row, effects_of}
use Rattle.agent_table.specs.Readings.{Readings, unless_off}
use Rattle.agent_table.specs.Routes.{Route, route, has_route, with_routes, renewals_of, coded, codes_by, outcomes_in, granted_in, refused_in, asks_in, routes_to, dropped_by, renewed, without, without_filters, granted_of, asked_for, routes_of}
use Rattle.agent_table.specs.Rows.{Row, when}
use Rattle.agent_table.specs.Sizes.{Sizes}
use Rattle.agent_table.specs.Table.{row_of}
use Rattle.agent_table.specs.Takes as takes
use Rattle.agent_table.proofs.Openings.{done_draws, none_closed}
use Rattle.agent_table.proofs.SoundRows.{few_kept}
use Rattle.agent_table.proofs.RouteLists.{Has, same, has_front, has_back, has_either, has_kept, kept_has, has_put, put_has, none_once, once_kept, once_put, no_longer}

-- ---- What a Take opens

module _ (l : Sizes) (r : Readings) where
  -- what a subscribe asks for has its routes
  abbrev HasRoutes : ℕ → Request → Type 0
  HasRoutes task (requests.Publish qos topic payload) = Unit {0}
  HasRoutes task (requests.Subscribe asks) = (r.phase ≡ Up) × (nat_lt l.routes (length (takes.routes_with r task asks)) ≡ false)
  HasRoutes task (requests.Unsubscribe filters) = Unit {0}
  HasRoutes task requests.Ping = Unit {0}
  HasRoutes task requests.Disconnect = Unit {0}
  HasRoutes task requests.Terminate = Unit {0}
  HasRoutes task requests.Leave = Unit {0}

  -- the effects open nothing, or there is room
  abbrev Fits : ℕ → Request → List Effect → Type 0
  Fits task request effects = (sent_id effects ≡ None) ⊎ ((takes.is_full l r ≡ false) × HasRoutes task request)

  abbrev FitsRow : ℕ → Request → Option Row → Type 0
  FitsRow task request None = Unit {0}
  FitsRow task request (Some found) = Fits task request found.effects

  fits_when : (task : ℕ) (request : Request) (b : Bool) (found : Option Row) → FitsRow task request found → FitsRow task request (when b found)
  fits_when task request true found h = h
  fits_when task request false found h = tt

  fits_if : (task : ℕ) (request : Request) (b : Bool) (x y : List Effect) → sent_id x ≡ None → (b ≡ false → Fits task request y) → Fits task request (cond b x y)
  fits_if task request true x y h k = inl h
  fits_if task request false x y h k = k refl

  fits_publish : (task seq : ℕ) (qos : Qos) (topic payload : List ℕ) → FitsRow task (requests.Publish qos topic payload) (takes.publish_row l r task seq qos topic payload)
  unfolding takes.publish_row
  fits_publish task seq AtMostOnce topic payload = inl refl
  fits_publish task seq AtLeastOnce topic payload = fits_if task (requests.Publish AtLeastOnce topic payload) (takes.is_full l r) (takes.at_once task seq o.NoRoom) _ refl (λ room. inr (room, tt))
  fits_publish task seq ExactlyOnce topic payload = fits_if task (requests.Publish ExactlyOnce topic payload) (takes.is_full l r) (takes.at_once task seq o.NoRoom) _ refl (λ room. inr (room, tt))

  fits_unsubscribed : (task seq : ℕ) (all filters : List (List ℕ)) → Fits task (requests.Unsubscribe all) (takes.unsubscribed l r task seq filters)
  fits_unsubscribed task seq all [] = inl refl
  fits_unsubscribed task seq all (topics ∷ filters) = fits_if task (requests.Unsubscribe all) (takes.is_full l r) (takes.at_once task seq o.NoRoom) _ refl (λ room. inr (room, tt))

  fits_disconnect : (s : Setup) (task seq : ℕ) (request : Request) → FitsRow task request (takes.disconnect_row s r task seq)
  unfolding takes.disconnect_row
  fits_disconnect s task seq request = inl (done_draws o.Cancelled r.pending (f.Send p.Disconnect ∷ f.Done task seq o.Done ∷ close s r) ∙ none_closed s.tasks r.left)

  fits_up : (s : Setup) (task seq : ℕ) (request : Request) → r.phase ≡ Up → FitsRow task request (takes.up_row s l r task seq request)
  unfolding takes.subscribe_row takes.unsubscribe_row
  fits_up s task seq (requests.Publish qos topic payload) up = fits_publish task seq qos topic payload
  fits_up s task seq (requests.Subscribe asks) up =
      fits_if task (requests.Subscribe asks) (takes.is_full l r) (takes.at_once task seq o.NoRoom) _ refl
      (λ room. fits_if task (requests.Subscribe asks) (nat_lt l.routes (length (takes.routes_with r task asks))) (takes.at_once task seq o.NoRoute) _ refl (λ few. inr (room, (up, few))))
  fits_up s task seq (requests.Unsubscribe filters) up = fits_unsubscribed task seq filters (takes.own_filters r task filters)
  fits_up s task seq requests.Ping up = inl refl
  fits_up s task seq requests.Disconnect up = fits_disconnect s task seq requests.Disconnect
  fits_up s task seq requests.Terminate up = fits_disconnect s task seq requests.Terminate
  fits_up s task seq requests.Leave up = inl refl

  fits_off : (task seq : ℕ) (request : Request) → FitsRow task request (takes.off_row r task seq request)
  fits_off task seq (requests.Publish qos topic payload) = inl refl
  fits_off task seq (requests.Subscribe asks) = inl refl
  fits_off task seq (requests.Unsubscribe filters) = inl refl
  fits_off task seq requests.Ping = inl refl
  fits_off task seq requests.Disconnect = inl refl
  fits_off task seq requests.Terminate = inl refl
  fits_off task seq requests.Leave = inl refl

  fits_in : (s : Setup) (task seq : ℕ) (request : Request) (phase : Phase) → r.phase ≡ phase → FitsRow task request (takes.take_in s l r task seq request phase)
  fits_in s task seq request Down is = tt
  fits_in s task seq request Opening is = tt
  fits_in s task seq request Up is = fits_up s task seq request is
  fits_in s task seq request Spilled is = tt
  fits_in s task seq request Off is = fits_off task seq request

  fits : (s : Setup) (time task seq : ℕ) (request : Request) → FitsRow task request (row_of s l r time (c.Take task seq request))
  unfolding row_of takes.take_row
  fits s time task seq request =
      let inner = takes.take_in s l r task seq request r.phase in
      fits_when task request (nat_le r.last_time time) (when (takes.may_take s r task seq request) inner) (fits_when task request (takes.may_take s r task seq request) inner (fits_in s task seq request r.phase refl))

  fits_effects : (task : ℕ) (request : Request) (found : Option Row) (effects : List Effect) → effects_of found ≡ Some effects → FitsRow task request found → Fits task request effects
  fits_effects task request None effects e h = absurd (cc e)
  fits_effects task request (Some found) effects e h = let is : found.effects ≡ effects = cc in subst (Fits task request) is h

-- ---- Open commands

-- what an entry opens, with its room
record Opens (l : Sizes) (r : Readings) (opened : List Pending) : Type 0 where
  few : length r.pending ≤ l.acks → length r.pending + length opened ≤ l.acks
  routes : (length (asked_for opened) ≡ 0) ⊎ ((task : ℕ) × (asks : List Ask) × (r.phase ≡ Up) × (length (takes.routes_with r task asks) ≤ l.routes) × (asked_for opened ≡ map (λ ask. route task ask.filter) asks))

none_opened : (l : Sizes) (r : Readings) → Opens l r []
none_opened l r = record { few = λ h. omega (arith, h); routes = inl refl }

one_opened : (l : Sizes) (r : Readings) (task seq : ℕ) (request : Request) (names : List (List ℕ)) (id : Option ℕ) → takes.is_full l r ≡ false → HasRoutes l r task request → Opens l r (opened_by task seq request names id)
one_opened l r task seq request names None room has = none_opened l r
one_opened l r task seq request names (Some id) room has = record { few = λ h. (let less = leb-false l.acks (length r.pending) room in omega (arith, less)); routes = by request has }
  where
    by : (asked : Request) → HasRoutes l r task asked → (length (asked_for (record { id = id; task = task; seq = seq; request = asked; sent_filters = names } ∷ [])) ≡ 0)
        ⊎ ((t : ℕ) × (asks : List Ask) × (r.phase ≡ Up) × (length (takes.routes_with r t asks) ≤ l.routes) × (asked_for (record { id = id; task = task; seq = seq; request = asked; sent_filters = names } ∷ []) ≡ map (λ ask. route t ask.filter) asks))
    by (requests.Publish qos topic payload) has = inl refl
    by (requests.Subscribe asks) has = inr (task, asks, has.0, ltb-false l.routes (length (takes.routes_with r task asks)) has.1, append-nil (map (λ ask. route task ask.filter) asks))
    by (requests.Unsubscribe filters) has = inl refl
    by requests.Ping has = inl refl
    by requests.Disconnect has = inl refl
    by requests.Terminate has = inl refl
    by requests.Leave has = inl refl

take_opened : (l : Sizes) (r : Readings) (task seq : ℕ) (request : Request) (effects : List Effect) → Fits l r task request effects → Opens l r (opened_by task seq request (sent_filters effects) (sent_id effects))
take_opened l r task seq request effects (inl none) = subst (λ (id : Option ℕ). Opens l r (opened_by task seq request (sent_filters effects) id)) (sym none) (none_opened l r)
take_opened l r task seq request effects (inr (room, has)) = one_opened l r task seq request (sent_filters effects) (sent_id effects) room has

entry_opens : (s : Setup) (l : Sizes) (r : Readings) (time : ℕ) (cause : Cause) (effects : List Effect) → effects_of (row_of s l r time cause) ≡ Some effects → Opens l r (opens cause effects)
entry_opens s l r time c.Opened effects e = none_opened l r
entry_opens s l r time (c.Take task seq request) effects e = take_opened l r task seq request effects (fits_effects l r task request (row_of s l r time (c.Take task seq request)) effects e (fits l r s time task seq request))
entry_opens s l r time (c.Arrived packet) effects e = none_opened l r
entry_opens s l r time (c.Broke why) effects e = none_opened l r
entry_opens s l r time c.Tick effects e = none_opened l r
entry_opens s l r time c.GaveUp effects e = none_opened l r
entry_opens s l r time c.Finish effects e = none_opened l r

-- ---- Where routes come from

asked_kept : (keeps : Pending → Bool) (commands : List Pending) (r : Route) → Has r (asked_for (filter keeps commands)) → Has r (asked_for commands)
asked_kept keeps [] r h = h
asked_kept keeps (command ∷ commands) r h = by (keeps command) h (asked_kept keeps commands r)
  where
    own : List Route
    own = map (λ ask. route command.task ask.filter) (asks_in command.request)

    first : (Has r (asked_for (filter keeps commands)) → Has r (asked_for commands)) → Has r own ⊎ Has r (asked_for (filter keeps commands)) → Has r (own ++ asked_for commands)
    first rest (inl k) = has_front own (asked_for commands) r k
    first rest (inr k) = has_back own (asked_for commands) r (rest k)

    by : (b : Bool) → Has r (asked_for (cond b (command ∷ filter keeps commands) (filter keeps commands))) → (Has r (asked_for (filter keeps commands)) → Has r (asked_for commands)) → Has r (own ++ asked_for commands)
    by true k rest = first rest (has_either own (asked_for (filter keeps commands)) r k)
    by false k rest = has_back own (asked_for commands) r (rest k)

asked_either : (commands others : List Pending) (r : Route) → Has r (asked_for (commands ++ others)) → Has r (asked_for commands) ⊎ Has r (asked_for others)
asked_either commands others r h =
    has_either (asked_for commands) (asked_for others) r (subst (λ (rs : List Route). Has r rs) (flat_map-append (λ (command : Pending). map (λ ask. route command.task ask.filter) (asks_in command.request)) commands others) h)

one_granted : (task : ℕ) (asks : List Ask) (codes : List ℕ) (r : Route) → Has r (map (route task) (granted_in (coded asks codes))) → Has r (map (λ ask. route task ask.filter) asks)
one_granted task [] codes r h = absurd h
one_granted task (ask ∷ asks) [] r h = absurd h
one_granted task (ask ∷ asks) (code ∷ codes) r h = by (nat_lt code 128) h (one_granted task asks codes r)
  where
    by : (b : Bool) → Has r (map (route task) (map (λ pair. pair.0) (cond b ((ask.filter, code) ∷ filter (λ (pair : List ℕ × ℕ). nat_lt pair.1 128) (coded asks codes)) (filter (λ (pair : List ℕ × ℕ). nat_lt pair.1 128) (coded asks codes)))))
        → (Has r (map (route task) (granted_in (coded asks codes))) → Has r (map (λ other. route task other.filter) asks)) → Has r (map (λ other. route task other.filter) (ask ∷ asks))
    by true (inl is) rest = inl is
    by true (inr k) rest = inr (rest k)
    by false k rest = inr (rest k)

granted_asked : (effects : List Effect) (commands : List Pending) (r : Route) → Has r (flat_map (routes_to effects) commands) → Has r (asked_for commands)
granted_asked effects [] r h = h
granted_asked effects (command ∷ commands) r h = by (has_either (routes_to effects command) (flat_map (routes_to effects) commands) r h) (granted_asked effects commands r)
  where
    own : List Route
    own = map (λ ask. route command.task ask.filter) (asks_in command.request)

    by : Has r (routes_to effects command) ⊎ Has r (flat_map (routes_to effects) commands) → (Has r (flat_map (routes_to effects) commands) → Has r (asked_for commands)) → Has r (own ++ asked_for commands)
    by (inl k) rest = has_front own (asked_for commands) r (one_granted command.task (asks_in command.request) (flat_map codes_by (outcomes_in command.task command.seq effects)) r k)
    by (inr k) rest = has_back own (asked_for commands) r (rest k)

stays_off : (a b : Bool) → not (a || b) ≡ true → not b ≡ true
stays_off true b e = absurd (cc e)
stays_off false b e = e

-- a route was there before, or is asked for now
routes_come : (e : Entry) (past : List Entry) (r : Route) → Has r (routes_of (e ∷ past)) → Has r (routes_of past) ⊎ Has r (asked_for (opens e.cause e.effects))
routes_come e past r h = first (has_put granted asked r two.0)
  where
    granted : List Route
    granted = granted_of (e ∷ past)

    asked : List Route
    asked = asked_for (pending_of (e ∷ past))

    two : Has r (with_routes granted asked) × (not (has_left r.task (e ∷ past)) ≡ true)
    two = has_kept (λ (x : Route). not (has_left x.task (e ∷ past))) (with_routes granted asked) r h

    there : Has r (granted_of past) ⊎ Has r (asked_for (pending_of past)) → Has r (routes_of past)
    there k = kept_has (λ (x : Route). not (has_left x.task past)) (with_routes (granted_of past) (asked_for (pending_of past))) r (put_has (granted_of past) (asked_for (pending_of past)) r k) (stays_off (leaves_by r.task e.cause) (has_left r.task past) two.1)

    kept : List Route
    kept = without (dropped_by e.cause e.effects (pending_of past)) (granted_of past)

    sure : List Route
    sure = without_filters (refused_in (renewed e.cause (renewals_of past))) kept

    by_granted : Has r sure ⊎ Has r (flat_map (routes_to e.effects) (pending_of past)) → Has r (routes_of past)
    by_granted (inl k) = there (inl (has_kept _ (granted_of past) r (has_kept _ kept r k).0).0)
    by_granted (inr k) = there (inr (granted_asked e.effects (pending_of past) r k))

    by_asked : Has r (asked_for (pending_of past)) ⊎ Has r (asked_for (opens e.cause e.effects)) → Has r (routes_of past) ⊎ Has r (asked_for (opens e.cause e.effects))
    by_asked (inl k) = inl (there (inr k))
    by_asked (inr k) = inr k

    first : Has r granted ⊎ Has r asked → Has r (routes_of past) ⊎ Has r (asked_for (opens e.cause e.effects))
    first (inl k) = inl (by_granted (has_put sure (flat_map (routes_to e.effects) (pending_of past)) r k))
    first (inr k) = by_asked (asked_either (pending_of past) (opens e.cause e.effects) r (asked_kept (stays_open e.effects) (pending_of past ++ opens e.cause e.effects) r k))

granted_once : (past : List Entry) → IsDistinct same (granted_of past)
granted_once [] = none_once
granted_once (e ∷ past) =
    let dropped = dropped_by e.cause e.effects (pending_of past) in
    once_put (without_filters (refused_in (renewed e.cause (renewals_of past))) (without dropped (granted_of past))) (flat_map (routes_to e.effects) (pending_of past))
    (once_kept (λ (x : Route). not (is_one_of (refused_in (renewed e.cause (renewals_of past))) x.topics)) (without dropped (granted_of past)) (once_kept (λ (x : Route). not (has_route dropped x)) (granted_of past) (granted_once past)))

routes_once : (past : List Entry) → IsDistinct same (routes_of past)
routes_once past = once_kept (λ (x : Route). not (has_left x.task past)) (with_routes (granted_of past) (asked_for (pending_of past))) (once_put (granted_of past) (asked_for (pending_of past)) (granted_once past))

-- ---- How many routes and commands there are

empty_has : (routes : List Route) (r : Route) → length routes ≡ 0 → Has r routes → ⊥
empty_has [] r e h = h
empty_has (x ∷ routes) r e h = omega (arith, e)

pub record Few (s : Setup) (l : Sizes) (past : List Entry) : Type 0 where
  pub pending : length (pending_of past) ≤ l.acks
  pub routes : length (routes_of past) ≤ l.routes

few_on : (s : Setup) (l : Sizes) (past : List Entry) (e : Entry) → Few s l past → effects_of (row s l past e.at e.cause) ≡ Some e.effects → Few s l (e ∷ past)
few_on s l past e few legal = record { pending = omega (arith, kept, both_lengths, room); routes = by its.routes }
  where
    r : Readings
    r = readings s l past

    its : Opens l r (opens e.cause e.effects)
    its = entry_opens s l r e.at e.cause e.effects legal

    kept : length (pending_of (e ∷ past)) ≤ length (pending_of past ++ opens e.cause e.effects)
    kept = few_kept (stays_open e.effects) (pending_of past ++ opens e.cause e.effects)

    both_lengths : length (pending_of past ++ opens e.cause e.effects) ≡ length (pending_of past) + length (opens e.cause e.effects)
    both_lengths = length-append (pending_of past) (opens e.cause e.effects)

    room : length (pending_of past) + length (opens e.cause e.effects) ≤ l.acks
    room = its.few few.pending

    by : (length (asked_for (opens e.cause e.effects)) ≡ 0) ⊎ ((task : ℕ) × (asks : List Ask) × (r.phase ≡ Up) × (length (takes.routes_with r task asks) ≤ l.routes) × (asked_for (opens e.cause e.effects) ≡ map (λ ask. route task ask.filter) asks))
        → length (routes_of (e ∷ past)) ≤ l.routes
    by (inl none) = let less = no_longer (routes_of (e ∷ past)) (routes_of past) (routes_once (e ∷ past)) (λ q h. old q (routes_come e past q h)) in let most = few.routes in omega (arith, less, most)
      where
        old : (q : Route) → Has q (routes_of past) ⊎ Has q (asked_for (opens e.cause e.effects)) → Has q (routes_of past)
        old q (inl k) = k
        old q (inr k) = absurd (empty_has (asked_for (opens e.cause e.effects)) q none k)
    by (inr (task, asks, up, most, is)) = let less = no_longer (routes_of (e ∷ past)) (takes.routes_with r task asks) (routes_once (e ∷ past)) (λ q h. new q (routes_come e past q h)) in omega (arith, less, most)
      where
        asked : List Route
        asked = map (λ ask. route task ask.filter) asks

        routes_up : r.routes ≡ routes_of past
        routes_up = ap (λ (phase : Phase). unless_off phase (routes_of past)) up

        new : (q : Route) → Has q (routes_of past) ⊎ Has q (asked_for (opens e.cause e.effects)) → Has q (takes.routes_with r task asks)
        new q (inl k) = put_has (with_routes [] r.routes) asked q (inl (put_has [] r.routes q (inr (subst (λ (rs : List Route). Has q rs) (sym routes_up) k))))
        new q (inr k) = put_has (with_routes [] r.routes) asked q (inr (subst (λ (rs : List Route). Has q rs) is k))

pub few : (s : Setup) (l : Sizes) (past : List Entry) → IsLegalPast s l past → Few s l past
few s l [] legal = record { pending = omega arith; routes = omega arith }
few s l (e ∷ past) legal = few_on s l past e (few s l past legal.1) legal.0
