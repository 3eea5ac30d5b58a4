-- That the SUBACK of an open subscribe keeps what is true of the routes at every moment.
use Rattle.std.proofs.Common.{sym, ◌∙◌, ◌≡◌, ◌<◌, ◌≤◌, ◌==◌, ℕ, zero, suc, Bool, true, false, not, ◌&&◌, ◌||◌, nat_lt, List, [], ◌∷◌, ◌++◌, map, take, drop, length, get_or, Some, None, inl, inr, refl, ap, subst, arith}
use Rattle.std.specs.List.{list_any, list_all, filter, find, remove, position, position_or_len}
use Rattle.std.specs.Str.{bytes_eq}
use Rattle.std.proofs.lemmas.List.{length-append, length-map}
use Rattle.std.proofs.lemmas.List.Folds.{list_all-append, list_any_at, find_at}
use Rattle.std.proofs.lemmas.Bool.{lt-ltb}
use Rattle.std.proofs.lemmas.Option.{slice_get_cases}
use Rattle.std.proofs.lemmas.List.Quantifiers.{position-Some}
use Rattle.mqtt_packet.specs.declared.will.Ask.{Ask}
use Rattle.mqtt_packet.specs.declared.qos.Qos.TheVariants.{AtMostOnce}
use Rattle.agent_table.specs.Filters.{is_one_of}
use Rattle.agent_table.specs.Routes.{Route, route, is_route, has_route, with_route, with_routes, coded, granted_in, last_asked, or_earlier}
use Rattle.topic_filter.specs.Texts.{is_filter}
use Rattle.subscriptions.specs.Routing.{Granted, Asked, route_of, has_id, settled, settled_before, renewed_as, with_granted, with_all_granted, granted_by, granted, Routing}
use Rattle.subscriptions.specs.Rooms.{IsSound, routes_with, asked_routes, each_once, are_filters}
use Rattle.subscriptions.specs.Parts.{settled_by}
use Rattle.subscriptions.proofs.Bools.{left_true, right_true, both_true, either, or_left, or_right}
use Rattle.subscriptions.proofs.Lists.{any-map, all_at}
use Rattle.subscriptions.proofs.Sets.{any_with_all, once_with_all, once_more}
use Rattle.subscriptions.proofs.Reached.{any_factor}
use Rattle.subscriptions.proofs.Counts.{with_longer}
use Rattle.subscriptions.proofs.Keeping.{kept, kept_changed, granted_as, asked_as}

-- ---- The place of the subscribe

settled_at : (id : ℕ) (filters : List (List ℕ)) (asks : List Ask) (asked : List Asked) (i : ℕ) (d : Asked) → i < length asked → has_id id (get_or asked i d) ≡ true → ((k : ℕ) → k < i → has_id id (get_or asked k d) ≡ false)
    → map (settled_by filters asks) (take i (remove asked i)) ++ drop i (remove asked i) ≡ settled_before id filters asks asked
settled_at id filters asks [] i d inside hit before = absurd (omega arith)
settled_at id filters asks (a ∷ others) zero d inside hit before = rw hit refl
settled_at id filters asks (a ∷ others) (suc i) d inside hit before =
    let miss : has_id id a ≡ false = before 0 (omega arith) in
    rw miss (ap (λ l. settled_by filters asks a ∷ l) (settled_at id filters asks others i d (omega arith) hit (λ k low. before (suc k) (omega arith))))

pub settled_behind : (id : ℕ) (filters : List (List ℕ)) (asks : List Ask) (asked : List Asked) (i : ℕ) (a : Asked) → position (has_id id) asked ≡ Some i
    → map (settled_by filters asks) (take i (remove asked i)) ++ drop i (remove asked i) ≡ settled_before id filters asks asked
settled_behind id filters asks asked i a place = let first = position-Some (has_id id) asked i a place in settled_at id filters asks asked i a first.0 first.1 first.2

-- what `settle_before` leaves of the others
pub settled_place : (id : ℕ) (asked : List Asked) (i : ℕ) (a : Asked) (asks : List Ask) (codes now : List ℕ) (rest new : List Asked) → position (has_id id) asked ≡ Some i → asks ≡ a.asks → codes ≡ now → rest ≡ remove asked i
    → new ≡ map (settled_by (granted_in (coded asks codes)) asks) (take i rest) ++ drop i rest → new ≡ settled_before id (granted_in (coded a.asks now)) a.asks asked
settled_place id asked i a asks codes now rest new place own coded' removed is = (rw (own, coded', removed) at is) ∙ settled_behind id (granted_in (coded a.asks now)) a.asks asked i a place

found_at : (id : ℕ) (asked : List Asked) (i : ℕ) (d : Asked) → i < length asked → has_id id (get_or asked i d) ≡ true → ((k : ℕ) → k < i → has_id id (get_or asked k d) ≡ false) → find (has_id id) asked ≡ Some (get_or asked i d)
found_at id [] i d inside hit before = absurd (omega arith)
found_at id (a ∷ others) zero d inside hit before = rw hit refl
found_at id (a ∷ others) (suc i) d inside hit before =
    let miss : has_id id a ≡ false = before 0 (omega arith) in
    rw miss (found_at id others i d (omega arith) hit (λ k low. before (suc k) (omega arith)))

pub found_there : (id : ℕ) (asked : List Asked) (i : ℕ) (a : Asked) → position (has_id id) asked ≡ Some i → a ≡ get_or asked i a → find (has_id id) asked ≡ Some a
found_there id asked i a place is = let first = position-Some (has_id id) asked i a place in found_at id asked i a first.0 first.1 first.2 ∙ ap Some (sym is)

some≢none : {X : Type 0} (x : X) → Some x ≡ None → ⊥
some≢none x e = cc

pub none_there : (id : ℕ) (asked : List Asked) → None ≡ position (has_id id) asked → find (has_id id) asked ≡ None
none_there id asked none = elim (slice_get_cases asked (position_or_len (has_id id) asked)).1 [
  | inl h ↦ absurd (some≢none (position_or_len (has_id id) asked) (rw (lt-ltb (position_or_len (has_id id) asked) (length asked) h.1) at (sym none)))
  | inr h ↦ find_at (has_id id) asked ∙ h.1
]

-- ---- The open subscribes

settled_filter : (filters : List (List ℕ)) (asks : List Ask) (ask : Ask) → (settled filters asks ask).filter ≡ ask.filter
settled_filter filters asks ask = go (is_one_of filters ask.filter) refl
  where
    go : (b : Bool) → is_one_of filters ask.filter ≡ b → (settled filters asks ask).filter ≡ ask.filter
    go true e = rw e refl
    go false e = rw e refl

any_settled : (q : List ℕ → Bool) (filters : List (List ℕ)) (asks own : List Ask) → list_any (λ ask. q ask.filter) (map (settled filters asks) own) ≡ list_any (λ ask. q ask.filter) own
any_settled q filters asks [] = refl
any_settled q filters asks (ask ∷ own) = rw (settled_filter filters asks ask, any_settled q filters asks own) refl

all_settled : (q : List ℕ → Bool) (filters : List (List ℕ)) (asks own : List Ask) → list_all (λ ask. q ask.filter) (map (settled filters asks) own) ≡ list_all (λ ask. q ask.filter) own
all_settled q filters asks [] = refl
all_settled q filters asks (ask ∷ own) = rw (settled_filter filters asks ask, all_settled q filters asks own) refl

asked_still : (r : Route) (filters : List (List ℕ)) (asks : List Ask) (a : Asked) → asked_as r (settled_by filters asks a) ≡ asked_as r a
asked_still r filters asks a = ap (λ b. not a.left && (a.task == r.task && b)) (any_settled (λ f. bytes_eq f r.topics) filters asks a.asks)

asked_before : (r : Route) (id : ℕ) (filters : List (List ℕ)) (asks : List Ask) (asked : List Asked) → list_any (asked_as r) (settled_before id filters asks asked) ≡ true → list_any (asked_as r) asked ≡ true
asked_before r id filters asks [] any = any
asked_before r id filters asks (a ∷ others) any = go (has_id id a) refl (asked_before r id filters asks others)
  where
    go : (b : Bool) → has_id id a ≡ b → (list_any (asked_as r) (settled_before id filters asks others) ≡ true → list_any (asked_as r) others ≡ true) → list_any (asked_as r) (a ∷ others) ≡ true
    go true e rest = or_right (asked_as r a) (list_any (asked_as r) others) (rw e at any)
    go false e rest =
        either (asked_as r (settled_by filters asks a)) (list_any (asked_as r) (settled_before id filters asks others)) (rw e at any)
        (λ h. or_left (asked_as r a) (list_any (asked_as r) others) (sym (asked_still r filters asks a) ∙ h)) (λ h. or_right (asked_as r a) (list_any (asked_as r) others) (rest h))

filters_before : (id : ℕ) (filters : List (List ℕ)) (asks : List Ask) (asked : List Asked) → list_all (λ a. are_filters a.asks) asked ≡ true → list_all (λ a. are_filters a.asks) (settled_before id filters asks asked) ≡ true
filters_before id filters asks [] all = refl
filters_before id filters asks (a ∷ others) all = go (has_id id a) refl (filters_before id filters asks others (right_true (are_filters a.asks) (list_all (λ x. are_filters x.asks) others) all))
  where
    go : (b : Bool) → has_id id a ≡ b → list_all (λ x. are_filters x.asks) (settled_before id filters asks others) ≡ true → list_all (λ x. are_filters x.asks) (settled_before id filters asks (a ∷ others)) ≡ true
    go true e rest = rw e (right_true (are_filters a.asks) (list_all (λ x. are_filters x.asks) others) all)
    go false e rest =
        rw e (both_true (are_filters (map (settled filters asks) a.asks)) (list_all (λ x. are_filters x.asks) (settled_before id filters asks others))
        (all_settled is_filter filters asks a.asks ∙ left_true (are_filters a.asks) (list_all (λ x. are_filters x.asks) others) all) rest)

-- ---- The granted routes

renewed_route : (filters : List (List ℕ)) (asks : List Ask) (g : Granted) → route_of (renewed_as filters asks g) ≡ route_of g
renewed_route filters asks g = go (is_one_of filters g.topics) refl
  where
    go : (b : Bool) → is_one_of filters g.topics ≡ b → route_of (renewed_as filters asks g) ≡ route_of g
    go true e = rw e refl
    go false e = rw e refl

routes_push : (gs : List Granted) (g : Granted) → map route_of (gs ++ g ∷ []) ≡ map route_of gs ++ route_of g ∷ []
routes_push [] g = refl
routes_push (h ∷ gs) g = ap (λ l. route_of h ∷ l) (routes_push gs g)

granted_routes : (task : ℕ) (asks : List Ask) (gs : List Granted) (filter : List ℕ) → map route_of (with_granted task asks gs filter) ≡ with_route (map route_of gs) (route task filter)
granted_routes task asks gs filter = go (has_route (map route_of gs) (route task filter)) refl
  where
    go : (b : Bool) → has_route (map route_of gs) (route task filter) ≡ b → map route_of (with_granted task asks gs filter) ≡ with_route (map route_of gs) (route task filter)
    go true e = rw e refl
    go false e = rw e (routes_push gs (record { task = task; topics = filter; qos = or_earlier (last_asked asks filter) AtMostOnce; sure = true }))

all_routes : (task : ℕ) (asks : List Ask) (gs : List Granted) (filters : List (List ℕ)) → map route_of (with_all_granted task asks gs filters) ≡ with_routes (map route_of gs) (map (route task) filters)
all_routes task asks gs [] = refl
all_routes task asks gs (filter ∷ filters) = all_routes task asks (with_granted task asks gs filter) filters ∙ ap (λ (l : List Route). with_routes l (map (route task) filters)) (granted_routes task asks gs filter)

filter_granted : (task : ℕ) (asks : List Ask) (gs : List Granted) (filter : List ℕ) → list_all (λ g. is_filter g.topics) gs ≡ true → is_filter filter ≡ true → list_all (λ g. is_filter g.topics) (with_granted task asks gs filter) ≡ true
filter_granted task asks gs filter all own = go (has_route (map route_of gs) (route task filter)) refl
  where
    new : Granted
    new = record { task = task; topics = filter; qos = or_earlier (last_asked asks filter) AtMostOnce; sure = true }

    go : (b : Bool) → has_route (map route_of gs) (route task filter) ≡ b → list_all (λ g. is_filter g.topics) (with_granted task asks gs filter) ≡ true
    go true e = rw e all
    go false e = rw e (list_all-append (λ g. is_filter g.topics) gs (record { task = task; topics = filter; qos = or_earlier (last_asked asks filter) AtMostOnce; sure = true } ∷ [])
        ∙ both_true (list_all (λ g. is_filter g.topics) gs) (is_filter filter && true) all (both_true (is_filter filter) true own refl))

filters_granted : (task : ℕ) (asks : List Ask) (gs : List Granted) (filters : List (List ℕ)) → list_all (λ g. is_filter g.topics) gs ≡ true → list_all is_filter filters ≡ true → list_all (λ g. is_filter g.topics) (with_all_granted task asks gs filters) ≡ true
filters_granted task asks gs [] all own = all
filters_granted task asks gs (filter ∷ filters) all own =
    filters_granted task asks (with_granted task asks gs filter) filters (filter_granted task asks gs filter all (left_true (is_filter filter) (list_all is_filter filters) own)) (right_true (is_filter filter) (list_all is_filter filters) own)

-- what is granted was asked
granted_within : (q : List ℕ → Bool) (asks : List Ask) (codes : List ℕ) → list_any q (granted_in (coded asks codes)) ≡ true → list_any (λ ask. q ask.filter) asks ≡ true
granted_within q [] codes any = any
granted_within q (ask ∷ asks) [] any = absurd (cc any)
granted_within q (ask ∷ asks) (code ∷ codes) any = go (nat_lt code 128) refl (granted_within q asks codes)
  where
    go : (b : Bool) → nat_lt code 128 ≡ b → (list_any q (granted_in (coded asks codes)) ≡ true → list_any (λ x. q x.filter) asks ≡ true) → list_any (λ x. q x.filter) (ask ∷ asks) ≡ true
    go true e rest =
        either (q ask.filter) (list_any q (granted_in (coded asks codes))) (rw e at any) (or_left (q ask.filter) (list_any (λ x. q x.filter) asks)) (λ h. or_right (q ask.filter) (list_any (λ x. q x.filter) asks) (rest h))
    go false e rest = or_right (q ask.filter) (list_any (λ x. q x.filter) asks) (rest (rw e at any))

granted_filters : (asks : List Ask) (codes : List ℕ) → are_filters asks ≡ true → list_all is_filter (granted_in (coded asks codes)) ≡ true
granted_filters [] codes all = refl
granted_filters (ask ∷ asks) [] all = refl
granted_filters (ask ∷ asks) (code ∷ codes) all = go (nat_lt code 128) refl (granted_filters asks codes (right_true (is_filter ask.filter) (are_filters asks) all))
  where
    go : (b : Bool) → nat_lt code 128 ≡ b → list_all is_filter (granted_in (coded asks codes)) ≡ true → list_all is_filter (granted_in (coded (ask ∷ asks) (code ∷ codes))) ≡ true
    go true e rest = rw e (both_true (is_filter ask.filter) (list_all is_filter (granted_in (coded asks codes))) (left_true (is_filter ask.filter) (are_filters asks) all) rest)
    go false e rest = rw e rest

new_within : (r : Route) (a : Asked) (codes : List ℕ) → a.left ≡ false → has_route (map (route a.task) (granted_in (coded a.asks codes))) r ≡ true → asked_as r a ≡ true
new_within r a codes stays has =
    let some : list_any (λ ask. is_route (route a.task ask.filter) r) a.asks ≡ true =
    granted_within (λ f. is_route (route a.task f) r) a.asks codes (sym (any-map (λ o. is_route o r) (route a.task) (granted_in (coded a.asks codes))) ∙ has)
    in
    rw stays (sym (any_factor (a.task == r.task) (λ ask. bytes_eq ask.filter r.topics) a.asks) ∙ some)

-- ---- All of it

pub kept_granted : (most : ℕ) (gs : List Granted) (asked : List Asked) (id : ℕ) (a : Asked) (codes : List ℕ) (i : ℕ) → IsSound most gs asked → position (has_id id) asked ≡ Some i → a ≡ get_or asked i a
    → IsSound most (granted_by a (granted_in (coded a.asks codes)) gs) (settled_before id (granted_in (coded a.asks codes)) a.asks asked)
kept_granted most gs asked id a codes i s place is =
    go a.left refl (kept_changed (renewed_as (granted_in (coded a.asks codes)) a.asks) (renewed_route (granted_in (coded a.asks codes)) a.asks) most gs asked s)
  where
    own : are_filters a.asks ≡ true
    own = let first = position-Some (has_id id) asked i a place in ap (λ (x : Asked). are_filters x.asks) is ∙ all_at (λ x. are_filters x.asks) asked i a s.asked_filters first.0

    there : (r : Route) → asked_as r a ≡ true → list_any (asked_as r) asked ≡ true
    there r hit = let first = position-Some (has_id id) asked i a place in list_any_at (asked_as r) asked i a first.0 (ap (asked_as r) (sym is) ∙ hit)

    go : (b : Bool) → a.left ≡ b → IsSound most (map (renewed_as (granted_in (coded a.asks codes)) a.asks) gs) asked
        → IsSound most (granted_by a (granted_in (coded a.asks codes)) gs) (settled_before id (granted_in (coded a.asks codes)) a.asks asked)
    go true e t =
        let gs' = map (renewed_as (granted_in (coded a.asks codes)) a.asks) gs in
        let as' = settled_before id (granted_in (coded a.asks codes)) a.asks asked in
        rw e (kept most gs' gs' asked as' t t.once (λ r h. or_left (list_any (granted_as r) gs') (list_any (asked_as r) asked) h) (λ r h. asked_before r id (granted_in (coded a.asks codes)) a.asks asked h) t.granted_filters
        (filters_before id (granted_in (coded a.asks codes)) a.asks asked s.asked_filters))
    go false e t =
        let new = granted_in (coded a.asks codes) in
        let gs' = map (renewed_as new a.asks) gs in
        let hs = with_all_granted a.task a.asks gs' new in
        let as' = settled_before id new a.asks asked in
        let routes : map route_of hs ≡ with_routes (map route_of gs') (map (route a.task) new) = all_routes a.task a.asks gs' new in
        let within : (r : Route) → list_any (granted_as r) hs ≡ true → (list_any (granted_as r) gs' || list_any (asked_as r) asked) ≡ true =
        λ r h. either (has_route (map route_of gs') r) (has_route (map (route a.task) new) r)
        (sym (any_with_all (λ o. is_route o r) (map route_of gs') (map (route a.task) new)) ∙ ap (λ (l : List Route). has_route l r) (sym routes) ∙ any-map (λ o. is_route o r) route_of hs ∙ h)
        (λ old. or_left (list_any (granted_as r) gs') (list_any (asked_as r) asked) (sym (any-map (λ o. is_route o r) route_of gs') ∙ old))
        (λ fresh. or_right (list_any (granted_as r) gs') (list_any (asked_as r) asked) (there r (new_within r a codes e fresh)))
        in
        rw e (kept most gs' hs asked as' t (ap each_once routes ∙ once_with_all (map route_of gs') (map (route a.task) new) t.once) within (λ r h. asked_before r id new a.asks asked h)
        (filters_granted a.task a.asks gs' new t.granted_filters (granted_filters a.asks codes own)) (filters_before id new a.asks asked s.asked_filters))

-- so there is room for all that are granted
pub granted_room : (most : ℕ) (gs : List Granted) (asked : List Asked) → IsSound most gs asked → length gs ≤ most
granted_room most gs asked s =
    let longer : length (map route_of gs) ≤ length (routes_with gs asked) = with_longer (map route_of gs) (asked_routes asked) in
    let same : length (map route_of gs) ≡ length gs = length-map gs route_of in
    let room = s.room in
    omega (arith, longer, same, room)

pub granted_as_found : (id : ℕ) (codes : List ℕ) (k : Routing) (a : Asked) → find (has_id id) k.asked ≡ Some a
    → record k { granted = granted_by a (granted_in (coded a.asks codes)) k.granted; asked = settled_before id (granted_in (coded a.asks codes)) a.asks k.asked } ≡ granted id codes k
granted_as_found id codes k a found = rw found refl

pub granted_as_none : (id : ℕ) (codes : List ℕ) (k : Routing) → find (has_id id) k.asked ≡ None → k ≡ granted id codes k
granted_as_none id codes k none = rw none refl

pub granted_by_stays : (a : Asked) (filters : List (List ℕ)) (gs : List Granted) → a.left ≡ false → granted_by a filters gs ≡ with_all_granted a.task a.asks (map (renewed_as filters a.asks) gs) filters
granted_by_stays a filters gs stays = rw stays refl

-- one more route, where nothing is asked for
pub kept_added : (most : ℕ) (gs : List Granted) (asked : List Asked) (g : Granted) → IsSound most gs asked → asked ≡ [] → length gs < most → has_route (map route_of gs) (route_of g) ≡ false
    → is_filter g.topics ≡ true → IsSound most (gs ++ g ∷ []) asked
kept_added most gs asked g s none room fresh own =
    subst (IsSound most (gs ++ g ∷ [])) (sym none)
    (record {
      once = ap each_once (routes_push gs g) ∙ once_more (map route_of gs) (route_of g) s.once fresh;
      room = omega (arith, length-map (gs ++ g ∷ []) route_of, length-append gs (g ∷ []), room);
      granted_filters = list_all-append (λ x. is_filter x.topics) gs (g ∷ []) ∙ both_true (list_all (λ x. is_filter x.topics) gs) (is_filter g.topics && true) s.granted_filters (both_true (is_filter g.topics) true own refl);
      asked_filters = refl;
    })
