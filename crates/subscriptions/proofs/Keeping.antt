-- That each call keeps what is true of the routes at every moment.
use Rattle.std.proofs.Common.{sym, ◌∙◌, ◌≡◌, ◌≤◌, ◌+◌, ◌==◌, ℕ, Bool, true, false, not, ◌&&◌, ◌||◌, nat_le, List, [], ◌∷◌, ◌++◌, map, length, refl, ap, subst, arith}
use Rattle.std.specs.List.{list_any, list_all, filter, flat_map}
use Rattle.std.specs.Str.{bytes_eq}
use Rattle.std.proofs.lemmas.List.Folds.{list_all-append}
use Rattle.mqtt_packet.specs.declared.will.Ask.{Ask}
use Rattle.agent_table.specs.Filters.{is_one_of}
use Rattle.agent_table.specs.Routes.{Route, is_route, has_route, with_routes, coded, granted_in, refused_in}
use Rattle.topic_filter.specs.Texts.{is_filter}
use Rattle.subscriptions.specs.Routing.{Granted, Asked, route_of, routes_asked, leaves, renewal_coded}
use Rattle.subscriptions.specs.Rooms.{IsSound, routes_with, asked_routes, each_once, are_filters, new_count}
use Rattle.subscriptions.specs.Parts.{confirmed}
use Rattle.subscriptions.proofs.Bools.{left_true, right_true, both_true, either, or_left, or_right, le_of}
use Rattle.subscriptions.proofs.Lists.{any-map}
use Rattle.subscriptions.proofs.Subacks.{renewed_all}
use Rattle.subscriptions.proofs.Sets.{any_with_all, once_with_all, no_more}
use Rattle.subscriptions.proofs.Reached.{any_asked}
use Rattle.subscriptions.proofs.Counts.{count_with, routes_append, one_open, room_is}

-- whether a granted route, and whether an open subscribe, is or asks for this route
abbrev pub granted_as : Route → Granted → Bool
granted_as r g = is_route (route_of g) r

abbrev pub asked_as : Route → Asked → Bool
asked_as r a = not a.left && (a.task == r.task && list_any (λ ask. bytes_eq ask.filter r.topics) a.asks)

has_split : (r : Route) (granted : List Granted) (asked : List Asked) → has_route (routes_with granted asked) r ≡ (list_any (granted_as r) granted || list_any (asked_as r) asked)
has_split r granted asked =
    any_with_all (λ o. is_route o r) (map route_of granted) (asked_routes asked)
    ∙ ap (λ b. b || has_route (asked_routes asked) r) (any-map (λ o. is_route o r) route_of granted)
    ∙ ap (λ b. list_any (granted_as r) granted || b) (any_asked (λ t. t == r.task) (λ f. bytes_eq f r.topics) asked)

-- What the new lists have, the old ones had.
pub kept : (most : ℕ) (gs hs : List Granted) (as' bs : List Asked) → IsSound most gs as' → each_once (map route_of hs) ≡ true
    → ((r : Route) → list_any (granted_as r) hs ≡ true → (list_any (granted_as r) gs || list_any (asked_as r) as') ≡ true)
    → ((r : Route) → list_any (asked_as r) bs ≡ true → list_any (asked_as r) as' ≡ true)
    → list_all (λ g. is_filter g.topics) hs ≡ true → list_all (λ a. are_filters a.asks) bs ≡ true → IsSound most hs bs
kept most gs hs as' bs s once granted asked g_filters a_filters =
    let within : (r : Route) → has_route (routes_with hs bs) r ≡ true → has_route (routes_with gs as') r ≡ true =
    λ r has. has_split r gs as' ∙ either (list_any (granted_as r) hs) (list_any (asked_as r) bs) (sym (has_split r hs bs) ∙ has) (granted r) (λ e. or_right (list_any (granted_as r) gs) (list_any (asked_as r) as') (asked r e))
    in
    let fewer : length (routes_with hs bs) ≤ length (routes_with gs as') = no_more (routes_with hs bs) (routes_with gs as') (once_with_all (map route_of hs) (asked_routes bs) once) within in
    let room = s.room in
    record { once = once; room = omega (arith, fewer, room); granted_filters = g_filters; asked_filters = a_filters }

-- ---- Granted routes alone

-- changed, but in what they are
pub kept_changed : (f : Granted → Granted) → ((g : Granted) → route_of (f g) ≡ route_of g) → (most : ℕ) (gs : List Granted) (asked : List Asked) → IsSound most gs asked → IsSound most (map f gs) asked
kept_changed f same most gs asked s =
    kept most gs (map f gs) asked asked s (ap each_once (routes_same gs) ∙ s.once)
    (λ r e. or_left (list_any (granted_as r) gs) (list_any (asked_as r) asked) (sym (any-map (λ o. is_route o r) route_of gs) ∙ ap (λ (l : List Route). has_route l r) (sym (routes_same gs)) ∙ any-map (λ o. is_route o r) route_of (map f gs) ∙ e))
    (λ r e. e) (filters_same gs s.granted_filters) s.asked_filters
  where
    routes_same : (hs : List Granted) → map route_of (map f hs) ≡ map route_of hs
    routes_same [] = refl
    routes_same (h ∷ hs) = rw (same h, routes_same hs) refl

    filters_same : (hs : List Granted) → list_all (λ g. is_filter g.topics) hs ≡ true → list_all (λ g. is_filter g.topics) (map f hs) ≡ true
    filters_same [] all = refl
    filters_same (h ∷ hs) all =
        both_true (is_filter (f h).topics) (list_all (λ g. is_filter g.topics) (map f hs))
        (ap (λ (r : Route). is_filter r.topics) (same h) ∙ left_true (is_filter h.topics) (list_all (λ g. is_filter g.topics) hs) all)
        (filters_same hs (right_true (is_filter h.topics) (list_all (λ g. is_filter g.topics) hs) all))

-- some of a list: what holds of one of them, or of all
any_filter : {X : Type 0} (p q : X → Bool) (xs : List X) → list_any p (filter q xs) ≡ true → list_any p xs ≡ true
any_filter p q [] any = any
any_filter p q (x ∷ xs) any = go (q x) refl (any_filter p q xs)
  where
    go : (b : Bool) → q x ≡ b → (list_any p (filter q xs) ≡ true → list_any p xs ≡ true) → list_any p (x ∷ xs) ≡ true
    go true e rest = either (p x) (list_any p (filter q xs)) (rw e at any) (or_left (p x) (list_any p xs)) (λ h. or_right (p x) (list_any p xs) (rest h))
    go false e rest = or_right (p x) (list_any p xs) (rest (rw e at any))

all_filter : {X : Type 0} (p q : X → Bool) (xs : List X) → list_all p xs ≡ true → list_all p (filter q xs) ≡ true
all_filter p q [] all = refl
all_filter p q (x ∷ xs) all = go (q x) refl (all_filter p q xs (right_true (p x) (list_all p xs) all))
  where
    go : (b : Bool) → q x ≡ b → list_all p (filter q xs) ≡ true → list_all p (filter q (x ∷ xs)) ≡ true
    go true e rest = rw e (both_true (p x) (list_all p (filter q xs)) (left_true (p x) (list_all p xs) all) rest)
    go false e rest = rw e rest

once_filter : (q : Granted → Bool) (gs : List Granted) → each_once (map route_of gs) ≡ true → each_once (map route_of (filter q gs)) ≡ true
once_filter q [] once = refl
once_filter q (g ∷ gs) once = go (q g) refl (once_filter q gs (right_true (not (has_route (map route_of gs) (route_of g))) (each_once (map route_of gs)) once))
  where
    absent : (t : Bool) → has_route (map route_of (filter q gs)) (route_of g) ≡ t → not (has_route (map route_of (filter q gs)) (route_of g)) ≡ true
    absent true e =
        let there : has_route (map route_of gs) (route_of g) ≡ true =
        any-map (λ o. is_route o (route_of g)) route_of gs ∙ any_filter (granted_as (route_of g)) q gs (sym (any-map (λ o. is_route o (route_of g)) route_of (filter q gs)) ∙ e)
        in
        absurd (cc (ap not there, left_true (not (has_route (map route_of gs) (route_of g))) (each_once (map route_of gs)) once))
    absent false e = rw e refl

    go : (b : Bool) → q g ≡ b → each_once (map route_of (filter q gs)) ≡ true → each_once (map route_of (filter q (g ∷ gs))) ≡ true
    go true e rest = rw e (both_true (not (has_route (map route_of (filter q gs)) (route_of g))) (each_once (map route_of (filter q gs))) (absent (has_route (map route_of (filter q gs)) (route_of g)) refl) rest)
    go false e rest = rw e rest

pub kept_fewer : (q : Granted → Bool) (most : ℕ) (gs : List Granted) (asked : List Asked) → IsSound most gs asked → IsSound most (filter q gs) asked
kept_fewer q most gs asked s =
    kept most gs (filter q gs) asked asked s (once_filter q gs s.once) (λ r e. or_left (list_any (granted_as r) gs) (list_any (asked_as r) asked) (any_filter (granted_as r) q gs e)) (λ r e. e)
    (all_filter (λ g. is_filter g.topics) q gs s.granted_filters) s.asked_filters

-- ---- Open subscribes alone

pub kept_asked : (most : ℕ) (gs : List Granted) (as' bs : List Asked) → IsSound most gs as' → ((r : Route) → list_any (asked_as r) bs ≡ true → list_any (asked_as r) as' ≡ true) → list_all (λ a. are_filters a.asks) bs ≡ true → IsSound most gs bs
kept_asked most gs as' bs s within filters = kept most gs gs as' bs s s.once (λ r e. or_left (list_any (granted_as r) gs) (list_any (asked_as r) as') e) within s.granted_filters filters

pub kept_lost : (q : Asked → Bool) (most : ℕ) (gs : List Granted) (asked : List Asked) → IsSound most gs asked → IsSound most gs (filter q asked)
kept_lost q most gs asked s = kept_asked most gs asked (filter q asked) s (λ r e. any_filter (asked_as r) q asked e) (all_filter (λ a. are_filters a.asks) q asked s.asked_filters)

pub kept_none : (most : ℕ) (gs : List Granted) (asked : List Asked) → IsSound most gs asked → IsSound most gs []
kept_none most gs asked s = kept_asked most gs asked [] s (λ r e. absurd (cc e)) refl

left_within : (task : ℕ) (r : Route) (a : Asked) → asked_as r (leaves task a) ≡ true → asked_as r a ≡ true
left_within task r a e = go (a.task == task) refl
  where
    go : (b : Bool) → (a.task == task) ≡ b → asked_as r a ≡ true
    go true is = absurd (cc (rw is at e))
    go false is = rw is at e

left_filters : (task : ℕ) (a : Asked) → are_filters (leaves task a).asks ≡ are_filters a.asks
left_filters task a = go (a.task == task) refl
  where
    go : (b : Bool) → (a.task == task) ≡ b → are_filters (leaves task a).asks ≡ are_filters a.asks
    go true is = rw is refl
    go false is = rw is refl

pub kept_left : (task most : ℕ) (gs : List Granted) (asked : List Asked) → IsSound most gs asked → IsSound most gs (map (leaves task) asked)
kept_left task most gs asked s = kept_asked most gs asked (map (leaves task) asked) s (λ r. within r asked) (filters asked s.asked_filters)
  where
    within : (r : Route) (as' : List Asked) → list_any (asked_as r) (map (leaves task) as') ≡ true → list_any (asked_as r) as' ≡ true
    within r [] any = any
    within r (a ∷ as') any =
        either (asked_as r (leaves task a)) (list_any (asked_as r) (map (leaves task) as')) any (λ e. or_left (asked_as r a) (list_any (asked_as r) as') (left_within task r a e)) (λ e. or_right (asked_as r a) (list_any (asked_as r) as') (within r as' e))

    filters : (as' : List Asked) → list_all (λ a. are_filters a.asks) as' ≡ true → list_all (λ a. are_filters a.asks) (map (leaves task) as') ≡ true
    filters [] all = refl
    filters (a ∷ as') all =
        both_true (are_filters (leaves task a).asks) (list_all (λ x. are_filters x.asks) (map (leaves task) as')) (left_filters task a ∙ left_true (are_filters a.asks) (list_all (λ x. are_filters x.asks) as') all)
        (filters as' (right_true (are_filters a.asks) (list_all (λ x. are_filters x.asks) as') all))

-- one more, where there is room
pub kept_one_more : (most : ℕ) (gs : List Granted) (asked : List Asked) (a : Asked) → IsSound most gs asked → a.left ≡ false
    → nat_le (length (with_routes (with_routes [] (routes_with gs asked)) (routes_asked a.task a.asks))) most ≡ true → are_filters a.asks ≡ true → IsSound most gs (asked ++ a ∷ [])
kept_one_more most gs asked a s stays room filters =
    let there = routes_with gs asked in
    let count : length (with_routes (with_routes [] there) (routes_asked a.task a.asks)) ≡ length there + new_count there (routes_asked a.task a.asks) =
    room_is there (routes_asked a.task a.asks) (once_with_all (map route_of gs) (asked_routes asked) s.once)
    in
    let all : length (routes_with gs (asked ++ a ∷ [])) ≡ length there + new_count there (asked_routes (a ∷ [])) = ap length (routes_append gs asked (a ∷ [])) ∙ count_with there there (asked_routes (a ∷ [])) (λ r. refl) in
    let same : new_count there (routes_asked a.task a.asks) ≡ new_count there (asked_routes (a ∷ [])) = one_open there a stays in
    let few : length (with_routes (with_routes [] there) (routes_asked a.task a.asks)) ≤ most = le_of (length (with_routes (with_routes [] there) (routes_asked a.task a.asks))) most room in
    record {
      once = s.once;
      room = omega (arith, count, all, same, few);
      granted_filters = s.granted_filters;
      asked_filters = list_all-append (λ x. are_filters x.asks) asked (a ∷ []) ∙ both_true (list_all (λ x. are_filters x.asks) asked) (are_filters a.asks && true) s.asked_filters (both_true (are_filters a.asks) true filters refl);
    }

-- behind the SUBACK of a renewal
pub kept_confirmed : (asks : List Ask) (codes : List ℕ) (most : ℕ) (gs : List Granted) (asked : List Asked) → IsSound most gs asked → IsSound most (flat_map (renewal_coded asks codes) gs) asked
kept_confirmed asks codes most gs asked s =
    let stays : Granted → Bool = λ g. not (is_one_of (refused_in (coded asks codes)) g.topics) in
    subst (λ (l : List Granted). IsSound most l asked) (renewed_all asks codes gs)
    (kept_changed (confirmed (granted_in (coded asks codes))) (same (granted_in (coded asks codes))) most (filter stays gs) asked (kept_fewer stays most gs asked s))
  where
    same : (filters : List (List ℕ)) (g : Granted) → route_of (confirmed filters g) ≡ route_of g
    same filters g = go (is_one_of filters g.topics) refl
      where
        go : (b : Bool) → is_one_of filters g.topics ≡ b → route_of (confirmed filters g) ≡ route_of g
        go true e = rw e refl
        go false e = rw e refl
