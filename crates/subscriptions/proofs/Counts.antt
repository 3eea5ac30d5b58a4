-- How many routes come to a list of them.
use Rattle.std.proofs.Common.{sym, ◌∙◌, ◌≡◌, ◌<◌, ◌≤◌, ◌+◌, ℕ, zero, suc, Bool, true, false, not, ◌&&◌, ◌||◌, ◌==◌, List, [], ◌∷◌, ◌++◌, map, take, drop, length, get_or, refl, ap, arith, append_assoc, add-one, if◌then◌else◌}
use Rattle.std.specs.List.{list_any, filter}
use Rattle.std.proofs.lemmas.List.{append-nil, length-append, take-append-drop, take_more, take-map, get_or-map, length-map}
use Rattle.std.proofs.lemmas.List.Folds.{list_any-append}
use Rattle.std.specs.Str.{bytes_eq}
use Rattle.std.proofs.lemmas.Bool.Decides.{Decides-eqb}
use Rattle.mqtt_packet.specs.declared.will.Ask.{Ask}
use Rattle.subscriptions.proofs.Reached.{any_asks}
use Rattle.agent_table.specs.Routes.{Route, route, is_route, has_route, with_route, with_routes}
use Rattle.subscriptions.specs.Routing.{Granted, Asked, route_of, routes_asked}
use Rattle.subscriptions.specs.Rooms.{routes_with, asked_routes, new_count, each_once}
use Rattle.subscriptions.proofs.Bools.{or_false}
use Rattle.subscriptions.proofs.Sets.{any_with, any_with_all, once_with_all, no_more}

length_with : (xs : List Route) (y : Route) → length (with_route xs y) ≡ length xs + (if has_route xs y then 0 else 1)
length_with xs y = go (has_route xs y) refl
  where
    go : (b : Bool) → has_route xs y ≡ b → length (with_route xs y) ≡ length xs + (if has_route xs y then 0 else 1)
    go true e = rw e (omega arith)
    go false e = rw e (length-append xs (y ∷ []))

-- `seen` are those of xs in another order
pub count_with : (xs seen ys : List Route) → ((r : Route) → has_route seen r ≡ has_route xs r) → length (with_routes xs ys) ≡ length xs + new_count seen ys
count_with xs seen [] same = omega arith
count_with xs seen (y ∷ ys) same =
    let rest : length (with_routes (with_route xs y) ys) ≡ length (with_route xs y) + new_count (seen ++ y ∷ []) ys =
    count_with (with_route xs y) (seen ++ y ∷ []) ys (λ r. list_any-append (λ o. is_route o r) seen (y ∷ []) ∙ or_false (has_route seen r) (is_route y r) ∙ ap (λ b. b || is_route y r) (same r) ∙ sym (any_with (λ o. is_route o r) xs y))
    in
    let first : length (with_route xs y) ≡ length xs + (if has_route seen y then 0 else 1) = length_with xs y ∙ ap (λ b. length xs + (if b then 0 else 1)) (sym (same y)) in
    omega (arith, rest, first)

pub new_most : (seen rs : List Route) → new_count seen rs ≤ length rs
new_most seen [] = omega arith
new_most seen (r ∷ rs) = go (has_route seen r) refl (new_most (seen ++ r ∷ []) rs)
  where
    go : (b : Bool) → has_route seen r ≡ b → new_count (seen ++ r ∷ []) rs ≤ length rs → new_count seen (r ∷ rs) ≤ length (r ∷ rs)
    go true e rest = rw e (omega (arith, rest))
    go false e rest = rw e (omega (arith, rest))

-- one more
pub new_more : (seen rs : List Route) (i : ℕ) (d : Route) → i < length rs → new_count seen (take (i + 1) rs) ≡ new_count seen (take i rs) + (if has_route (seen ++ take i rs) (get_or rs i d) then 0 else 1)
new_more seen rs i d inside = rw add-one (go seen rs i inside)
  where
    go : (seen rs : List Route) (i : ℕ) → i < length rs → new_count seen (take (suc i) rs) ≡ new_count seen (take i rs) + (if has_route (seen ++ take i rs) (get_or rs i d) then 0 else 1)
    go seen [] i inside = absurd (omega arith)
    go seen (r ∷ rs) zero inside = rw (append-nil seen) (omega arith)
    go seen (r ∷ rs) (suc i) inside =
        let rest = go (seen ++ r ∷ []) rs i (omega arith) in
        let same : has_route ((seen ++ r ∷ []) ++ take i rs) (get_or rs i d) ≡ has_route (seen ++ r ∷ take i rs) (get_or rs i d) = ap (λ (l : List Route). has_route l (get_or rs i d)) (append_assoc seen (r ∷ []) (take i rs)) in
        let next : new_count (seen ++ r ∷ []) (take (suc i) rs) ≡ new_count (seen ++ r ∷ []) (take i rs) + (if has_route (seen ++ r ∷ take i rs) (get_or rs i d) then 0 else 1) = rest ∙ ap (λ b. new_count (seen ++ r ∷ []) (take i rs) + (if b then 0 else 1)) same in
        omega (arith, next)

pub with_append : (xs ys zs : List Route) → with_routes xs (ys ++ zs) ≡ with_routes (with_routes xs ys) zs
with_append xs [] zs = refl
with_append xs (y ∷ ys) zs = with_append (with_route xs y) ys zs

pub with_longer : (xs ys : List Route) → length xs ≤ length (with_routes xs ys)
with_longer xs ys = omega (arith, count_with xs xs ys (λ r. refl))

asked_append : (one other : List Asked) → asked_routes (one ++ other) ≡ asked_routes one ++ asked_routes other
asked_append [] other = refl
asked_append (a ∷ one) other = go a.left refl (asked_append one other)
  where
    go : (b : Bool) → a.left ≡ b → asked_routes (one ++ other) ≡ asked_routes one ++ asked_routes other → asked_routes (a ∷ one ++ other) ≡ asked_routes (a ∷ one) ++ asked_routes other
    go true e rest = rw e rest
    go false e rest = rw e (ap (λ (l : List Route). routes_asked a.task a.asks ++ l) rest ∙ sym (append_assoc (routes_asked a.task a.asks) (asked_routes one) (asked_routes other)))

pub routes_append : (granted : List Granted) (one other : List Asked) → routes_with granted (one ++ other) ≡ with_routes (routes_with granted one) (asked_routes other)
routes_append granted one other = ap (with_routes (map route_of granted)) (asked_append one other) ∙ with_append (map route_of granted) (asked_routes one) (asked_routes other)

-- routes of some of the subscribes are no more than those of all
pub routes_fewer : (granted : List Granted) (asked : List Asked) (i : ℕ) → length (routes_with granted (take i asked)) ≤ length (routes_with granted asked)
routes_fewer granted asked i =
    let all : length (routes_with granted asked) ≡ length (with_routes (routes_with granted (take i asked)) (asked_routes (drop i asked))) =
    ap (λ (l : List Asked). length (routes_with granted l)) (sym (take-append-drop i asked)) ∙ ap length (routes_append granted (take i asked) (drop i asked))
    in
    let more = with_longer (routes_with granted (take i asked)) (asked_routes (drop i asked)) in
    omega (arith, all, more)

-- what `has_room` counts
pub room_is : (rs new : List Route) → each_once rs ≡ true → length (with_routes (with_routes [] rs) new) ≡ length rs + new_count rs new
room_is rs new once =
    let same : (r : Route) → has_route (with_routes [] rs) r ≡ has_route rs r = λ r. any_with_all (λ o. is_route o r) [] rs in
    let up : length rs ≤ length (with_routes [] rs) = no_more rs (with_routes [] rs) once (λ r h. same r ∙ h) in
    let down : length (with_routes [] rs) ≤ length rs = no_more (with_routes [] rs) rs (once_with_all [] rs refl) (λ r h. sym (same r) ∙ h) in
    let count = count_with (with_routes [] rs) rs new (λ r. sym (same r)) in
    omega (arith, up, down, count)

-- ---- One more

pub one_open : (seen : List Route) (a : Asked) → a.left ≡ false → new_count seen (routes_asked a.task a.asks) ≡ new_count seen (asked_routes (a ∷ []))
one_open seen a stays = rw stays (ap (new_count seen) (sym (append-nil (routes_asked a.task a.asks))))

pub routes_more : (granted : List Granted) (asked : List Asked) (i : ℕ) (d : Asked) → i < length asked
    → length (routes_with granted (take (i + 1) asked)) ≡ length (routes_with granted (take i asked)) + new_count (routes_with granted (take i asked)) (asked_routes (get_or asked i d ∷ []))
routes_more granted asked i d inside =
    ap (λ (l : List Asked). length (routes_with granted l)) (take_more asked i d inside) ∙ ap length (routes_append granted (take i asked) (get_or asked i d ∷ []))
    ∙ count_with (routes_with granted (take i asked)) (routes_with granted (take i asked)) (asked_routes (get_or asked i d ∷ [])) (λ r. refl)

pub is_new_is : (granted : List Granted) (asked : List Asked) (earlier : List Ask) (task : ℕ) (filter : List ℕ)
    → has_route (routes_with granted asked ++ routes_asked task earlier) (route task filter) ≡ (has_route (routes_with granted asked) (route task filter) || list_any (λ ask. bytes_eq ask.filter filter) earlier)
is_new_is granted asked earlier task filter =
    list_any-append (λ o. is_route o (route task filter)) (routes_with granted asked) (routes_asked task earlier)
    ∙ ap (λ b. has_route (routes_with granted asked) (route task filter) || b) (any_asks (λ t. t == task) (λ f. bytes_eq f filter) task earlier ∙ ap (λ b. b && list_any (λ ask. bytes_eq ask.filter filter) earlier) ((Decides-eqb task task).1 refl))

-- one more ask, of which a test says whether it is new
pub new_step : (seen : List Route) (task : ℕ) (asks : List Ask) (i : ℕ) (x : Ask) (is_new : Bool) → i < length asks → x ≡ get_or asks i x → is_new ≡ not (has_route (seen ++ routes_asked task (take i asks)) (route task x.filter))
    → new_count seen (take (i + 1) (routes_asked task asks)) ≡ new_count seen (take i (routes_asked task asks)) + (if is_new then 1 else 0)
new_step seen task asks i x is_new inside found is =
    let each : Ask → Route = λ ask. route task ask.filter in
    let within : i < length (routes_asked task asks) = omega (arith, length-map asks each) in
    let front : take i (routes_asked task asks) ≡ routes_asked task (take i asks) = take-map each i asks in
    let own : get_or (routes_asked task asks) i (route task x.filter) ≡ route task x.filter = get_or-map each asks i x (route task x.filter) inside ∙ ap each (sym found) in
    let same : has_route (seen ++ take i (routes_asked task asks)) (get_or (routes_asked task asks) i (route task x.filter)) ≡ has_route (seen ++ routes_asked task (take i asks)) (route task x.filter) =
    ap (λ (l : List Route). has_route (seen ++ l) (get_or (routes_asked task asks) i (route task x.filter))) front ∙ ap (has_route (seen ++ routes_asked task (take i asks))) own
    in
    let more = new_more seen (routes_asked task asks) i (route task x.filter) within in
    more ∙ ap (λ b. new_count seen (take i (routes_asked task asks)) + (if b then 0 else 1)) same ∙ rw is (turned_test (has_route (seen ++ routes_asked task (take i asks)) (route task x.filter)) (new_count seen (take i (routes_asked task asks))))
  where
    turned_test : (b : Bool) (n : ℕ) → n + (if b then 0 else 1) ≡ n + (if not b then 1 else 0)
    turned_test true n = refl
    turned_test false n = refl

-- so many at most, even if none stands twice
pub room_most : (granted : List Granted) (asked : List Asked) (task : ℕ) (asks : List Ask) → each_once (map route_of granted) ≡ true
    → length (with_routes (with_routes [] (routes_with granted asked)) (routes_asked task asks)) ≤ length granted + length asks + length (asked_routes asked)
room_most granted asked task asks once =
    let there = routes_with granted asked in
    let all = room_is there (routes_asked task asks) (once_with_all (map route_of granted) (asked_routes asked) once) in
    let old = count_with (map route_of granted) (map route_of granted) (asked_routes asked) (λ r. refl) in
    let own = length-map granted route_of in
    let few = new_most (map route_of granted) (asked_routes asked) in
    let new = new_most there (routes_asked task asks) in
    let pairs = length-map asks (λ ask. route task ask.filter) in
    omega (arith, all, old, own, few, new, pairs)
