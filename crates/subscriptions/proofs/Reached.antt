-- What holds of some route, as tests over granted routes and open subscribes.
use Rattle.std.proofs.Common.{sym, ◌∙◌, ◌≡◌, ℕ, Bool, true, false, not, ◌&&◌, ◌||◌, ◌==◌, ◌≤◌, Option, Some, None, IfSome, List, [], ◌∷◌, map, refl, ap}
use Rattle.std.specs.List.{list_any}
use Rattle.std.proofs.lemmas.List.Folds.{list_any-append}
use Rattle.mqtt_packet.specs.declared.will.Ask.{Ask}
use Rattle.agent_table.specs.Routes.{route}
use Rattle.subscriptions.specs.Routing.{Granted, Asked, route_of, routes_asked}
use Rattle.subscriptions.specs.Rooms.{routes_with, asked_routes}
use Rattle.subscriptions.specs.Nearest.{IsLeast, lesser}
use Rattle.topic_filter.specs.Fitting.{fits}
use Rattle.subscriptions.proofs.Leasts.{least_of_both}
use Rattle.subscriptions.proofs.Bools.{or_first, or_second}
use Rattle.subscriptions.proofs.Lists.{any-map}
use Rattle.subscriptions.proofs.Sets.{any_with_all}

-- a test that doesn't look at the element comes in front
pub any_factor : {X : Type 0} (b : Bool) (q : X → Bool) (xs : List X) → list_any (λ x. b && q x) xs ≡ (b && list_any q xs)
any_factor true q xs = refl
any_factor false q [] = refl
any_factor false q (x ∷ xs) = any_factor false q xs

pub any_asks : (own : ℕ → Bool) (q : List ℕ → Bool) (task : ℕ) (asks : List Ask) → list_any (λ o. own o.task && q o.topics) (routes_asked task asks) ≡ (own task && list_any (λ ask. q ask.filter) asks)
any_asks own q task asks = any-map (λ o. own o.task && q o.topics) (λ ask. route task ask.filter) asks ∙ any_factor (own task) (λ ask. q ask.filter) asks

pub any_asked : (own : ℕ → Bool) (q : List ℕ → Bool) (asked : List Asked)
    → list_any (λ o. own o.task && q o.topics) (asked_routes asked) ≡ list_any (λ a. not a.left && (own a.task && list_any (λ ask. q ask.filter) a.asks)) asked
any_asked own q [] = refl
any_asked own q (a ∷ others) = go a.left refl (any_asked own q others)
  where
    go : (b : Bool) → a.left ≡ b → list_any (λ o. own o.task && q o.topics) (asked_routes others) ≡ list_any (λ x. not x.left && (own x.task && list_any (λ ask. q ask.filter) x.asks)) others
        → list_any (λ o. own o.task && q o.topics) (asked_routes (a ∷ others)) ≡ list_any (λ x. not x.left && (own x.task && list_any (λ ask. q ask.filter) x.asks)) (a ∷ others)
    go true e rest = rw e rest
    go false e rest =
        rw e (list_any-append (λ o. own o.task && q o.topics) (routes_asked a.task a.asks) (asked_routes others) ∙ ap (λ b. b || list_any (λ o. own o.task && q o.topics) (asked_routes others)) (any_asks own q a.task a.asks)
        ∙ ap (λ b. (own a.task && list_any (λ ask. q ask.filter) a.asks) || b) rest)

pub any_routes : (own : ℕ → Bool) (q : List ℕ → Bool) (granted : List Granted) (asked : List Asked)
    → list_any (λ o. own o.task && q o.topics) (routes_with granted asked)
    ≡ (list_any (λ g. own g.task && q g.topics) granted || list_any (λ a. not a.left && (own a.task && list_any (λ ask. q ask.filter) a.asks)) asked)
any_routes own q granted asked =
    any_with_all (λ o. own o.task && q o.topics) (map route_of granted) (asked_routes asked)
    ∙ ap (λ b. b || list_any (λ o. own o.task && q o.topics) (asked_routes asked)) (any-map (λ o. own o.task && q o.topics) route_of granted)
    ∙ ap (λ b. list_any (λ g. own g.task && q g.topics) granted || b) (any_asked own q asked)

-- two tests in turn, of the granted routes and of the open subscribes
pub reached_first : (own : ℕ → Bool) (q : List ℕ → Bool) (granted : List Granted) (asked : List Asked) (first : Bool) → first ≡ list_any (λ g. own g.task && q g.topics) granted → first ≡ true
    → first ≡ list_any (λ o. own o.task && q o.topics) (routes_with granted asked)
reached_first own q granted asked first is hit =
    or_first first (list_any (λ a. not a.left && (own a.task && list_any (λ ask. q ask.filter) a.asks)) asked) hit
    ∙ ap (λ b. b || list_any (λ a. not a.left && (own a.task && list_any (λ ask. q ask.filter) a.asks)) asked) is ∙ sym (any_routes own q granted asked)

pub reached_second : (own : ℕ → Bool) (q : List ℕ → Bool) (granted : List Granted) (asked : List Asked) (first second : Bool) → first ≡ list_any (λ g. own g.task && q g.topics) granted → first ≡ false
    → second ≡ list_any (λ a. not a.left && (own a.task && list_any (λ ask. q ask.filter) a.asks)) asked → second ≡ list_any (λ o. own o.task && q o.topics) (routes_with granted asked)
reached_second own q granted asked first second is miss then' =
    or_second first second miss ∙ ap (λ b. b || second) is ∙ ap (λ b. list_any (λ g. own g.task && q g.topics) granted || b) then' ∙ sym (any_routes own q granted asked)

any-same : {X : Type 0} (p q : X → Bool) (xs : List X) → ((x : X) → p x ≡ q x) → list_any p xs ≡ list_any q xs
any-same p q [] same = refl
any-same p q (x ∷ xs) same = rw (same x) (ap (λ b. q x || b) (any-same p q xs same))

and_swap : (a b c : Bool) → (a && (b && c)) ≡ (b && (a && c))
and_swap true true c = refl
and_swap true false c = refl
and_swap false true c = refl
and_swap false false c = refl

-- the least task of the granted and of the asked routes is the least of all
pub next_is : (granted : List Granted) (asked : List Asked) (name : List ℕ) (from : ℕ) (a b : Option ℕ) → IsLeast (λ task. list_any (λ g. g.task == task && fits g.topics name) granted) from a
    → IsLeast (λ task. list_any (λ x. x.task == task && (not x.left && list_any (λ ask. fits ask.filter name) x.asks)) asked) from b
    → IsLeast (λ task. list_any (λ other. other.task == task && fits other.topics name) (routes_with granted asked)) from (lesser a b)
next_is granted asked name from a b s t =
    least_of_both (λ task. list_any (λ g. g.task == task && fits g.topics name) granted) (λ task. list_any (λ x. x.task == task && (not x.left && list_any (λ ask. fits ask.filter name) x.asks)) asked)
    (λ task. list_any (λ other. other.task == task && fits other.topics name) (routes_with granted asked)) from a b
    (λ task. any_routes (λ t. t == task) (λ f. fits f name) granted asked
    ∙ ap (λ c. list_any (λ g. g.task == task && fits g.topics name) granted || c)
    (any-same (λ x. not x.left && (x.task == task && list_any (λ ask. fits ask.filter name) x.asks)) (λ x. x.task == task && (not x.left && list_any (λ ask. fits ask.filter name) x.asks)) asked
    (λ x. and_swap (not x.left) (x.task == task) (list_any (λ ask. fits ask.filter name) x.asks)))) s t

pub next_from : (holds : ℕ → Bool) (from : ℕ) (found : Option ℕ) → IsLeast holds from found → IfSome found (λ n. from ≤ n)
next_from holds from None s = tt
next_from holds from (Some n) s = s.holding.0

pub next_holds : (holds : ℕ → Bool) (from : ℕ) (found : Option ℕ) → IsLeast holds from found → IfSome found (λ n. holds n ≡ true)
next_holds holds from None s = tt
next_holds holds from (Some n) s = s.holding.1
