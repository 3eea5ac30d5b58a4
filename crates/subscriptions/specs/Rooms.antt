-- Which lists of routes have room, and what is true of the routes at every moment.
use Rattle.std.specs.Prelude.{◌≡◌, ◌≤◌, Bool, true, ◌&&◌, ◌++◌, ◌+◌, not, ℕ, List, [], ◌∷◌, length, map, if◌then◌else◌}
use Rattle.std.specs.List.{list_all, filter, flat_map}
use Rattle.mqtt_packet.specs.declared.will.Ask.{Ask}
use Rattle.agent_table.specs.Routes.{Route, has_route, with_routes}
use Rattle.topic_filter.specs.Texts.{is_filter}
use Rattle.subscriptions.specs.Routing.{Granted, Asked, route_of, routes_asked}

-- whether each asks for a topic filter (MQTT 3.1.1, section 4.7)
abbrev pub are_filters : List Ask → Bool
are_filters asks = list_all (λ ask. is_filter ask.filter) asks

-- whether no route stands twice
abbrev pub each_once : List Route → Bool
each_once [] = true
each_once (r ∷ rs) = not (has_route rs r) && each_once rs

-- what tasks that haven't left ask for
abbrev pub asked_routes : List Asked → List Route
asked_routes asked = flat_map (λ a. routes_asked a.task a.asks) (filter (λ a. not a.left) asked)

-- `routes` of these lists
abbrev pub routes_with : List Granted → List Asked → List Route
routes_with granted asked = with_routes (map route_of granted) (asked_routes asked)

-- how many of the second list are neither in the first nor in front of themselves
abbrev pub new_count : List Route → List Route → ℕ
new_count seen [] = 0
new_count seen (r ∷ rs) = (if has_route seen r then 0 else 1) + new_count (seen ++ r ∷ []) rs

-- Each granted route stands once; with those that are asked for they are at most so many; and all are topic filters.
pub record IsSound (most : ℕ) (granted : List Granted) (asked : List Asked) : Type 0 where
  pub once : each_once (map route_of granted) ≡ true
  pub room : length (routes_with granted asked) ≤ most
  pub granted_filters : list_all (λ g. is_filter g.topics) granted ≡ true
  pub asked_filters : list_all (λ a. are_filters a.asks) asked ≡ true
