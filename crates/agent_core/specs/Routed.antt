-- That what the agent keeps of its routes stands for its journal.
use Rattle.std.specs.Prelude.{◌≡◌, ℕ, Bool, true, ◌||◌, not, List, [], ◌∷◌, ◌++◌, map, Some, filter}
use Rattle.std.specs.List.{AllByRecursion}
use Rattle.mqtt_packet.specs.declared.qos.Qos.{Qos}
use Rattle.mqtt_packet.specs.declared.will.Ask.{Ask}
use Rattle.agent_journal.specs.declared.entry.Entry.{Entry}
use Rattle.agent_journal.specs.declared.setup.Setup.{Setup}
use Rattle.agent_journal.specs.Readings.{Pending, pending_of, has_left}
use Rattle.agent_table.specs.Arrivals.{is_subscribe}
use Rattle.agent_table.specs.Filters.{is_one_of}
use Rattle.agent_table.specs.Routes.{Route, Grant, asks_in, granted_of, renewals_of, lost_of, sure_of, qos_of, grants_of, asked_in, last_asked}
use Rattle.subscriptions.specs.Routing.{Granted, Asked, Routing, route_of}
use Rattle.agent_core.specs.Reordered.{IsReordered}

-- two lists of one length, and the relation holds at each place
abbrev pub Matched : {X Y : Type 0} → (X → Y → Type 0) → List X → List Y → Type 0
Matched P [] [] = Unit {0}
Matched P [] (y ∷ ys) = ⊥
Matched P (x ∷ xs) [] = ⊥
Matched P (x ∷ xs) (y ∷ ys) = P x y × Matched P xs ys

abbrev pub subscribes_in : List Pending → List Pending
subscribes_in commands = filter (λ command. is_subscribe command.request) commands

abbrev pub filters_of : List Ask → List (List ℕ)
filters_of asks = map (λ ask. ask.filter) asks

-- whether a route's task hasn't left
abbrev pub is_here : List Entry → Route → Bool
is_here past r = not (has_left r.task past)

-- The session was never lost, or the filter was granted since it was lost last.
abbrev pub is_sure : Setup → List Entry → List ℕ → Bool
is_sure s past topics = not (lost_of s past) || is_one_of (sure_of s past) topics

abbrev pub grant : Pending → List ℕ → Grant
grant command topics = record { task = command.task; seq = command.seq; topics = topics ∷ [] }

-- what a renewal would ask for, if this open subscribe were granted the filter now
abbrev pub qos_if : List Entry → Pending → List ℕ → Qos
qos_if past command topics = asked_in (grants_of past ++ grant command topics ∷ []) topics past

-- What is kept of an open subscribe.
pub record IsAsked (past : List Entry) (a : Asked) (command : Pending) : Type 0 where
  pub task : a.task ≡ command.task
  pub id : a.id ≡ command.id
  pub left : a.left ≡ has_left command.task past
  pub filters : filters_of a.asks ≡ filters_of (asks_in command.request)

-- and of the qualities of service that it asks for
pub record IsAskedFor (past : List Entry) (a : Asked) (command : Pending) : Type 0 where
  pub id : a.id ≡ command.id
  pub asks : (topics : List ℕ) → is_one_of (filters_of a.asks) topics ≡ true → last_asked a.asks topics ≡ Some (qos_if past command topics)

-- Behind this past.
pub record Routed (s : Setup) (past : List Entry) (k : Routing) : Type 0 where
  -- the routes of tasks that haven't left, in the order in which they were granted
  pub granted : map route_of k.granted ≡ filter (is_here past) (granted_of past)
  pub sure : AllByRecursion (λ (g : Granted). g.sure ≡ is_sure s past g.topics) k.granted
  -- the open subscribes, in the order of Takes
  pub asked : Matched (IsAsked past) k.asked (subscribes_in (pending_of past))
  pub renewals : k.renewals ≡ renewals_of past

-- and the qualities of service
pub record IsQualified (past : List Entry) (k : Routing) : Type 0 where
  pub granted : AllByRecursion (λ (g : Granted). g.qos ≡ qos_of past g.topics) k.granted
  pub asked : Matched (IsAskedFor past) k.asked (subscribes_in (pending_of past))

-- Both together. What is kept of granted routes may be in any order.
pub record RoutesStand (s : Setup) (past : List Entry) (k : Routing) : Type 0 where
  -- the same in the order in which they were granted
  pub ordered : List Granted
  pub granted : IsReordered ordered k.granted
  pub routed : Routed s past (record k { granted = ordered })
  pub qualified : IsQualified past (record k { granted = ordered })
