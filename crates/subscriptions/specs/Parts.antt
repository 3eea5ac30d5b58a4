-- What a SUBACK does to one route or subscribe: parts of the definitions in `Routing`.
use Rattle.std.specs.Prelude.{true, ℕ, List, map, Option, Some, None, if◌then◌else◌, nat_lt}
use Rattle.agent_table.specs.Routes.{coded, granted_in, refused_in}
use Rattle.mqtt_packet.specs.declared.will.Ask.{Ask}
use Rattle.agent_table.specs.Filters.{is_one_of}
use Rattle.subscriptions.specs.Routing.{Granted, Asked, settled, with_granted}

-- an earlier subscribe behind the SUBACK of a later one
abbrev pub settled_by : List (List ℕ) → List Ask → Asked → Asked
settled_by filters asks a = record a { asks = map (settled filters asks) a.asks }

-- a route that a renewal grants is sure
abbrev pub confirmed : List (List ℕ) → Granted → Granted
confirmed filters g = if is_one_of filters g.topics then record g { sure = true } else g

-- what is left of a route behind the SUBACK of a renewal: nothing where its filter is refused
abbrev pub left_of : List Ask → List ℕ → Granted → Option Granted
left_of asks codes g = if is_one_of (refused_in (coded asks codes)) g.topics then None else Some (confirmed (granted_in (coded asks codes)) g)

-- the filter as a route of the task, where its code grants it
abbrev pub with_coded : ℕ → List Ask → ℕ → List Granted → List ℕ → List Granted
with_coded task asks code granted filter = if nat_lt code 128 then with_granted task asks granted filter else granted
