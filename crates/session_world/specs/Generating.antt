-- The list of events that a seed gives.
use Rattle.std.specs.Prelude.{ℕ, zero, suc, ◌+◌, ◌-◌, ◌*◌, ◌/◌, ◌%◌, ◌^◌, ◌==◌, nat_lt, List, [], ◌∷◌, ◌++◌, take, if◌then◌else◌, codes}
use Rattle.mqtt_packet.specs.declared.qos.Qos.{Qos}
use Rattle.mqtt_packet.specs.declared.qos.Qos.TheVariants.{AtMostOnce, AtLeastOnce, ExactlyOnce}
use Rattle.agent_journal.specs.declared.request.Request.TheVariants as requests
use Rattle.session_world.specs.declared.event.Event.{Event}
use Rattle.session_world.specs.declared.event.Event.TheVariants as v
use Rattle.session_world.specs.declared.draws.Draws.{Draws}
use Rattle.session_world.specs.Counts.{out_topic}
use Rattle.session_world.specs.Playing.{four_bytes}

-- ---- Draws: a linear congruential generator modulo 2 ^ 64 (Knuth's MMIX), the high 31 bits of each state

-- the state behind a state
unfoldable pub next : ℕ → ℕ
next x = (6364136223846793005 * x + 1442695040888963407) % 2 ^ 64

-- the draw of a state
abbrev pub draw : ℕ → ℕ
draw x = x / 2 ^ 33

abbrev pub behind : Draws → Draws
behind d = record d { state = next d.state }

-- ---- Events

pub record Drawn : Type 0 where
  pub event : Event
  pub draws : Draws

abbrev pub alone : Event → Draws → Drawn
alone event d = record { event = event; draws = d }

abbrev pub qos_at : ℕ → Qos
qos_at n = if n == 0 then AtMostOnce else if n == 1 then AtLeastOnce else ExactlyOnce

-- a quality of service, by the next draw
abbrev pub qos_by : Draws → Qos
qos_by d = qos_at (draw (next d.state) % 3)

-- a publish, whose payload is how many were drawn before it
abbrev pub publish : Draws → Drawn
publish d = record { event = v.Take (requests.Publish (qos_by d) out_topic (four_bytes d.published)); draws = record { state = next d.state; published = d.published + 1 } }

abbrev pub local : Draws → Drawn
local d = record { event = v.LocalPublish (qos_by d); draws = behind d }

-- one in eight breaks the connection, by the next draw
abbrev pub breaks : Draws → Drawn
breaks d = record { event = if draw (next d.state) % 8 == 0 then v.Break else v.DeliverUp; draws = behind d }

-- by a number below 16, which is the draw before
abbrev pub drawn_by : ℕ → Draws → Drawn
drawn_by e d =
    if nat_lt e 4 then publish d
    else if nat_lt e 8 then alone v.DeliverUp d
    else if nat_lt e 12 then alone v.DeliverDown d
    else if e == 12 then local d
    else if e == 13 then breaks d
    else if e == 14 then alone v.Reopen d
    else alone v.Tick d

unfoldable pub drawn : Draws → Drawn
drawn d = drawn_by (draw (next d.state) % 16) (behind d)

-- so many events
abbrev pub all_drawn : ℕ → Draws → List Event
all_drawn zero d = []
all_drawn (suc n) d = (drawn d).event ∷ all_drawn n (drawn d).draws

-- The agent is connected, and subscribes.
abbrev pub first_events : List Event
first_events = v.Reopen ∷ v.DeliverUp ∷ v.DeliverDown ∷ v.Take (requests.Subscribe (record { filter = codes "in/#"; qos = ExactlyOnce } ∷ [])) ∷ []

abbrev pub seeded : ℕ → Draws
seeded seed = record { state = seed; published = 0 }

-- n events of a seed
abbrev pub generated : ℕ → ℕ → List Event
generated seed n = take n first_events ++ all_drawn (n - 4) (seeded seed)
