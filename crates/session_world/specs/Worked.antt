-- Worked lists of events.
use Rattle.std.specs.Prelude.{◌≡◌, ◌++◌, List, [], ◌∷◌, None, codes}
use Rattle.mqtt_packet.specs.declared.qos.Qos.TheVariants.{ExactlyOnce}
use Rattle.agent_journal.specs.declared.request.Request.TheVariants as requests
use Rattle.session_world.specs.declared.event.Event.{Event}
use Rattle.session_world.specs.declared.event.Event.TheVariants as v
use Rattle.session_world.specs.declared.totals.Totals.{Totals}
use Rattle.session_world.specs.Counts.{totals}
use Rattle.session_world.specs.Generating.{generated}
use Rattle.session_world.specs.Playing.{played_now, all_played}
use Rattle.session_world.specs.Setups.{dev, usual}
use Rattle.session_world.specs.World.{World, Command, nothing}

abbrev pub world : List Event → World
world events = all_played dev usual events nothing

abbrev pub publish : Event
publish = v.Take (requests.Publish ExactlyOnce (codes "out/a") (codes "hi"))

-- A QoS 2 publish reaches the broker, and the connection breaks before its PUBREC comes.
abbrev pub broken : List Event
broken = v.Reopen ∷ v.DeliverUp ∷ v.DeliverDown ∷ publish ∷ v.DeliverUp ∷ v.Break ∷ []

-- It is sent again, and its PUBREC comes.
abbrev pub resumed : List Event
resumed = broken ++ (v.Reopen ∷ v.DeliverUp ∷ v.DeliverDown ∷ v.DeliverUp ∷ v.DeliverDown ∷ [])

-- The list is empty, so the second of these is skipped; then PUBREL and PUBCOMP.
abbrev pub released : List Event
released = resumed ++ (v.DeliverDown ∷ v.DeliverUp ∷ v.DeliverDown ∷ [])

pub record PassedOnce : Type 0 where
  -- The repeat isn't passed on, and the publish is done.
  pub origins : (world released).origins ≡ Command 0 0 ∷ []
  pub totals : totals (world released) ≡ record { taken = 1; done = 1; passed = 1; own = 0; told = 0; breaks = 1 }
  pub skipped : played_now dev usual v.DeliverDown (world resumed) ≡ None

-- The first four events of a seed connect and subscribe.
pub record BeginsEmpty : Type 0 where
  pub totals : totals (world (generated 1 4)) ≡ record { taken = 0; done = 0; passed = 0; own = 0; told = 0; breaks = 0 }

-- A message of the broker's own, at QoS 2, comes to the task once, though it arrives twice.
abbrev pub subscribe : Event
subscribe = v.Take (requests.Subscribe (record { filter = codes "in/#"; qos = ExactlyOnce } ∷ []))

abbrev pub repeated : List Event
repeated =
    v.Reopen ∷ v.DeliverUp ∷ v.DeliverDown ∷ subscribe ∷ v.DeliverUp ∷ v.DeliverDown ∷ v.LocalPublish ExactlyOnce ∷ v.DeliverDown ∷ v.Break ∷ v.Reopen ∷ v.DeliverUp ∷ v.DeliverDown ∷ v.DeliverDown ∷ []

pub record ToldOnce : Type 0 where
  pub totals : totals (world repeated) ≡ record { taken = 0; done = 0; passed = 0; own = 1; told = 1; breaks = 1 }
