-- The events of the world: which of them are skipped, and what the others do.
use Rattle.std.specs.Prelude.{ℕ, ◌+◌, ◌*◌, Bool, true, false, List, [], ◌∷◌, Option, Some, None, codes}
use Rattle.std.specs.Int.{to_be_bytes, w32}
use Rattle.agent_journal.specs.declared.entry.Cause.{Cause}
use Rattle.agent_journal.specs.declared.entry.Cause.TheVariants as c
use Rattle.agent_journal.specs.declared.setup.Setup.{Setup}
use Rattle.agent_journal.specs.declared.setup.Phase.{Phase}
use Rattle.agent_journal.specs.declared.setup.Phase.TheVariants.{Down, Opening, Up, Spilled, Off}
use Rattle.agent_journal.specs.Readings.{takes_of}
use Rattle.agent_table.specs.Histories.{readings, due_by}
use Rattle.agent_table.specs.Sizes.{Sizes}
use Rattle.broker_core.specs.declared.link.Link.{Link}
use Rattle.broker_core.specs.declared.link.Link.TheVariants.{Gone, Opened, Accepted}
use Rattle.broker_core.specs.Past as broker
use Rattle.session_world.specs.declared.event.Event.{Event}
use Rattle.session_world.specs.declared.event.Event.TheVariants as v
use Rattle.session_world.specs.declared.event.Played.{Played}
use Rattle.session_world.specs.declared.event.Played.TheVariants as o
use Rattle.session_world.specs.World.{World, Rising, Falling, Own, entries, kept, phase, stepped, crashed, told_of}

abbrev pub is_up : Phase → Bool
is_up Up = true
is_up _ = false

abbrev pub is_connected : Phase → Bool
is_connected Opening = true
is_connected Up = true
is_connected _ = false

abbrev pub is_down : Phase → Bool
is_down Down = true
is_down _ = false

abbrev pub is_there : Link → Bool
is_there Gone = false
is_there Opened = true
is_there (Accepted clean s) = true

-- a number in 4 bytes, the high one first
abbrev pub four_bytes : ℕ → List ℕ
four_bytes n = to_be_bytes w32 n

-- the broker's own message of this number
abbrev pub own_topic : List ℕ
own_topic = codes "in/a"

module _ (s : Setup) (l : Sizes) where
  -- up's first packet comes to the broker, where it has a connection
  abbrev pub delivers_up : Bool → List Rising → World → Option World
  delivers_up true (x ∷ up) w = Some (told_of s l (broker.Comes x.packet) x.origin (record w { up = up }))
  delivers_up true [] w = None
  delivers_up false up w = None

  -- down's first packet arrives at the agent, in Opening and Up
  abbrev pub delivers_down : ℕ → Bool → List Falling → World → Option World
  delivers_down at true (x ∷ down) w = Some (stepped s l x.place at (c.Arrived x.packet) (record w { down = down }))
  delivers_down at true [] w = None
  delivers_down at false down w = None

  abbrev pub only : Bool → World → Option World
  only true w = Some w
  only false w = None

  abbrev pub due : Option Cause → ℕ → World → Option World
  due None at w = None
  due (Some cause) at w = Some (stepped s l None at cause w)

  -- What an event leaves at a time; None where it is skipped.
  abbrev pub played_at : ℕ → Event → World → Option World
  played_at at (v.Take request) w = only (is_up (phase s l w)) (stepped s l None at (c.Take 0 (takes_of 0 (entries w)) request) w)
  played_at at v.DeliverUp w = delivers_up (is_there (kept w).link) w.up w
  played_at at v.DeliverDown w = delivers_down at (is_connected (phase s l w)) w.down w
  played_at at v.Break w = only (is_connected (phase s l w)) (crashed s l at (record w { breaks = w.breaks + 1 }))
  played_at at v.Reopen w = only (is_down (phase s l w)) (stepped s l None at c.Opened w)
  played_at at (v.LocalPublish qos) w = Some (told_of s l (broker.Publishes qos own_topic (four_bytes w.own)) (Some (Own w.own)) (record w { own = w.own + 1 }))
  played_at at v.Tick w = due (due_by s l (readings s l (entries w)) at) at w

  -- Event i, from 0, has time 10 i, in milliseconds.
  abbrev pub played_now : Event → World → Option World
  played_now event w = played_at (10 * w.events) event w

  abbrev pub or_same : Option World → World → World
  or_same None w = w
  or_same (Some new) w = new

  -- A skipped event counts.
  abbrev pub counted : World → World
  counted w = record w { events = w.events + 1 }

  abbrev pub played : World → Event → World
  played w event = counted (or_same (played_now event w) w)

  abbrev pub all_played : List Event → World → World
  all_played [] w = w
  all_played (event ∷ events) w = all_played events (played w event)

-- what is answered to an event
abbrev pub answer_of : Option World → Played
answer_of None = o.Skipped
answer_of (Some w) = o.Yes
