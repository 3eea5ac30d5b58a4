-- What is kept of a world, and which worlds it stands for.
use Rattle.std.specs.Prelude.{◌≡◌, ℕ, Bool, List, map, length, Option, Some, None}
use Rattle.mqtt_packet.specs.declared.packet.Packet.{Packet}
use Rattle.agent_core.specs.Kept as agent
use Rattle.agent_core.specs.Stands as agents
use Rattle.agent_journal.specs.Readings.{takes_of}
use Rattle.broker_core.specs.Kept as broker
use Rattle.broker_core.specs.Past as brokers
use Rattle.session_world.specs.Counts.{total, published_by, done_by, told_by}
use Rattle.session_world.specs.declared.event.Event.{Event}
use Rattle.session_world.specs.declared.event.Played.{Played}
use Rattle.session_world.specs.declared.event.Played.TheVariants as o
use Rattle.session_world.specs.declared.notes.Notes.{Notes}
use Rattle.session_world.specs.Noted.{AreFew}
use Rattle.session_world.specs.Ready.{IsReady}
use Rattle.session_world.specs.Playing.{played_now}
use Rattle.session_world.specs.Setups.{dev, usual}
use Rattle.session_world.specs.World.{World, Rising, Falling, entries}

pub record Kept : Type 0 where
  pub core : agent.Kept
  pub broker : broker.Kept
  pub up : List Packet
  pub down : List Packet
  pub notes : Notes
  pub events : ℕ
  pub own : ℕ
  pub breaks : ℕ

abbrev pub rises_in : List Rising → List Packet
rises_in up = map (λ (x : Rising). x.packet) up

abbrev pub falls_in : List Falling → List Packet
falls_in down = map (λ (x : Falling). x.packet) down

-- All but the labels is kept: the agent stands for the journal and the broker for its events.
pub record Ties (k : Kept) (w : World) : Type 0 where
  pub setup : k.core.setup ≡ dev
  pub sizes : k.core.sizes ≡ usual
  pub journal : agents.StandsFor k.core (entries w)
  pub told : brokers.StandsFor k.broker w.told
  pub rises : k.up ≡ rises_in w.up
  pub falls : k.down ≡ falls_in w.down
  pub count : k.notes.entries ≡ length w.past
  pub takes : k.notes.takes ≡ takes_of 0 (entries w)
  pub published : k.notes.published ≡ total published_by (entries w)
  pub done : k.notes.done ≡ total done_by (entries w)
  pub passes : k.notes.told ≡ total told_by (entries w)
  pub events : k.events ≡ w.events
  pub own : k.own ≡ w.own
  pub breaks : k.breaks ≡ w.breaks
  pub few : AreFew k.notes

pub record StandsFor (k : Kept) (w : World) : Type 0 where
  pub ties : Ties k w
  pub ready : IsReady dev usual w

-- It stands for some world.
abbrev pub Stood : Kept → Type 0
Stood k = (w : World) × StandsFor k w

-- What came of an event is what the definition says, and the world is kept that it leaves.
abbrev pub IsPlayed : Played → Option World → World → Kept → Type 0
IsPlayed played None w k = (played ≡ o.Skipped) × Ties k w
IsPlayed played (Some new) w k = (played ≡ o.Yes) × Ties k new

abbrev pub Plays : Kept → Event → Played → Kept → Type 0
Plays old event played new = (w : World) → StandsFor old w → IsPlayed played (played_now dev usual event w) w new

-- Once there was no memory for an event, no more are played.
pub record Whole : Type 0 where
  pub kept : Kept
  pub spoiled : Bool
