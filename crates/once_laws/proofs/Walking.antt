-- What each kind of step keeps holds behind every list of events.
use Rattle.std.proofs.Common.{◌≡◌, ℕ, ◌+◌, ◌*◌, Bool, true, false, List, [], ◌∷◌, Option, Some, None, refl}
use Rattle.agent_journal.specs.declared.entry.Cause.{Cause}
use Rattle.agent_journal.specs.declared.entry.Cause.TheVariants as c
use Rattle.agent_journal.specs.declared.request.Request.{Request}
use Rattle.agent_journal.specs.declared.setup.Setup.{Setup}
use Rattle.agent_journal.specs.declared.setup.Phase.{Phase}
use Rattle.agent_journal.specs.declared.setup.Phase.TheVariants.{Down, Opening, Up, Spilled, Off}
use Rattle.agent_journal.specs.Readings.{takes_of}
use Rattle.agent_table.specs.Histories.{readings, due_by}
use Rattle.agent_table.specs.Sizes.{Sizes}
use Rattle.broker_core.specs.Past as broker
use Rattle.mqtt_packet.specs.declared.qos.Qos.{Qos}
use Rattle.session_world.specs.declared.event.Event.{Event}
use Rattle.session_world.specs.declared.event.Event.TheVariants as v
use Rattle.session_world.specs.Playing as playing
use Rattle.session_world.specs.World.{World, Rising, Falling, Own, entries, kept, phase, stepped, crashed, told_of}

-- A property of worlds is kept by each event that isn't skipped, where another one holds.
pub record IsCarried (s : Setup) (l : Sizes) (Q P : World → Type 0) : Type 0 where
  pub takes : (w : World) (at : ℕ) (request : Request) → phase s l w ≡ Up → Q w → P w → P (stepped s l None at (c.Take 0 (takes_of 0 (entries w)) request) w)
  pub comes : (w : World) (x : Rising) (rest : List Rising) → w.up ≡ x ∷ rest → Q w → P w → P (told_of s l (broker.Comes x.packet) x.origin (record w { up = rest }))
  pub arrives : (w : World) (at : ℕ) (x : Falling) (rest : List Falling) → playing.is_connected (phase s l w) ≡ true → w.down ≡ x ∷ rest → Q w → P w
      → P (stepped s l x.place at (c.Arrived x.packet) (record w { down = rest }))
  pub breaks : (w : World) (at : ℕ) → playing.is_connected (phase s l w) ≡ true → Q w → P w → P (crashed s l at (record w { breaks = w.breaks + 1 }))
  pub opens : (w : World) (at : ℕ) → phase s l w ≡ Down → Q w → P w → P (stepped s l None at c.Opened w)
  pub publishes : (w : World) (qos : Qos) → Q w → P w
      → P (told_of s l (broker.Publishes qos playing.own_topic (playing.four_bytes w.own)) (Some (Own w.own)) (record w { own = w.own + 1 }))
  pub is_due : (w : World) (at : ℕ) (cause : Cause) → due_by s l (readings s l (entries w)) at ≡ Some cause → Q w → P w → P (stepped s l None at cause w)
  pub counts : (w : World) → P w → P (record w { events = w.events + 1 })

is_up : (phase : Phase) → playing.is_up phase ≡ true → phase ≡ Up
is_up Up e = refl
is_up Down e = absurd (cc e)
is_up Opening e = absurd (cc e)
is_up Spilled e = absurd (cc e)
is_up Off e = absurd (cc e)

is_down : (phase : Phase) → playing.is_down phase ≡ true → phase ≡ Down
is_down Down e = refl
is_down Opening e = absurd (cc e)
is_down Up e = absurd (cc e)
is_down Spilled e = absurd (cc e)
is_down Off e = absurd (cc e)

module _ (s : Setup) (l : Sizes) (Q P : World → Type 0) (h : IsCarried s l Q P) where
  abbrev Holds : Option World → Type 0
  Holds None = Unit {0}
  Holds (Some w) = P w

  only : (b : Bool) (w : World) → (b ≡ true → P w) → Holds (playing.only s l b w)
  only true w is = is refl
  only false w is = tt

  up : (b : Bool) (rising : List Rising) (w : World) → w.up ≡ rising → Q w → P w → Holds (playing.delivers_up s l b rising w)
  up true (x ∷ rest) w is o p = h.comes w x rest is o p
  up true [] w is o p = tt
  up false rising w is o p = tt

  down : (at : ℕ) (b : Bool) (falling : List Falling) (w : World) → playing.is_connected (phase s l w) ≡ b → w.down ≡ falling → Q w → P w → Holds (playing.delivers_down s l at b falling w)
  down at true (x ∷ rest) w there is o p = h.arrives w at x rest there is o p
  down at true [] w there is o p = tt
  down at false falling w there is o p = tt

  due : (at : ℕ) (cause : Option Cause) (w : World) → due_by s l (readings s l (entries w)) at ≡ cause → Q w → P w → Holds (playing.due s l cause at w)
  due at None w is o p = tt
  due at (Some cause) w is o p = h.is_due w at cause is o p

  at_event : (at : ℕ) (event : Event) (w : World) → Q w → P w → Holds (playing.played_at s l at event w)
  at_event at (v.Take request) w o p = only (playing.is_up (phase s l w)) (stepped s l None at (c.Take 0 (takes_of 0 (entries w)) request) w) (λ is. h.takes w at request (is_up (phase s l w) is) o p)
  at_event at v.DeliverUp w o p = up (playing.is_there (kept w).link) w.up w refl o p
  at_event at v.DeliverDown w o p = down at (playing.is_connected (phase s l w)) w.down w refl refl o p
  at_event at v.Break w o p = only (playing.is_connected (phase s l w)) (crashed s l at (record w { breaks = w.breaks + 1 })) (λ is. h.breaks w at is o p)
  at_event at v.Reopen w o p = only (playing.is_down (phase s l w)) (stepped s l None at c.Opened w) (λ is. h.opens w at (is_down (phase s l w) is) o p)
  at_event at (v.LocalPublish qos) w o p = h.publishes w qos o p
  at_event at v.Tick w o p = due at (due_by s l (readings s l (entries w)) at) w refl o p

  or_same : (new : Option World) (w : World) → Holds new → P w → P (playing.or_same s l new w)
  or_same None w holds p = p
  or_same (Some new) w holds p = holds

  pub carried : ((w : World) (event : Event) → Q w → Q (playing.played s l w event)) → (events : List Event) (w : World) → Q w → P w → P (playing.all_played s l events w)
  carried other [] w o p = p
  carried other (event ∷ events) w o p =
      carried other events (playing.played s l w event) (other w event o)
      (h.counts (playing.or_same s l (playing.played_now s l event w) w) (or_same (playing.played_now s l event w) w (at_event (10 * w.events) event w o p) p))
