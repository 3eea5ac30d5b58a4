-- What holds of each world that events lead to.
use Rattle.std.proofs.Common.{◌≡◌, ℕ, suc, ◌+◌, ◌*◌, ◌≤◌, Bool, true, false, cond, List, [], ◌∷◌, ◌++◌, map, length, Option, Some, None, refl, sym, ap, ◌∙◌, subst, arith}
use Rattle.std.specs.List.{AllByRecursion}
use Rattle.mqtt_packet.specs.declared.packet.Packet.{Packet}
use Rattle.mqtt_packet.specs.declared.qos.Qos.{Qos}
use Rattle.agent_journal.specs.declared.entry.Cause.{Cause}
use Rattle.agent_journal.specs.declared.entry.Cause.TheVariants as c
use Rattle.agent_journal.specs.declared.entry.Why.TheVariants as why
use Rattle.agent_journal.specs.declared.entry.Entry.{Entry}
use Rattle.agent_journal.specs.declared.effect.Effect.{Effect}
use Rattle.agent_journal.specs.declared.setup.Setup.{Setup}
use Rattle.agent_journal.specs.declared.setup.Phase.{Phase}
use Rattle.agent_journal.specs.declared.setup.Phase.TheVariants.{Down, Opening, Up, Spilled, Off}
use Rattle.agent_journal.specs.Readings.{pending_of, takes_of}
use Rattle.agent_journal.specs.Setups.{is_client}
use Rattle.agent_table.specs.Histories.{IsLegalPast, phase_of, phase_by, row, effects_of, readings, due_by}
use Rattle.agent_table.specs.Rows.{Row}
use Rattle.agent_table.specs.Sizes.{Sizes}
use Rattle.broker_core.specs.declared.link.Link.{Link}
use Rattle.broker_core.specs.declared.link.Link.TheVariants.{Gone, Opened, Accepted}
use Rattle.broker_core.specs.Kept as spec
use Rattle.broker_core.specs.Past as broker
use Rattle.broker_core.specs.Rules as rules
use Rattle.session_world.specs.declared.event.Event.{Event}
use Rattle.session_world.specs.declared.event.Event.TheVariants as v
use Rattle.session_world.specs.Laws.{StayReady}
use Rattle.session_world.specs.Playing as playing
use Rattle.session_world.specs.Ready.{Rises, IsSteady, IsReady}
use Rattle.session_world.specs.Setups.{dev, usual}
use Rattle.session_world.specs.World.{World, Rising, Falling, Own, entries, kept, noted, sent, followed, emptied, stepped, stepped_by, faulted_by, faulted_in, crashed, told_of, phase, nothing}
use Rattle.session_world.proofs.Risen.{sound_behind, row_sound}
use Rattle.session_world.proofs.Rows.{Stays, IsNoBreak, stays}

module _ (s : Setup) (l : Sizes) where
  -- ---- An entry

  stays_up : (row : Option Row) (found : Row) → row ≡ Some found → Stays row → found.phase ≡ Down → ⊥
  stays_up row found e h = subst Stays e h

  legal_behind : (past : List Entry) (at : ℕ) (cause : Cause) (found : Row) → row s l past at cause ≡ Some found → IsLegalPast s l past → IsLegalPast s l (record { at = at; cause = cause; effects = found.effects } ∷ past)
  legal_behind past at cause found e legal = (ap effects_of e, legal)

  phase_behind : (past : List Entry) (at : ℕ) (cause : Cause) (found : Row) → row s l past at cause ≡ Some found → phase_of s l (record { at = at; cause = cause; effects = found.effects } ∷ past) ≡ found.phase
  phase_behind past at cause found e = ap (λ r. phase_by r (phase_of s l past)) e

  -- one that isn't of a break, whatever the broker keeps then
  steady_by : (w new : World) (place : Option ℕ) (at : ℕ) (cause : Cause) (found : Row) → is_client s.client ≡ true → s.wipe ≡ false → IsNoBreak s l (readings s l (entries w)) cause
      → row s l (entries w) at cause ≡ Some found → IsSteady s l w
      → new.past ≡ (sent s l cause found.effects (noted s l place at cause found.effects w)).past → new.up ≡ (sent s l cause found.effects (noted s l place at cause found.effects w)).up → IsSteady s l new
  steady_by w new place at cause found client wipe no_break e h past up = record {
    legal = subst (λ es. IsLegalPast s l (map (λ n. n.entry) es)) (sym past) (legal_behind (entries w) at cause found e h.legal);
    sound = subst (AllByRecursion Rises) (sym up)
        (sound_behind s l cause (pending_of (record { at = at; cause = cause; effects = found.effects } ∷ entries w)) w.up found.effects h.sound
        (row_sound s l (entries w) at cause found.effects client h.legal (ap effects_of e)));
    gone = λ is. absurd (stays_up (row s l (entries w) at cause) found e (stays s l (readings s l (entries w)) at cause wiping no_break)
        (sym (phase_behind (entries w) at cause found e) ∙ ap (λ es. phase_of s l (map (λ n. n.entry) es)) (sym past) ∙ is));
  }
    where
      wiping : (readings s l (entries w)).wiping ≡ false
      wiping = rw wipe refl

  -- one of a break
  steady_broke : (w new : World) (at : ℕ) (cause : Cause) (found : Row) → row s l (entries w) at cause ≡ Some found → IsSteady s l w
      → entries new ≡ record { at = at; cause = cause; effects = found.effects } ∷ entries w → new.up ≡ [] → (kept new).link ≡ Gone → IsSteady s l new
  steady_broke w new at cause found e h past up gone = record {
    legal = subst (IsLegalPast s l) (sym past) (legal_behind (entries w) at cause found e h.legal);
    sound = subst (AllByRecursion Rises) (sym up) tt;
    gone = λ is. gone;
  }

  steady_stepped : (w : World) (place : Option ℕ) (at : ℕ) (cause : Cause) → is_client s.client ≡ true → s.wipe ≡ false → IsSteady s l w → IsSteady s l (stepped s l place at cause w)
  steady_stepped w place at cause client wipe h = go (row s l (entries w) at cause) refl
    where
      some : (cause : Cause) (found : Row) → row s l (entries w) at cause ≡ Some found → IsSteady s l (stepped_by s l (Some found) place at cause w)
      some (c.Broke reason) found e = steady_broke w (stepped_by s l (Some found) place at (c.Broke reason) w) at (c.Broke reason) found e h refl refl refl
      some c.Opened found e = steady_by w (stepped_by s l (Some found) place at c.Opened w) place at c.Opened found client wipe tt e h refl refl
      some (c.Take task seq request) found e = steady_by w (stepped_by s l (Some found) place at (c.Take task seq request) w) place at (c.Take task seq request) found client wipe tt e h refl refl
      some (c.Arrived packet) found e = steady_by w (stepped_by s l (Some found) place at (c.Arrived packet) w) place at (c.Arrived packet) found client wipe tt e h refl refl
      some c.Tick found e = steady_by w (stepped_by s l (Some found) place at c.Tick w) place at c.Tick found client wipe tt e h refl refl
      some c.GaveUp found e = steady_by w (stepped_by s l (Some found) place at c.GaveUp w) place at c.GaveUp found client wipe tt e h refl refl
      some c.Finish found e = steady_by w (stepped_by s l (Some found) place at c.Finish w) place at c.Finish found client wipe tt e h refl refl

      go : (r : Option Row) → row s l (entries w) at cause ≡ r → IsSteady s l (stepped_by s l r place at cause w)
      go None e = h
      go (Some found) e = some cause found e

  -- a break, in any phase
  legal_faulted : (w : World) (at : ℕ) → IsLegalPast s l (entries w) → IsLegalPast s l (entries (faulted_in s l (phase s l w) at w))
  legal_faulted w at legal = by (phase s l w)
    where
      go : (r : Option Row) → row s l (entries w) at (c.Broke why.Fault) ≡ r → IsLegalPast s l (entries (faulted_by s l r at w))
      go None e = legal
      go (Some found) e = legal_behind (entries w) at (c.Broke why.Fault) found e legal

      by : (phase : Phase) → IsLegalPast s l (entries (faulted_in s l phase at w))
      by Down = legal
      by Opening = go (row s l (entries w) at (c.Broke why.Fault)) refl
      by Up = go (row s l (entries w) at (c.Broke why.Fault)) refl
      by Spilled = go (row s l (entries w) at (c.Broke why.Fault)) refl
      by Off = legal

  steady_crashed : (w : World) (at : ℕ) → IsSteady s l w → IsSteady s l (crashed s l at w)
  steady_crashed w at h = record { legal = legal_faulted w at h.legal; sound = tt; gone = λ is. refl }

  -- ---- The broker

  own_gone : (k : spec.Kept) (link : Link) (qos : Qos) (topic payload : List ℕ) → link ≡ Gone → (rules.passes_own link qos topic (rules.own_message qos topic payload) k).kept.link ≡ Gone
  own_gone k Gone qos topic payload e = refl
  own_gone k Opened qos topic payload e = absurd (cc e)
  own_gone k (Accepted clean session) qos topic payload e = absurd (cc e)

  there_stays : (link : Link) → playing.is_there link ≡ true → link ≡ Gone → ⊥
  there_stays Gone e is = absurd (cc e)
  there_stays Opened e is = absurd (cc is)
  there_stays (Accepted clean session) e is = absurd (cc is)

  -- ---- An event

  abbrev Steady : Option World → Type 0
  Steady None = Unit {0}
  Steady (Some w) = IsSteady s l w

  steady_only : (b : Bool) (w : World) → IsSteady s l w → Steady (playing.only s l b w)
  steady_only true w h = h
  steady_only false w h = tt

  steady_up : (b : Bool) (up : List Rising) (w : World) → playing.is_there (kept w).link ≡ b → w.up ≡ up → IsSteady s l w → Steady (playing.delivers_up s l b up w)
  steady_up true (x ∷ up) w there is h = record {
    legal = h.legal;
    sound = (subst (AllByRecursion Rises) is h.sound).1;
    gone = λ down. absurd (there_stays (kept w).link there (h.gone down));
  }
  steady_up true [] w there is h = tt
  steady_up false up w there is h = tt

  steady_down : (at : ℕ) (b : Bool) (down : List Falling) (w : World) → is_client s.client ≡ true → s.wipe ≡ false → IsSteady s l w → Steady (playing.delivers_down s l at b down w)
  steady_down at true (x ∷ down) w client wipe h = steady_stepped (record w { down = down }) x.place at (c.Arrived x.packet) client wipe (record { legal = h.legal; sound = h.sound; gone = h.gone })
  steady_down at true [] w client wipe h = tt
  steady_down at false down w client wipe h = tt

  steady_due : (at : ℕ) (cause : Option Cause) (w : World) → is_client s.client ≡ true → s.wipe ≡ false → IsSteady s l w → Steady (playing.due s l cause at w)
  steady_due at None w client wipe h = tt
  steady_due at (Some cause) w client wipe h = steady_stepped w None at cause client wipe h

  steady_event : (at : ℕ) (event : Event) (w : World) → is_client s.client ≡ true → s.wipe ≡ false → IsSteady s l w → Steady (playing.played_at s l at event w)
  steady_event at (v.Take request) w client wipe h =
      steady_only (playing.is_up (phase s l w)) (stepped s l None at (c.Take 0 (takes_of 0 (entries w)) request) w) (steady_stepped w None at (c.Take 0 (takes_of 0 (entries w)) request) client wipe h)
  steady_event at v.DeliverUp w client wipe h = steady_up (playing.is_there (kept w).link) w.up w refl refl h
  steady_event at v.DeliverDown w client wipe h = steady_down at (playing.is_connected (phase s l w)) w.down w client wipe h
  steady_event at v.Break w client wipe h =
      steady_only (playing.is_connected (phase s l w)) (crashed s l at (record w { breaks = w.breaks + 1 })) (steady_crashed (record w { breaks = w.breaks + 1 }) at (record { legal = h.legal; sound = h.sound; gone = h.gone }))
  steady_event at v.Reopen w client wipe h = steady_only (playing.is_down (phase s l w)) (stepped s l None at c.Opened w) (steady_stepped w None at c.Opened client wipe h)
  steady_event at (v.LocalPublish qos) w client wipe h = record {
    legal = h.legal;
    sound = h.sound;
    gone = λ down. own_gone (kept w) (kept w).link qos playing.own_topic (playing.four_bytes w.own) (h.gone down);
  }
  steady_event at v.Tick w client wipe h = steady_due at (due_by s l (readings s l (entries w)) at) w client wipe h

  -- ---- How much is noted and counted

  -- at most one entry, one message and one break more, and as many events
  pub record IsOneMore (w new : World) : Type 0 where
    pub entries : length new.past ≤ length w.past + 1
    pub own : new.own ≤ w.own + 1
    pub breaks : new.breaks ≤ w.breaks + 1
    pub events : new.events ≡ w.events

  same : (w : World) → IsOneMore w w
  same w = record { entries = omega arith; own = omega arith; breaks = omega arith; events = refl }

  one_stepped : (w : World) (place : Option ℕ) (at : ℕ) (cause : Cause) → IsOneMore w (stepped s l place at cause w)
  one_stepped w place at cause = go (row s l (entries w) at cause) cause
    where
      more : (new : World) → new.own ≡ w.own → new.breaks ≡ w.breaks → new.events ≡ w.events → length new.past ≡ length w.past + 1 → IsOneMore w new
      more new own breaks events past = record { entries = omega (arith, past); own = omega (arith, own); breaks = omega (arith, breaks); events = events }

      go : (r : Option Row) (cause : Cause) → IsOneMore w (stepped_by s l r place at cause w)
      go None cause = same w
      go (Some found) (c.Broke reason) = more (stepped_by s l (Some found) place at (c.Broke reason) w) refl refl refl (omega arith)
      go (Some found) c.Opened = more (stepped_by s l (Some found) place at c.Opened w) refl refl refl (omega arith)
      go (Some found) (c.Take task seq request) = more (stepped_by s l (Some found) place at (c.Take task seq request) w) refl refl refl (omega arith)
      go (Some found) (c.Arrived packet) = more (stepped_by s l (Some found) place at (c.Arrived packet) w) refl refl refl (omega arith)
      go (Some found) c.Tick = more (stepped_by s l (Some found) place at c.Tick w) refl refl refl (omega arith)
      go (Some found) c.GaveUp = more (stepped_by s l (Some found) place at c.GaveUp w) refl refl refl (omega arith)
      go (Some found) c.Finish = more (stepped_by s l (Some found) place at c.Finish w) refl refl refl (omega arith)

  one_faulted : (w : World) (at : ℕ) (phase : Phase) → (length (faulted_in s l phase at w).past ≤ length w.past + 1) × ((faulted_in s l phase at w).own ≡ w.own) × ((faulted_in s l phase at w).breaks ≡ w.breaks) × ((faulted_in s l phase at w).events ≡ w.events)
  one_faulted w at phase = by phase
    where
      go : (r : Option Row) → (length (faulted_by s l r at w).past ≤ length w.past + 1) × ((faulted_by s l r at w).own ≡ w.own) × ((faulted_by s l r at w).breaks ≡ w.breaks) × ((faulted_by s l r at w).events ≡ w.events)
      go None = (omega arith, refl, refl, refl)
      go (Some found) = (omega arith, refl, refl, refl)

      by : (phase : Phase) → (length (faulted_in s l phase at w).past ≤ length w.past + 1) × ((faulted_in s l phase at w).own ≡ w.own) × ((faulted_in s l phase at w).breaks ≡ w.breaks) × ((faulted_in s l phase at w).events ≡ w.events)
      by Down = (omega arith, refl, refl, refl)
      by Opening = go (row s l (entries w) at (c.Broke why.Fault))
      by Up = go (row s l (entries w) at (c.Broke why.Fault))
      by Spilled = go (row s l (entries w) at (c.Broke why.Fault))
      by Off = (omega arith, refl, refl, refl)

  abbrev One : World → Option World → Type 0
  One w None = Unit {0}
  One w (Some new) = IsOneMore w new

  one_only : (b : Bool) (w new : World) → IsOneMore w new → One w (playing.only s l b new)
  one_only true w new h = h
  one_only false w new h = tt

  one_up : (b : Bool) (up : List Rising) (w : World) → One w (playing.delivers_up s l b up w)
  one_up true (x ∷ up) w = record { entries = omega arith; own = omega arith; breaks = omega arith; events = refl }
  one_up true [] w = tt
  one_up false up w = tt

  one_down : (at : ℕ) (b : Bool) (down : List Falling) (w : World) → One w (playing.delivers_down s l at b down w)
  one_down at true (x ∷ down) w =
      let h = one_stepped (record w { down = down }) x.place at (c.Arrived x.packet) in record { entries = h.entries; own = h.own; breaks = h.breaks; events = h.events }
  one_down at true [] w = tt
  one_down at false down w = tt

  one_due : (at : ℕ) (cause : Option Cause) (w : World) → One w (playing.due s l cause at w)
  one_due at None w = tt
  one_due at (Some cause) w = one_stepped w None at cause

  one_event : (at : ℕ) (event : Event) (w : World) → One w (playing.played_at s l at event w)
  one_event at (v.Take request) w = one_only (playing.is_up (phase s l w)) w (stepped s l None at (c.Take 0 (takes_of 0 (entries w)) request) w) (one_stepped w None at (c.Take 0 (takes_of 0 (entries w)) request))
  one_event at v.DeliverUp w = one_up (playing.is_there (kept w).link) w.up w
  one_event at v.DeliverDown w = one_down at (playing.is_connected (phase s l w)) w.down w
  one_event at v.Break w =
      let h = one_faulted (record w { breaks = w.breaks + 1 }) at (phase s l w) in
      one_only (playing.is_connected (phase s l w)) w (crashed s l at (record w { breaks = w.breaks + 1 })) (record { entries = h.0; own = omega (arith, h.1); breaks = omega (arith, h.2); events = h.3 })
  one_event at v.Reopen w = one_only (playing.is_down (phase s l w)) w (stepped s l None at c.Opened w) (one_stepped w None at c.Opened)
  one_event at (v.LocalPublish qos) w = record { entries = omega arith; own = omega arith; breaks = omega arith; events = refl }
  one_event at v.Tick w = one_due at (due_by s l (readings s l (entries w)) at) w

  -- ---- Each event, and all

  ready_by : (w : World) (new : Option World) → IsReady s l w → Steady new → One w new → IsReady s l (playing.counted s l (playing.or_same s l new w))
  ready_by w None h steady one = record {
    steady = record { legal = h.steady.legal; sound = h.steady.sound; gone = h.steady.gone };
    entries = omega (arith, h.entries);
    own = omega (arith, h.own);
    breaks = omega (arith, h.breaks);
  }
  ready_by w (Some new) h steady one = record {
    steady = record { legal = steady.legal; sound = steady.sound; gone = steady.gone };
    entries = omega (arith, h.entries, one.entries, one.events);
    own = omega (arith, h.own, one.own, one.events);
    breaks = omega (arith, h.breaks, one.breaks, one.events);
  }

  pub ready_played : (w : World) (event : Event) → is_client s.client ≡ true → s.wipe ≡ false → IsReady s l w → IsReady s l (playing.played s l w event)
  ready_played w event client wipe h = ready_by w (playing.played_now s l event w) h (steady_event (10 * w.events) event w client wipe h.steady) (one_event (10 * w.events) event w)

  pub ready_all : (events : List Event) (w : World) → is_client s.client ≡ true → s.wipe ≡ false → IsReady s l w → IsReady s l (playing.all_played s l events w)
  ready_all [] w client wipe h = h
  ready_all (event ∷ events) w client wipe h = ready_all events (playing.played s l w event) client wipe (ready_played w event client wipe h)

  pub ready_first : IsReady s l nothing
  ready_first = record { steady = record { legal = tt; sound = tt; gone = λ is. refl }; entries = omega arith; own = omega arith; breaks = omega arith }

pub dev_is_client : is_client dev.client ≡ true
unfolding is_client
dev_is_client = refl

pub stay_ready : StayReady
stay_ready events = ready_all dev usual events nothing dev_is_client refl (ready_first dev usual)
