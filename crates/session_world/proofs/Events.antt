-- What came of an event, and what is kept then.
use Rattle.std.proofs.Common.{◌≡◌, ℕ, ◌+◌, ◌*◌, Bool, true, false, List, [], ◌∷◌, ◌++◌, map, Option, Some, None, refl, sym, ap, ◌∙◌, subst}
use Rattle.std.specs.List.{AllByRecursion}
use Rattle.mqtt_packet.specs.declared.packet.Packet.{Packet}
use Rattle.mqtt_packet.specs.declared.qos.Qos.{Qos}
use Rattle.mqtt_packet.specs.Spelling.{is_sound}
use Rattle.topic_filter.specs.Texts.{is_name}
use Rattle.agent_journal.specs.declared.entry.Cause.{Cause}
use Rattle.agent_journal.specs.declared.entry.Cause.TheVariants as c
use Rattle.agent_journal.specs.declared.entry.Why.TheVariants as why
use Rattle.agent_journal.specs.declared.entry.Entry.{Entry}
use Rattle.agent_journal.specs.declared.request.Request.{Request}
use Rattle.agent_journal.specs.declared.setup.Phase.{Phase}
use Rattle.agent_journal.specs.declared.setup.Phase.TheVariants.{Down, Opening, Up, Spilled, Off}
use Rattle.agent_journal.specs.Readings.{takes_of}
use Rattle.agent_core.specs.Stands as agents
use Rattle.agent_table.specs.Histories.{row, readings, due_by}
use Rattle.agent_table.specs.Rows.{Row}
use Rattle.broker_core.specs.declared.link.Link.{Link}
use Rattle.broker_core.specs.declared.link.Link.TheVariants.{Gone, Opened, Accepted}
use Rattle.broker_core.specs.Kept as broker
use Rattle.broker_core.specs.Past as brokers
use Rattle.session_world.specs.declared.event.Event.{Event}
use Rattle.session_world.specs.declared.event.Event.TheVariants as v
use Rattle.session_world.specs.declared.event.Played.{Played}
use Rattle.session_world.specs.declared.event.Played.TheVariants as o
use Rattle.session_world.specs.Kept.{Kept, Ties, StandsFor, Stood, Plays, IsPlayed, rises_in, falls_in}
use Rattle.session_world.specs.Playing.{is_up, is_connected, is_down, is_there, only, delivers_up, delivers_down, due, played, played_now, counted, or_same, answer_of, own_topic, four_bytes}
use Rattle.session_world.specs.Ready.{Rises}
use Rattle.session_world.specs.Setups.{dev, usual}
use Rattle.session_world.specs.World.{World, Rising, Falling, Origin, Own, entries, kept, phase, stepped, crashed, emptied, faulted_by, faulted_in, told_of}
use Rattle.session_world.proofs.Steady.{ready_played, dev_is_client}
use Rattle.session_world.proofs.Tying.{phase_ties, told_ties}

-- ---- Events that ask for a phase

not_now : (b : Bool) (w new : World) (k : Kept) → b ≡ false → Ties k w → IsPlayed o.Skipped (only dev usual b new) w k
not_now true w new k e h = absurd (cc e)
not_now false w new k e h = (refl, h)

just_now : (b : Bool) (w new : World) (k : Kept) → b ≡ true → Ties k new → IsPlayed o.Yes (only dev usual b new) w k
just_now true w new k e h = (refl, h)
just_now false w new k e h = absurd (cc e)

same_test : (test : Phase → Bool) (k : Kept) (w : World) → Ties k w → test k.core.phase ≡ test (phase dev usual w)
same_test test k w h = ap test (phase_ties k w h)

pub take_skipped : (k : Kept) (request : Request) → is_up k.core.phase ≡ false → Plays k (v.Take request) o.Skipped k
take_skipped k request e w h = not_now (is_up (phase dev usual w)) w (stepped dev usual None (10 * w.events) (c.Take 0 (takes_of 0 (entries w)) request) w) k (sym (same_test is_up k w h.ties) ∙ e) h.ties

pub reopen_skipped : (k : Kept) → is_down k.core.phase ≡ false → Plays k v.Reopen o.Skipped k
reopen_skipped k e w h = not_now (is_down (phase dev usual w)) w (stepped dev usual None (10 * w.events) c.Opened w) k (sym (same_test is_down k w h.ties) ∙ e) h.ties

pub break_skipped : (k : Kept) → is_connected k.core.phase ≡ false → Plays k v.Break o.Skipped k
break_skipped k e w h = not_now (is_connected (phase dev usual w)) w (crashed dev usual (10 * w.events) (record w { breaks = w.breaks + 1 })) k (sym (same_test is_connected k w h.ties) ∙ e) h.ties

-- an entry was made
abbrev pub Entered : Kept → Cause → Kept → Type 0
Entered old cause new = (w : World) (place : Option ℕ) → StandsFor old w → Ties new (stepped dev usual place (10 * w.events) cause w)

pub take_played : (k new : Kept) (request : Request) → is_up k.core.phase ≡ true → Entered k (c.Take 0 k.notes.takes request) new → Plays k (v.Take request) o.Yes new
take_played k new request e made w h =
    just_now (is_up (phase dev usual w)) w (stepped dev usual None (10 * w.events) (c.Take 0 (takes_of 0 (entries w)) request) w) new (sym (same_test is_up k w h.ties) ∙ e)
    (subst (λ n. Ties new (stepped dev usual None (10 * w.events) (c.Take 0 n request) w)) h.ties.takes (made w None h))

pub reopen_played : (k new : Kept) → is_down k.core.phase ≡ true → Entered k c.Opened new → Plays k v.Reopen o.Yes new
reopen_played k new e made w h = just_now (is_down (phase dev usual w)) w (stepped dev usual None (10 * w.events) c.Opened w) new (sym (same_test is_down k w h.ties) ∙ e) (made w None h)

-- ---- A break

-- a break counted before it or behind it
crashed_ties : (k : Kept) (w : World) (at breaks : ℕ) → breaks ≡ k.breaks + 1 → k.breaks ≡ w.breaks → Ties k (emptied dev usual (faulted_in dev usual (phase dev usual w) at w)) → Ties (record k { breaks = breaks }) (crashed dev usual at (record w { breaks = w.breaks + 1 }))
crashed_ties k w at breaks one same h = by (phase dev usual w) h
  where
    more : breaks ≡ w.breaks + 1
    more = one ∙ ap (λ n. n + 1) same

    again : (v1 v2 : World) → v2 ≡ record v1 { breaks = w.breaks + 1 } → Ties k v1 → Ties (record k { breaks = breaks }) v2
    again v1 v2 is h = subst (Ties (record k { breaks = breaks })) (sym is) (record {
      setup = h.setup;
      sizes = h.sizes;
      journal = h.journal;
      told = h.told;
      rises = h.rises;
      falls = h.falls;
      count = h.count;
      takes = h.takes;
      published = h.published;
      done = h.done;
      passes = h.passes;
      events = h.events;
      own = h.own;
      breaks = more;
      few = h.few;
    })

    go : (r : Option Row) → Ties k (emptied dev usual (faulted_by dev usual r at w)) → Ties (record k { breaks = breaks }) (emptied dev usual (faulted_by dev usual r at (record w { breaks = w.breaks + 1 })))
    go None h = again (emptied dev usual (faulted_by dev usual None at w)) (emptied dev usual (faulted_by dev usual None at (record w { breaks = w.breaks + 1 }))) refl h
    go (Some found) h = again (emptied dev usual (faulted_by dev usual (Some found) at w)) (emptied dev usual (faulted_by dev usual (Some found) at (record w { breaks = w.breaks + 1 }))) refl h

    by : (p : Phase) → Ties k (emptied dev usual (faulted_in dev usual p at w)) → Ties (record k { breaks = breaks }) (emptied dev usual (faulted_in dev usual p at (record w { breaks = w.breaks + 1 })))
    by Down h = again (emptied dev usual w) (emptied dev usual (record w { breaks = w.breaks + 1 })) refl h
    by Opening h = go (row dev usual (entries w) at (c.Broke why.Fault)) h
    by Up h = go (row dev usual (entries w) at (c.Broke why.Fault)) h
    by Spilled h = go (row dev usual (entries w) at (c.Broke why.Fault)) h
    by Off h = again (emptied dev usual w) (emptied dev usual (record w { breaks = w.breaks + 1 })) refl h

pub break_played : (k mid empty : Kept) (breaks : ℕ) → is_connected k.core.phase ≡ true
    → ((w : World) → StandsFor k w → is_connected (phase dev usual w) ≡ true → Ties mid (faulted_in dev usual (phase dev usual w) (10 * w.events) w))
    → ((w : World) → Ties mid w → Ties empty (emptied dev usual w)) → empty.breaks ≡ k.breaks → breaks ≡ empty.breaks + 1 → Plays k v.Break o.Yes (record empty { breaks = breaks })
break_played k mid empty breaks e faulted emptied same one w h =
    let now : is_connected (phase dev usual w) ≡ true = sym (same_test is_connected k w h.ties) ∙ e in
    just_now (is_connected (phase dev usual w)) w (crashed dev usual (10 * w.events) (record w { breaks = w.breaks + 1 })) (record empty { breaks = breaks }) now
    (crashed_ties empty w (10 * w.events) breaks one (same ∙ h.ties.breaks) (emptied (faulted_in dev usual (phase dev usual w) (10 * w.events) w) (faulted w h now)))

-- ---- A packet arrives

down_now : (b : Bool) (down : List Falling) (w : World) (k : Kept) (at : ℕ) → b ≡ false → Ties k w → IsPlayed o.Skipped (delivers_down dev usual at b down w) w k
down_now true down w k at e h = absurd (cc e)
down_now false down w k at e h = (refl, h)

pub down_skipped : (k : Kept) → is_connected k.core.phase ≡ false → Plays k v.DeliverDown o.Skipped k
down_skipped k e w h = down_now (is_connected (phase dev usual w)) w.down w k (10 * w.events) (sym (same_test is_connected k w h.ties) ∙ e) h.ties

none_under_way : (down : List Falling) → [] ≡ falls_in down → down ≡ []
none_under_way [] e = refl
none_under_way (x ∷ down) e = absurd (cc e)

none_down : (b : Bool) (down : List Falling) (w : World) (k : Kept) (at : ℕ) → down ≡ [] → Ties k w → IsPlayed o.Skipped (delivers_down dev usual at b down w) w k
none_down true [] w k at e h = (refl, h)
none_down true (x ∷ down) w k at e h = absurd (cc e)
none_down false down w k at e h = (refl, h)

pub down_empty : (k new : Kept) (rest : List Packet) → k.down ≡ [] → rest ≡ [] → Plays k v.DeliverDown o.Skipped (record k { down = rest })
down_empty k new rest none still w h =
    none_down (is_connected (phase dev usual w)) w.down w (record k { down = rest }) (10 * w.events) (none_under_way w.down (sym none ∙ h.ties.falls)) (subst (λ ps. Ties (record k { down = ps }) w) (none ∙ sym still) h.ties)

abbrev first_or : {X : Type 0} → X → List X → X
first_or x [] = x
first_or x (y ∷ ys) = y

abbrev rest_of : {X : Type 0} → List X → List X
rest_of [] = []
rest_of (y ∷ ys) = ys

-- the world without its first packet on the way down
pub without_first : (k : Kept) (packet : Packet) (rest : List Packet) (x : Falling) (down : List Falling) (w : World) → k.down ≡ packet ∷ rest → w.down ≡ x ∷ down → StandsFor k w
    → (packet ≡ x.packet) × StandsFor (record k { down = rest }) (record w { down = down })
without_first k packet rest x down w first is h =
    let list : packet ∷ rest ≡ x.packet ∷ falls_in down = sym first ∙ h.ties.falls ∙ ap falls_in is in (
      ap (first_or packet) list,
      record {
        ties = record {
          setup = h.ties.setup;
          sizes = h.ties.sizes;
          journal = h.ties.journal;
          told = h.ties.told;
          rises = h.ties.rises;
          falls = ap rest_of list;
          count = h.ties.count;
          takes = h.ties.takes;
          published = h.ties.published;
          done = h.ties.done;
          passes = h.ties.passes;
          events = h.ties.events;
          own = h.ties.own;
          breaks = h.ties.breaks;
          few = h.ties.few;
        };
        ready = record { steady = record { legal = h.ready.steady.legal; sound = h.ready.steady.sound; gone = h.ready.steady.gone }; entries = h.ready.entries; own = h.ready.own; breaks = h.ready.breaks };
      },
    )

-- so what is left stands for a world too
pub stood_without_first : (k : Kept) (packet : Packet) (rest : List Packet) → k.down ≡ packet ∷ rest → Stood k → Stood (record k { down = rest })
stood_without_first k packet rest first (w, h) = go w.down refl
  where
    go : (down : List Falling) → w.down ≡ down → Stood (record k { down = rest })
    go [] is = absurd (cc (sym first ∙ h.ties.falls ∙ ap falls_in is))
    go (x ∷ down) is = (record w { down = down }, (without_first k packet rest x down w first is h).1)

pub down_played : (k new : Kept) (packet : Packet) (rest : List Packet) → is_connected k.core.phase ≡ true → k.down ≡ packet ∷ rest → Entered (record k { down = rest }) (c.Arrived packet) new → Plays k v.DeliverDown o.Yes new
down_played k new packet rest e first made w h = go (is_connected (phase dev usual w)) w.down (sym (same_test is_connected k w h.ties) ∙ e) refl
  where
    go : (b : Bool) (down : List Falling) → b ≡ true → w.down ≡ down → IsPlayed o.Yes (delivers_down dev usual (10 * w.events) b down w) w new
    go true [] t is = absurd (cc (sym first ∙ h.ties.falls ∙ ap falls_in is))
    go true (x ∷ down) t is =
        let taken = without_first k packet rest x down w first is h in
        (refl, subst (λ p. Ties new (stepped dev usual x.place (10 * w.events) (c.Arrived p) (record w { down = down }))) taken.0 (made (record w { down = down }) x.place taken.1))
    go false down t is = absurd (cc t)

-- ---- What is due

due_ties : (k : Kept) (w : World) (at : ℕ) (said : Option Cause) → at ≡ 10 * k.events
    → ((past : List Entry) → agents.StandsFor k.core past → said ≡ due_by k.core.setup k.core.sizes (readings k.core.setup k.core.sizes past) at) → Ties k w
    → said ≡ due_by dev usual (readings dev usual (entries w)) (10 * w.events)
due_ties k w at said is dues h =
    dues (entries w) h.journal ∙ ap (λ s. due_by s k.core.sizes (readings s k.core.sizes (entries w)) at) h.setup ∙ ap (λ l. due_by dev l (readings dev l (entries w)) at) h.sizes
    ∙ ap (due_by dev usual (readings dev usual (entries w))) (is ∙ ap (λ n. 10 * n) h.events)

pub tick_skipped : (k : Kept) (at : ℕ) → at ≡ 10 * k.events
    → ((past : List Entry) → agents.StandsFor k.core past → None ≡ due_by k.core.setup k.core.sizes (readings k.core.setup k.core.sizes past) at) → Plays k v.Tick o.Skipped k
tick_skipped k at is dues w h = subst (λ cause. IsPlayed o.Skipped (due dev usual cause (10 * w.events) w) w k) (due_ties k w at None is dues h.ties) (refl, h.ties)

pub tick_played : (k new : Kept) (at : ℕ) (cause : Cause) → at ≡ 10 * k.events
    → ((past : List Entry) → agents.StandsFor k.core past → Some cause ≡ due_by k.core.setup k.core.sizes (readings k.core.setup k.core.sizes past) at) → Entered k cause new → Plays k v.Tick o.Yes new
tick_played k new at cause is dues made w h = subst (λ cause. IsPlayed o.Yes (due dev usual cause (10 * w.events) w) w new) (due_ties k w at (Some cause) is dues h.ties) (refl, made w None h)

-- ---- A packet comes to the broker

there_is : (k : Kept) (w : World) → Ties k w → is_there k.broker.link ≡ is_there (kept w).link
there_is k w h = ap (λ (b : broker.Kept). is_there b.link) h.told.kept

up_now : (b : Bool) (up : List Rising) (w : World) (k : Kept) → b ≡ false → Ties k w → IsPlayed o.Skipped (delivers_up dev usual b up w) w k
up_now true up w k e h = absurd (cc e)
up_now false up w k e h = (refl, h)

not_there : (link : Link) → (brokers.IsThere link → ⊥) → is_there link ≡ false
not_there Gone h = refl
not_there Opened h = absurd (h tt)
not_there (Accepted clean s) h = absurd (h tt)

is_there_so : (link : Link) → brokers.IsThere link → is_there link ≡ true
is_there_so Gone h = absurd h
is_there_so Opened h = refl
is_there_so (Accepted clean s) h = refl

pub up_skipped : (k : Kept) → (brokers.IsThere k.broker.link → ⊥) → Plays k v.DeliverUp o.Skipped k
up_skipped k none w h = up_now (is_there (kept w).link) w.up w k (sym (there_is k w h.ties) ∙ not_there k.broker.link none) h.ties

none_risen : (up : List Rising) → [] ≡ rises_in up → up ≡ []
none_risen [] e = refl
none_risen (x ∷ up) e = absurd (cc e)

none_up : (b : Bool) (up : List Rising) (w : World) (k : Kept) → up ≡ [] → Ties k w → IsPlayed o.Skipped (delivers_up dev usual b up w) w k
none_up true [] w k e h = (refl, h)
none_up true (x ∷ up) w k e h = absurd (cc e)
none_up false up w k e h = (refl, h)

pub up_empty : (k : Kept) (rest : List Packet) → k.up ≡ [] ++ rest → rest ≡ [] → Plays k v.DeliverUp o.Skipped (record k { up = rest })
up_empty k rest same none w h =
    none_up (is_there (kept w).link) w.up w (record k { up = rest }) (none_risen w.up (sym none ∙ sym same ∙ h.ties.rises)) (subst (λ ps. Ties (record k { up = ps }) w) same h.ties)

-- the first packet has a spelling
pub first_sound : (k : Kept) (packet : Packet) (rest : List Packet) → k.up ≡ packet ∷ rest → Stood k → is_sound packet ≡ true
first_sound k packet rest first (w, h) = go w.up refl h.ready.steady.sound
  where
    go : (up : List Rising) → w.up ≡ up → AllByRecursion Rises up → is_sound packet ≡ true
    go [] is sound = absurd (cc (sym first ∙ h.ties.rises ∙ ap rises_in is))
    go (x ∷ up) is sound = ap (λ p. is_sound p) (ap (first_or packet) (sym first ∙ h.ties.rises ∙ ap rises_in is)) ∙ sound.0

pub up_played : (k : Kept) (b : broker.Kept) (packet : Packet) (rest downs packets : List Packet) (close : Bool) → brokers.IsThere k.broker.link → k.up ≡ packet ∷ rest
    → ((past : List brokers.Event) → brokers.StandsFor k.broker past → brokers.reply past (brokers.Comes packet) ≡ record { packets = packets; close = close; kept = b })
    → ((past : List brokers.Event) → brokers.StandsFor k.broker past → brokers.StandsFor b (brokers.Comes packet ∷ past)) → downs ≡ k.down ++ packets
    → Plays k v.DeliverUp o.Yes (record k { broker = b; up = rest; down = downs })
up_played k b packet rest downs packets close there first replies stands pushed w h = go (is_there (kept w).link) w.up (sym (there_is k w h.ties) ∙ is_there_so k.broker.link there) refl
  where
    new : Kept
    new = record k { broker = b; up = rest; down = downs }

    go : (t : Bool) (up : List Rising) → t ≡ true → w.up ≡ up → IsPlayed o.Yes (delivers_up dev usual t up w) w new
    go true [] t is = absurd (cc (sym first ∙ h.ties.rises ∙ ap rises_in is))
    go true (x ∷ up) t is =
        let list : packet ∷ rest ≡ x.packet ∷ rises_in up = sym first ∙ h.ties.rises ∙ ap rises_in is in
        let same : packet ≡ x.packet = ap (first_or packet) list in
        let left : Ties (record k { up = rest }) (record w { up = up }) = record {
          setup = h.ties.setup;
          sizes = h.ties.sizes;
          journal = h.ties.journal;
          told = h.ties.told;
          rises = ap rest_of list;
          falls = h.ties.falls;
          count = h.ties.count;
          takes = h.ties.takes;
          published = h.ties.published;
          done = h.ties.done;
          passes = h.ties.passes;
          events = h.ties.events;
          own = h.ties.own;
          breaks = h.ties.breaks;
          few = h.ties.few;
        } in (
          refl,
          subst (λ p. Ties new (told_of dev usual (brokers.Comes p) x.origin (record w { up = up }))) same
              (told_ties (record k { up = rest }) b downs packets close (brokers.Comes packet) x.origin (record w { up = up }) replies stands pushed left),
        )
    go false up t is = absurd (cc t)

-- ---- The broker's own message

-- a message counted before it is passed on or behind it
pub local_played : (k new : Kept) (qos : Qos) (own : ℕ)
    → ((w : World) (origin : Option Origin) → StandsFor k w → Ties new (told_of dev usual (brokers.Publishes qos own_topic (four_bytes k.own)) origin w)) → new.own ≡ k.own → own ≡ new.own + 1
    → Plays k (v.LocalPublish qos) o.Yes (record new { own = own })
local_played k new qos own told same one w h =
    let made = told w (Some (Own w.own)) h in (
      refl,
      subst (λ n. Ties (record new { own = own }) (told_of dev usual (brokers.Publishes qos own_topic (four_bytes n)) (Some (Own w.own)) (record w { own = w.own + 1 }))) h.ties.own (record {
        setup = made.setup;
        sizes = made.sizes;
        journal = made.journal;
        told = made.told;
        rises = made.rises;
        falls = made.falls;
        count = made.count;
        takes = made.takes;
        published = made.published;
        done = made.done;
        passes = made.passes;
        events = made.events;
        own = one ∙ ap (λ n. n + 1) (same ∙ h.ties.own);
        breaks = made.breaks;
        few = made.few;
      }),
    )

-- ---- Any event

said_by : (said : Played) (new : Option World) (w : World) (k : Kept) → IsPlayed said new w k → said ≡ answer_of new
said_by said None w k h = h.0
said_by said (Some new) w k h = h.0

pub said_so : (k new : Kept) (event : Event) (said : Played) → Plays k event said new → (w : World) → StandsFor k w → said ≡ answer_of (played_now dev usual event w)
said_so k new event said plays w h = said_by said (played_now dev usual event w) w new (plays w h)

ties_again : (k : Kept) (w : World) (events : ℕ) → events ≡ k.events + 1 → Ties k w → Ties (record k { events = events }) (counted dev usual w)
ties_again k w events one h = record {
  setup = h.setup;
  sizes = h.sizes;
  journal = h.journal;
  told = h.told;
  rises = h.rises;
  falls = h.falls;
  count = h.count;
  takes = h.takes;
  published = h.published;
  done = h.done;
  passes = h.passes;
  events = one ∙ ap (λ n. n + 1) h.events;
  own = h.own;
  breaks = h.breaks;
  few = h.few;
}

counted_ties : (said : Played) (new : Option World) (w : World) (k : Kept) (events : ℕ) → events ≡ k.events + 1 → IsPlayed said new w k → Ties (record k { events = events }) (counted dev usual (or_same dev usual new w))
counted_ties said None w k events one h = ties_again k w events one h.1
counted_ties said (Some new) w k events one h = ties_again k new events one h.1

pub stands_then : (k new : Kept) (event : Event) (said : Played) (events : ℕ) → Plays k event said new → events ≡ new.events + 1 → (w : World) → StandsFor k w → StandsFor (record new { events = events }) (played dev usual w event)
stands_then k new event said events plays one w h = record {
  ties = counted_ties said (played_now dev usual event w) w new events one (plays w h);
  ready = ready_played dev usual w event dev_is_client refl h.ready;
}

-- the topic of the broker's messages
pub own_is_name : is_name own_topic ≡ true
unfolding is_name
own_is_name = refl

pub told_own : (k : Kept) (b : broker.Kept) (downs packets : List Packet) (close : Bool) (qos : Qos) (topic payload : List ℕ) (origin : Option Origin) (w : World) → topic ≡ own_topic → payload ≡ four_bytes k.own
    → ((past : List brokers.Event) → brokers.StandsFor k.broker past → brokers.reply past (brokers.Publishes qos topic payload) ≡ record { packets = packets; close = close; kept = b })
    → ((past : List brokers.Event) → brokers.StandsFor k.broker past → brokers.StandsFor b (brokers.Publishes qos topic payload ∷ past)) → downs ≡ k.down ++ packets → Ties k w
    → Ties (record k { broker = b; down = downs }) (told_of dev usual (brokers.Publishes qos own_topic (four_bytes k.own)) origin w)
told_own k b downs packets close qos topic payload origin w topic_is payload_is replies stands pushed h =
    subst (λ t. Ties (record k { broker = b; down = downs }) (told_of dev usual (brokers.Publishes qos t (four_bytes k.own)) origin w)) topic_is
    (subst (λ p. Ties (record k { broker = b; down = downs }) (told_of dev usual (brokers.Publishes qos topic p) origin w)) payload_is (told_ties k b downs packets close (brokers.Publishes qos topic payload) origin w replies stands pushed h))
