-- What is kept behind each part of an event.
use Rattle.std.proofs.Common.{◌≡◌, ℕ, ◌+◌, ◌*◌, ◌≤◌, Bool, true, false, List, [], ◌∷◌, ◌++◌, map, length, Option, Some, None, is_some, refl, sym, ap, ◌∙◌, subst, arith, append_assoc}
use Rattle.mqtt_packet.specs.declared.packet.Packet.{Packet}
use Rattle.agent_journal.specs.declared.entry.Cause.{Cause}
use Rattle.agent_journal.specs.declared.entry.Cause.TheVariants as c
use Rattle.agent_journal.specs.declared.entry.Why.TheVariants as why
use Rattle.agent_journal.specs.declared.entry.Entry.{Entry}
use Rattle.agent_journal.specs.declared.effect.Effect.{Effect}
use Rattle.agent_journal.specs.declared.effect.Effect.TheVariants as f
use Rattle.agent_journal.specs.declared.setup.Phase.{Phase}
use Rattle.agent_journal.specs.declared.setup.Phase.TheVariants.{Down, Opening, Up, Spilled, Off}
use Rattle.agent_journal.specs.Readings.{pending_of, takes_of, takes_behind}
use Rattle.agent_journal.specs.Wires.{sends, packet_in}
use Rattle.agent_table.specs.Histories.{phase_of, row, effects_of, readings, due_by}
use Rattle.agent_table.specs.Rows.{Row}
use Rattle.agent_core.specs.Kept as agent
use Rattle.agent_core.specs.Stands as agents
use Rattle.agent_core.proofs.Standing.{rows_are_same}
use Rattle.broker_core.specs.Kept as broker
use Rattle.broker_core.specs.Past as brokers
use Rattle.broker_core.specs.Rules as rules
use Rattle.broker_core.specs.declared.link.Link.TheVariants.{Gone}
use Rattle.session_world.specs.declared.notes.Notes.{Notes}
use Rattle.session_world.specs.Counts.{total, published_by, done_by, told_by}
use Rattle.session_world.specs.Kept.{Kept, Ties, StandsFor, Stood, rises_in, falls_in}
use Rattle.session_world.specs.Noted.{AreFew}
use Rattle.session_world.specs.Playing.{is_connected}
use Rattle.session_world.specs.Ready.{IsReady}
use Rattle.session_world.specs.Setups.{dev, usual}
use Rattle.session_world.specs.World.{World, Rising, Falling, Origin, entries, emptied, faulted_by, faulted_in, followed, kept, noted, phase, sent, stepped, stepped_by, told_of}
use Rattle.session_world.proofs.Falling.{fallen_all}
use Rattle.session_world.proofs.Risen.{risen_all}
use Rattle.session_world.proofs.Rows.{opens_in_down}

-- ---- What the agent reads

pub phase_ties : (k : Kept) (w : World) → Ties k w → k.core.phase ≡ phase dev usual w
phase_ties k w h = h.journal.keeps.phase ∙ ap (λ s. phase_of s k.core.sizes (entries w)) h.setup ∙ ap (λ l. phase_of dev l (entries w)) h.sizes

pub row_ties : (k : Kept) (w : World) (at : ℕ) (cause : Cause) → Ties k w → agent.row_now k.core at cause ≡ row dev usual (entries w) at cause
row_ties k w at cause h = rows_are_same k.core (entries w) at cause h.journal ∙ ap (λ s. row s k.core.sizes (entries w) at cause) h.setup ∙ ap (λ l. row dev l (entries w) at cause) h.sizes

-- ---- An entry

some_of : (found : Row) (effects : List Effect) → effects_of (Some found) ≡ Some effects → found.effects ≡ effects
some_of found effects e = ap (either_of found.effects) e
  where
    either_of : List Effect → Option (List Effect) → List Effect
    either_of other None = other
    either_of other (Some xs) = xs

-- what is counted of one more entry
pub record Adds (old new : Notes) (e : Entry) : Type 0 where
  pub entries : new.entries ≡ old.entries + 1
  pub takes : new.takes ≡ takes_behind 0 e.cause old.takes
  pub published : new.published ≡ old.published + published_by e
  pub done : new.done ≡ old.done + done_by e
  pub told : new.told ≡ old.told + told_by e
  pub few : AreFew new

pub noted_ties : (k : Kept) (core : agent.Kept) (notes : Notes) (e : Entry) (at : ℕ) (cause : Cause) (w : World) (place : Option ℕ) (found : Row) → Ties k w → row dev usual (entries w) at cause ≡ Some found
    → e.at ≡ at → e.cause ≡ cause → effects_of (agent.row_now k.core at cause) ≡ Some e.effects → ((past : List Entry) → agents.StandsFor k.core past → agents.StandsFor core (e ∷ past))
    → core.setup ≡ k.core.setup → core.sizes ≡ k.core.sizes → Adds k.notes notes e
    → (e.effects ≡ found.effects) × Ties (record k { core = core; notes = notes }) (noted dev usual place at cause found.effects w)
noted_ties k core notes e at cause w place found h is at_is cause_is effects stands setup sizes adds =
    let same : found.effects ≡ e.effects = some_of found e.effects (sym (ap effects_of (row_ties k w at cause h ∙ is)) ∙ effects) in
    let entry : e ≡ record { at = at; cause = cause; effects = found.effects } = λ i. record { at = at_is i; cause = cause_is i; effects = sym same i } in (
      sym same,
      record {
        setup = setup ∙ h.setup;
        sizes = sizes ∙ h.sizes;
        journal = subst (λ x. agents.StandsFor core (x ∷ entries w)) entry (stands (entries w) h.journal);
        told = h.told;
        rises = h.rises;
        falls = h.falls;
        count = adds.entries ∙ ap (λ n. n + 1) h.count ∙ omega arith;
        takes = adds.takes ∙ ap (λ x. takes_behind 0 x k.notes.takes) cause_is ∙ ap (takes_behind 0 cause) h.takes;
        published = adds.published ∙ (λ i. h.published i + published_by (entry i));
        done = adds.done ∙ (λ i. h.done i + done_by (entry i));
        passes = adds.told ∙ (λ i. h.passes i + told_by (entry i));
        events = h.events;
        own = h.own;
        breaks = h.breaks;
        few = adds.few;
      },
    )

-- ---- What an entry sends

sends_both : (xs ys : List Effect) → sends (xs ++ ys) ≡ sends xs ++ sends ys
sends_both [] ys = refl
sends_both (x ∷ xs) ys = ap (λ ps. packet_in x ++ ps) (sends_both xs ys) ∙ sym (append_assoc (packet_in x) (sends xs) (sends ys))

pub pushed_ties : (k : Kept) (before behind effects : List Effect) (cause : Cause) (w : World) (place : Option ℕ) (at : ℕ) (found : Row) → k.up ≡ sends before → behind ≡ before ++ effects → effects ≡ found.effects
    → Ties k (noted dev usual place at cause found.effects w) → Ties (record k { up = sends behind }) (sent dev usual cause found.effects (noted dev usual place at cause found.effects w))
pushed_ties k before behind effects cause w place at found up pushed same h = record {
  setup = h.setup;
  sizes = h.sizes;
  journal = h.journal;
  told = h.told;
  rises = ap sends pushed ∙ sends_both before effects ∙ (λ i. (sym up ∙ h.rises) i ++ sends (same i))
      ∙ sym (risen_all dev usual cause (pending_of (record { at = at; cause = cause; effects = found.effects } ∷ entries w)) w.up (sends found.effects));
  falls = h.falls;
  count = h.count;
  takes = h.takes;
  published = h.published;
  done = h.done;
  passes = h.passes;
  events = h.events;
  own = h.own;
  breaks = h.breaks;
  few = h.few;
}

-- ---- What follows

pub opened_ties : (k : Kept) (b : broker.Kept) (w : World) → ((past : List brokers.Event) → brokers.StandsFor k.broker past → brokers.StandsFor b (brokers.Begins ∷ past)) → Ties k w
    → Ties (record k { broker = b }) (record w { told = brokers.Begins ∷ w.told })
opened_ties k b w stands h = record {
  setup = h.setup;
  sizes = h.sizes;
  journal = h.journal;
  told = stands w.told h.told;
  rises = h.rises;
  falls = h.falls;
  count = h.count;
  takes = h.takes;
  published = h.published;
  done = h.done;
  passes = h.passes;
  events = h.events;
  own = h.own;
  breaks = h.breaks;
  few = h.few;
}

pub emptied_ties : (k : Kept) (b : broker.Kept) (up down : List Packet) (w : World) → ((past : List brokers.Event) → brokers.StandsFor k.broker past → brokers.StandsFor b (brokers.Ends ∷ past)) → up ≡ [] → down ≡ [] → Ties k w
    → Ties (record k { broker = b; up = up; down = down }) (emptied dev usual w)
emptied_ties k b up down w stands no_up no_down h = record {
  setup = h.setup;
  sizes = h.sizes;
  journal = h.journal;
  told = stands w.told h.told;
  rises = no_up;
  falls = no_down;
  count = h.count;
  takes = h.takes;
  published = h.published;
  done = h.done;
  passes = h.passes;
  events = h.events;
  own = h.own;
  breaks = h.breaks;
  few = h.few;
}

-- what follows a cause that is neither a break nor an opening
abbrev pub IsQuiet : Cause → Type 0
IsQuiet (c.Broke reason) = ⊥
IsQuiet c.Opened = ⊥
IsQuiet _ = Unit {0}

pub quiet_ties : (cause : Cause) (k : Kept) (w : World) → IsQuiet cause → Ties k w → Ties k (followed dev usual cause w)
quiet_ties c.Opened k w quiet h = absurd quiet
quiet_ties (c.Broke reason) k w quiet h = absurd quiet
quiet_ties (c.Take task seq request) k w quiet h = h
quiet_ties (c.Arrived packet) k w quiet h = h
quiet_ties c.Tick k w quiet h = h
quiet_ties c.GaveUp k w quiet h = h
quiet_ties c.Finish k w quiet h = h

-- ---- A whole entry

pub no_row : (k : Kept) (w : World) (place : Option ℕ) (at : ℕ) (cause : Cause) → is_some (agent.row_now k.core at cause) ≡ false → Ties k w → Ties k (stepped dev usual place at cause w)
no_row k w place at cause none h = go (row dev usual (entries w) at cause) (sym (ap is_some (row_ties k w at cause h)) ∙ none)
  where
    go : (r : Option Row) → is_some r ≡ false → Ties k (stepped_by dev usual r place at cause w)
    go None e = h
    go (Some found) e = absurd (cc e)

pub some_row : (k new : Kept) (w : World) (place : Option ℕ) (at : ℕ) (cause : Cause) → is_some (agent.row_now k.core at cause) ≡ true → Ties k w
    → ((found : Row) → row dev usual (entries w) at cause ≡ Some found → Ties new (followed dev usual cause (sent dev usual cause found.effects (noted dev usual place at cause found.effects w))))
    → Ties new (stepped dev usual place at cause w)
some_row k new w place at cause some h made = go (row dev usual (entries w) at cause) refl
  where
    go : (r : Option Row) → row dev usual (entries w) at cause ≡ r → Ties new (stepped_by dev usual r place at cause w)
    go None e = absurd (cc (sym some ∙ ap is_some (row_ties k w at cause h ∙ e)))
    go (Some found) e = made found e

-- where a connection is opened, the broker has none
pub none_there : (k : Kept) (at : ℕ) (cause : Cause) → Stood k → is_some (agent.row_now k.core at cause) ≡ true → cause ≡ c.Opened → k.broker.link ≡ Gone
none_there k at cause (w, h) some is =
    go (row dev usual (entries w) at c.Opened) refl
  where
    go : (r : Option Row) → row dev usual (entries w) at c.Opened ≡ r → k.broker.link ≡ Gone
    go None e = absurd (cc (sym some ∙ ap (λ x. is_some (agent.row_now k.core at x)) is ∙ ap is_some (row_ties k w at c.Opened h.ties ∙ e)))
    go (Some found) e = ap (λ (b : broker.Kept). b.link) h.ties.told.kept ∙ h.ready.steady.gone (opens_in_down dev usual (readings dev usual (entries w)) at found e)

-- ---- The broker

pub told_ties : (k : Kept) (b : broker.Kept) (downs packets : List Packet) (close : Bool) (event : brokers.Event) (origin : Option Origin) (w : World)
    → ((past : List brokers.Event) → brokers.StandsFor k.broker past → brokers.reply past event ≡ record { packets = packets; close = close; kept = b })
    → ((past : List brokers.Event) → brokers.StandsFor k.broker past → brokers.StandsFor b (event ∷ past)) → downs ≡ k.down ++ packets → Ties k w
    → Ties (record k { broker = b; down = downs }) (told_of dev usual event origin w)
told_ties k b downs packets close event origin w replies stands pushed h = record {
  setup = h.setup;
  sizes = h.sizes;
  journal = h.journal;
  told = stands w.told h.told;
  rises = h.rises;
  falls = pushed ∙ (λ i. h.falls i ++ (ap (λ (a : rules.Answer). a.packets) (sym (replies w.told h.told))) i)
      ∙ sym (fallen_all dev usual (brokers.reply w.told event).kept w.down (brokers.reply w.told event).packets);
  count = h.count;
  takes = h.takes;
  published = h.published;
  done = h.done;
  passes = h.passes;
  events = h.events;
  own = h.own;
  breaks = h.breaks;
  few = h.few;
}

-- ---- The entry of a break

fault_none_in : (k : Kept) (w : World) (at : ℕ) (p : Phase) → is_some (agent.row_now k.core at (c.Broke why.Fault)) ≡ false → Ties k w → Ties k (faulted_in dev usual p at w)
fault_none_in k w at p none h = by p
  where
    go : (r : Option Row) → is_some r ≡ false → Ties k (faulted_by dev usual r at w)
    go None e = h
    go (Some found) e = absurd (cc e)

    here : Ties k (faulted_by dev usual (row dev usual (entries w) at (c.Broke why.Fault)) at w)
    here = go (row dev usual (entries w) at (c.Broke why.Fault)) (sym (ap is_some (row_ties k w at (c.Broke why.Fault) h)) ∙ none)

    by : (p : Phase) → Ties k (faulted_in dev usual p at w)
    by Down = h
    by Opening = here
    by Up = here
    by Spilled = here
    by Off = h

at_now : (k : Kept) (w : World) (at : ℕ) → at ≡ 10 * k.events → Ties k w → at ≡ 10 * w.events
at_now k w at is h = is ∙ ap (λ n. 10 * n) h.events

pub fault_none : (k : Kept) (w : World) (at : ℕ) → at ≡ 10 * k.events → is_some (agent.row_now k.core at (c.Broke why.Fault)) ≡ false → Ties k w → Ties k (faulted_in dev usual (phase dev usual w) (10 * w.events) w)
fault_none k w at is none h = subst (λ t. Ties k (faulted_in dev usual (phase dev usual w) t w)) (at_now k w at is h) (fault_none_in k w at (phase dev usual w) none h)

fault_made_in : (k new : Kept) (w : World) (at : ℕ) (p : Phase) → is_some (agent.row_now k.core at (c.Broke why.Fault)) ≡ true → is_connected p ≡ true → Ties k w
    → ((found : Row) → row dev usual (entries w) at (c.Broke why.Fault) ≡ Some found → Ties new (noted dev usual None at (c.Broke why.Fault) found.effects w)) → Ties new (faulted_in dev usual p at w)
fault_made_in k new w at p some now h made = by p now
  where
    go : (r : Option Row) → row dev usual (entries w) at (c.Broke why.Fault) ≡ r → Ties new (faulted_by dev usual r at w)
    go None e = absurd (cc (sym some ∙ ap is_some (row_ties k w at (c.Broke why.Fault) h ∙ e)))
    go (Some found) e = made found e

    here : Ties new (faulted_by dev usual (row dev usual (entries w) at (c.Broke why.Fault)) at w)
    here = go (row dev usual (entries w) at (c.Broke why.Fault)) refl

    by : (p : Phase) → is_connected p ≡ true → Ties new (faulted_in dev usual p at w)
    by Down e = absurd (cc e)
    by Opening e = here
    by Up e = here
    by Spilled e = here
    by Off e = absurd (cc e)

pub fault_made : (k new : Kept) (w : World) (at : ℕ) → at ≡ 10 * k.events → is_some (agent.row_now k.core at (c.Broke why.Fault)) ≡ true → is_connected (phase dev usual w) ≡ true → Ties k w
    → ((found : Row) → row dev usual (entries w) at (c.Broke why.Fault) ≡ Some found → Ties new (noted dev usual None at (c.Broke why.Fault) found.effects w))
    → Ties new (faulted_in dev usual (phase dev usual w) (10 * w.events) w)
fault_made k new w at is some now h made = subst (λ t. Ties new (faulted_in dev usual (phase dev usual w) t w)) (at_now k w at is h) (fault_made_in k new w at (phase dev usual w) some now h made)

-- ---- An entry at the time of the present event

pub no_row_now : (k : Kept) (w : World) (place : Option ℕ) (at : ℕ) (cause : Cause) → at ≡ 10 * k.events → is_some (agent.row_now k.core at cause) ≡ false → Ties k w → Ties k (stepped dev usual place (10 * w.events) cause w)
no_row_now k w place at cause is none h = subst (λ t. Ties k (stepped dev usual place t cause w)) (at_now k w at is h) (no_row k w place at cause none h)

pub some_row_now : (k new : Kept) (w : World) (place : Option ℕ) (at : ℕ) (cause : Cause) → at ≡ 10 * k.events → is_some (agent.row_now k.core at cause) ≡ true → Ties k w
    → ((found : Row) → row dev usual (entries w) at cause ≡ Some found → Ties new (followed dev usual cause (sent dev usual cause found.effects (noted dev usual place at cause found.effects w))))
    → Ties new (stepped dev usual place (10 * w.events) cause w)
some_row_now k new w place at cause is some h made = subst (λ t. Ties new (stepped dev usual place t cause w)) (at_now k w at is h) (some_row k new w place at cause some h made)
