-- The world: an agent and a broker over two lists of packets, which a break empties.
use Rattle.std.specs.Prelude.{ℕ, ◌-◌, ◌==◌, nat_lt, List, [], ◌∷◌, ◌++◌, map, length, find, Option, Some, None, if◌then◌else◌}
use Rattle.std.specs.Option.{option_map}
use Rattle.mqtt_packet.specs.declared.qos.Qos.{Qos}
use Rattle.mqtt_packet.specs.declared.qos.Qos.TheVariants.{AtMostOnce, AtLeastOnce, ExactlyOnce}
use Rattle.mqtt_packet.specs.declared.packet.Packet.{Packet}
use Rattle.mqtt_packet.specs.declared.packet.Packet.TheVariants as p
use Rattle.agent_journal.specs.declared.entry.Cause.{Cause}
use Rattle.agent_journal.specs.declared.entry.Cause.TheVariants as c
use Rattle.agent_journal.specs.declared.entry.Why.TheVariants as why
use Rattle.agent_journal.specs.declared.entry.Entry.{Entry}
use Rattle.agent_journal.specs.declared.effect.Effect.{Effect}
use Rattle.agent_journal.specs.declared.setup.Setup.{Setup}
use Rattle.agent_journal.specs.declared.setup.Phase.{Phase}
use Rattle.agent_journal.specs.declared.setup.Phase.TheVariants.{Down, Opening, Up, Spilled, Off}
use Rattle.agent_journal.specs.Readings.{Pending, pending_of}
use Rattle.agent_journal.specs.Wires.{sends}
use Rattle.agent_table.specs.Histories.{phase_of, row}
use Rattle.agent_table.specs.Rows.{Row}
use Rattle.agent_table.specs.Sizes.{Sizes}
use Rattle.broker_core.specs.declared.delivery.Delivery.{Delivery}
use Rattle.broker_core.specs.declared.link.Link.{Link}
use Rattle.broker_core.specs.declared.link.Link.TheVariants.{Gone, Opened, Accepted}
use Rattle.broker_core.specs.Kept.{Kept}
use Rattle.broker_core.specs.Past as broker
use Rattle.broker_core.specs.Rules.{Answer}

-- ---- Labels. They are put on here alone: neither the agent's table nor the broker's rules see one.

-- Where a message that was passed on came from: a command of the agent, by its task and its number, or the broker itself, by
-- the message's number among its own.
pub data Origin : Type 0 where
  Command : ℕ → ℕ → Origin
  Own : ℕ → Origin

-- A packet on its way to the broker. A PUBLISH has its command.
pub record Rising : Type 0 where
  pub packet : Packet
  pub origin : Option Origin

-- A packet on its way to the agent. A PUBLISH has the place of its message among those that were passed on.
pub record Falling : Type 0 where
  pub packet : Packet
  pub place : Option ℕ

-- An entry of the agent. That of an arrived PUBLISH has its place.
pub record Noted : Type 0 where
  pub entry : Entry
  pub place : Option ℕ

pub record World : Type 0 where
  -- the agent's journal and the broker's events, newest first
  pub past : List Noted
  pub told : List broker.Event
  -- the packets under way; the first is the next to come
  pub up : List Rising
  pub down : List Falling
  -- of the messages that were passed on, oldest first
  pub origins : List Origin
  -- how many events were handed in, how many messages of its own the broker published, and how many breaks were played
  pub events : ℕ
  pub own : ℕ
  pub breaks : ℕ

abbrev pub nothing : World
nothing = record { past = []; told = []; up = []; down = []; origins = []; events = 0; own = 0; breaks = 0 }

abbrev pub entries : World → List Entry
entries w = map (λ (noted : Noted). noted.entry) w.past

-- what the broker keeps
abbrev pub kept : World → Kept
kept w = broker.kept_of w.told

module _ (s : Setup) (l : Sizes) where
  abbrev pub phase : World → Phase
  phase w = phase_of s l (entries w)

  -- ---- The agent's side

  abbrev pub origin_of : Pending → Origin
  origin_of command = Command command.task command.seq

  -- the command of a PUBLISH: the one that is taken, or the open one that has the identifier
  abbrev pub command_of : Cause → List Pending → ℕ → Option Origin
  command_of (c.Take task seq request) commands id = Some (Command task seq)
  command_of _ commands id = option_map origin_of (find (λ command. command.id == id) commands)

  abbrev pub rising : Cause → List Pending → Packet → Rising
  rising cause commands (p.Publish dup qos retain topic id payload) = record { packet = p.Publish dup qos retain topic id payload; origin = command_of cause commands id }
  rising cause commands packet = record { packet = packet; origin = None }

  -- an entry is noted; what it sends isn't sent yet
  abbrev pub noted : Option ℕ → ℕ → Cause → List Effect → World → World
  noted place at cause effects w = record w { past = record { entry = record { at = at; cause = cause; effects = effects }; place = place } ∷ w.past }

  -- what an entry sends goes to the end of up
  abbrev pub sent : Cause → List Effect → World → World
  sent cause effects w = record w { up = w.up ++ map (rising cause (pending_of (entries w))) (sends effects) }

  -- both lists are emptied, and the broker's connection ends
  abbrev pub emptied : World → World
  emptied w = record w { up = []; down = []; told = broker.Ends ∷ w.told }

  -- behind an entry: a Broke empties, and an Opened begins the broker's connection
  abbrev pub followed : Cause → World → World
  followed (c.Broke reason) w = emptied w
  followed c.Opened w = record w { told = broker.Begins ∷ w.told }
  followed _ w = w

  -- the entry of a cause, where the table has a row for it
  abbrev pub stepped_by : Option Row → Option ℕ → ℕ → Cause → World → World
  stepped_by None place at cause w = w
  stepped_by (Some found) place at cause w = followed cause (sent cause found.effects (noted place at cause found.effects w))

  abbrev pub stepped : Option ℕ → ℕ → Cause → World → World
  stepped place at cause w = stepped_by (row s l (entries w) at cause) place at cause w

  -- ---- The connection breaks

  -- the agent's entry, where the table has a row for it
  abbrev pub faulted_by : Option Row → ℕ → World → World
  faulted_by None at w = w
  faulted_by (Some found) at w = noted None at (c.Broke why.Fault) found.effects w

  -- In Down and Off there is nothing to note.
  abbrev pub faulted_in : Phase → ℕ → World → World
  faulted_in Down at w = w
  faulted_in Off at w = w
  faulted_in _ at w = faulted_by (row s l (entries w) at (c.Broke why.Fault)) at w

  abbrev pub crashed : ℕ → World → World
  crashed at w = emptied (faulted_in (phase w) at w)

  -- ---- The broker's side

  abbrev pub sent_on : Link → List Delivery
  sent_on Gone = []
  sent_on Opened = []
  sent_on (Accepted clean session) = session.sent

  abbrev pub place_of : Delivery → ℕ
  place_of d = d.place

  -- the place of a PUBLISH: at QoS 0 that of the newest message, else that of the delivery that has the identifier
  abbrev pub place_at : Kept → Qos → ℕ → Option ℕ
  place_at k AtMostOnce id = Some (length k.passed - 1)
  place_at k AtLeastOnce id = option_map place_of (find (λ (d : Delivery). d.id == id) (sent_on k.link))
  place_at k ExactlyOnce id = option_map place_of (find (λ (d : Delivery). d.id == id) (sent_on k.link))

  abbrev pub falling : Kept → Packet → Falling
  falling k (p.Publish dup qos retain topic id payload) = record { packet = p.Publish dup qos retain topic id payload; place = place_at k qos id }
  falling k packet = record { packet = packet; place = None }

  -- the origin of a message, where one more was passed on
  abbrev pub from : Option Origin → ℕ → ℕ → List Origin
  from None before after = []
  from (Some origin) before after = if nat_lt before after then origin ∷ [] else []

  -- an event of the broker: its replies go to the end of down
  abbrev pub answered : Answer → broker.Event → Option Origin → World → World
  answered a event origin w = record w {
    told = event ∷ w.told;
    down = w.down ++ map (falling a.kept) a.packets;
    origins = w.origins ++ from origin (length (kept w).passed) (length a.kept.passed);
  }

  abbrev pub told_of : broker.Event → Option Origin → World → World
  told_of event origin w = answered (broker.reply w.told event) event origin w
