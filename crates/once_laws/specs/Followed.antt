-- How a publish at quality of service 1 is followed, by its identifier: what holds of the open commands and of both
-- lists.
use Rattle.std.specs.Prelude.{ℕ, ◌+◌, ◌≤◌, Bool, true, false, ◌&&◌, ◌==◌, List, count_by, Option, Some, None}
use Rattle.mqtt_packet.specs.declared.packet.Packet.{Packet}
use Rattle.mqtt_packet.specs.declared.packet.Packet.TheVariants as p
use Rattle.agent_journal.specs.declared.setup.Phase.{Phase}
use Rattle.agent_journal.specs.declared.setup.Phase.TheVariants.{Down, Opening, Up, Spilled, Off}
use Rattle.agent_journal.specs.Readings.{Pending}
use Rattle.agent_table.specs.Deliveries.{publishes, is_at_least_once}
use Rattle.session_world.specs.World.{Rising, Falling, Origin}
use Rattle.once_laws.specs.Once.{is_from}

-- ---- Commands

abbrev pub is_of : ℕ → Pending → Bool
is_of n command = command.id == n

-- a publish at quality of service 1
abbrev pub is_first : ℕ → Pending → Bool
is_first n command = command.id == n && publishes is_at_least_once command.request

-- which is command q of task t
abbrev pub is_mine : ℕ → ℕ → ℕ → Pending → Bool
is_mine t q n command = is_first n command && (command.task == t && command.seq == q)

-- ---- Packets

abbrev pub publishes_first : ℕ → Packet → Bool
publishes_first n (p.Publish dup qos retain topic id payload) = id == n && is_at_least_once qos
publishes_first n _ = false

abbrev pub acknowledges : ℕ → Packet → Bool
acknowledges n (p.PubAck id) = id == n
acknowledges n _ = false

abbrev pub rises_first : ℕ → Rising → Bool
rises_first n x = publishes_first n x.packet

abbrev pub falls_back : ℕ → Falling → Bool
falls_back n x = acknowledges n x.packet

abbrev pub comes_from : ℕ → ℕ → Option Origin → Bool
comes_from t q None = false
comes_from t q (Some origin) = is_from t q origin

abbrev pub carries : ℕ → ℕ → ℕ → Rising → Bool
carries t q n x = rises_first n x && comes_from t q x.origin

-- ---- Phases

-- Nothing of a publish is under way yet.
abbrev pub is_beginning : Phase → Bool
is_beginning Down = true
is_beginning Opening = true
is_beginning Up = false
is_beginning Spilled = false
is_beginning Off = false

-- ---- What holds

-- Of an identifier n, and of command q of task t.
pub record IsFollowed (t q n : ℕ) (commands : List Pending) (up : List Rising) (down : List Falling) (times : ℕ) : Type 0 where
  -- an identifier has at most one open command
  pub alone : count_by (is_of n) commands ≤ 1
  -- a publish has at most one packet: its PUBLISH or its PUBACK
  pub one : count_by (rises_first n) up + count_by (falls_back n) down ≤ count_by (is_first n) commands
  -- its PUBLISH comes from it
  pub own : count_by (rises_first n) up + count_by (is_mine t q n) commands ≤ count_by (carries t q n) up + count_by (is_first n) commands
  -- where its PUBACK is under way, it was passed on
  pub heard : count_by (falls_back n) down + count_by (is_mine t q n) commands ≤ times + 1
