-- How a publish at quality of service 2 is followed, by its identifier: what holds of the open commands, of both
-- lists, and of the identifiers that the broker received (MQTT 3.1.1, section 4.3.3).
use Rattle.std.specs.Prelude.{ℕ, ◌+◌, ◌≤◌, Bool, false, ◌&&◌, ◌==◌, List, count_by, cond}
use Rattle.mqtt_packet.specs.declared.packet.Packet.{Packet}
use Rattle.mqtt_packet.specs.declared.packet.Packet.TheVariants as p
use Rattle.agent_journal.specs.Readings.{Pending}
use Rattle.agent_table.specs.Deliveries.{publishes, is_exactly_once, is_among}
use Rattle.session_world.specs.World.{Rising, Falling}
use Rattle.once_laws.specs.Followed.{is_of, comes_from}

abbrev pub digit : Bool → ℕ
digit b = cond b 1 0

-- ---- Commands

-- a publish at quality of service 2
abbrev pub is_second : ℕ → Pending → Bool
is_second n command = command.id == n && publishes is_exactly_once command.request

-- which is command q of task t
abbrev pub is_ours : ℕ → ℕ → ℕ → Pending → Bool
is_ours t q n command = is_second n command && (command.task == t && command.seq == q)

-- ---- Packets

abbrev pub publishes_second : ℕ → Packet → Bool
publishes_second n (p.Publish dup qos retain topic id payload) = id == n && is_exactly_once qos
publishes_second n _ = false

abbrev pub releases : ℕ → Packet → Bool
releases n (p.PubRel id) = id == n
releases n _ = false

abbrev pub receives : ℕ → Packet → Bool
receives n (p.PubRec id) = id == n
receives n _ = false

abbrev pub completes : ℕ → Packet → Bool
completes n (p.PubComp id) = id == n
completes n _ = false

abbrev pub rises_second : ℕ → Rising → Bool
rises_second n x = publishes_second n x.packet

abbrev pub rises_release : ℕ → Rising → Bool
rises_release n x = releases n x.packet

abbrev pub falls_receive : ℕ → Falling → Bool
falls_receive n x = receives n x.packet

abbrev pub falls_complete : ℕ → Falling → Bool
falls_complete n x = completes n x.packet

abbrev pub brings : ℕ → ℕ → ℕ → Rising → Bool
brings t q n x = rises_second n x && comes_from t q x.origin

-- ---- What holds

-- Of an identifier n: `released` are the publishes that had their PUBREC, and `received` the identifiers that the
-- broker received.
pub record IsTidy (n : ℕ) (commands : List Pending) (released received : List ℕ) (up : List Rising) (down : List Falling) : Type 0 where
  -- an identifier has at most one open command
  pub alone : count_by (is_of n) commands ≤ 1
  -- a publish that isn't released has at most its PUBLISH or its PUBREC
  pub two : count_by (rises_second n) up + count_by (falls_receive n) down + digit (is_among released n) ≤ count_by (is_second n) commands
  -- one that is released has at most its PUBREL or its PUBCOMP
  pub freed : count_by (rises_release n) up + count_by (falls_complete n) down ≤ digit (is_among released n)
  -- the broker received identifiers of open publishes alone
  pub known : digit (is_among received n) ≤ count_by (is_second n) commands
  -- a PUBREC says that it received one, and a PUBCOMP that it has it no more
  pub entered : count_by (falls_receive n) down ≤ digit (is_among received n)
  pub left : count_by (falls_complete n) down + digit (is_among received n) ≤ 1

-- And of command q of task t, which is such a publish and was passed on so often.
pub record IsCounted (t q n : ℕ) (commands : List Pending) (released received : List ℕ) (up : List Rising) (times : ℕ) : Type 0 where
  -- its PUBLISH comes from it, and none does without it
  pub brought : count_by (brings t q n) up ≤ count_by (is_ours t q n) commands
  pub own : count_by (rises_second n) up + count_by (is_ours t q n) commands ≤ count_by (brings t q n) up + count_by (is_second n) commands
  -- where it is open, it was passed on exactly where its identifier was received
  pub counted : times + count_by (is_ours t q n) commands ≤ digit (is_among received n) + digit (is_among released n) + 1
  pub heard : digit (is_among received n) + count_by (is_ours t q n) commands ≤ times + 1
  pub passed : digit (is_among released n) + count_by (is_ours t q n) commands ≤ times + 1
