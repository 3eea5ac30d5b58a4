-- What the broker keeps: its connection, the sessions without one, and the messages that were passed on.
use Rattle.std.specs.Prelude.{true, false, List, [], ◌∷◌, ◌++◌}
use Rattle.mqtt_packet.specs.declared.packet.Packet.{Packet}
use Rattle.broker_core.specs.Session.{Session}
use Rattle.broker_core.specs.declared.link.Link.{Link}
use Rattle.broker_core.specs.declared.link.Link.TheVariants.{Gone, Opened, Accepted}

pub record Kept : Type 0 where
  pub link : Link
  -- the sessions without a connection
  pub others : List Session
  -- oldest first
  pub passed : List Packet

abbrev pub keeps : Link → List Session → List Packet → Kept
keeps link others passed = record { link = link; others = others; passed = passed }

abbrev pub nothing : Kept
nothing = record { link = Gone; others = []; passed = [] }

-- The session that outlives the connection: one that was accepted with clean session 0 (MQTT 3.1.1, section 3.1.2.4).
abbrev pub kept_by : Link → List Session
kept_by Gone = []
kept_by Opened = []
kept_by (Accepted true s) = []
kept_by (Accepted false s) = s ∷ []

-- behind the end of the connection
abbrev pub ended : Kept → Kept
ended k = record k { link = Gone; others = k.others ++ kept_by k.link }
