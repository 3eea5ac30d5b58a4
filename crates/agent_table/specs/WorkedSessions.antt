-- Worked journals of sessions and room: each is legal, and next to it stands a changed one that isn't.
use Rattle.std.specs.Prelude.{◌≡◌, ℕ, Bool, true, false, List, [], ◌∷◌, ◌++◌, None, codes, map}
use Rattle.mqtt_packet.specs.declared.qos.Qos.TheVariants.{AtLeastOnce, ExactlyOnce}
use Rattle.mqtt_packet.specs.declared.packet.Packet.TheVariants as p
use Rattle.agent_journal.specs.declared.outcome.Outcome.TheVariants as o
use Rattle.agent_journal.specs.declared.entry.Cause.TheVariants as c
use Rattle.agent_journal.specs.declared.entry.Why.TheVariants as w
use Rattle.agent_journal.specs.declared.entry.Entry.{Entry}
use Rattle.agent_journal.specs.declared.effect.Effect.{Effect}
use Rattle.agent_journal.specs.declared.effect.Effect.TheVariants as f
use Rattle.agent_journal.specs.declared.setup.Setup.{Setup}
use Rattle.agent_table.specs.Histories.{IsLegal}
use Rattle.agent_table.specs.Identifiers.{fresh}
use Rattle.agent_table.specs.Worked.{usual, tiny, at, arrives, opens, begins, finishes, request, packet, takes, sends, agent, Legal}

-- ---- Wiping: a connection with a clean session, which ends at its CONNACK, and then one that keeps its session

abbrev pub wiper : Setup
wiper = record { to = []; client = codes "dev"; keep_alive = 60; reopen = 5; wipe = true; tasks = 1 }

abbrev pub connects : Bool → Entry
connects clean = at 0 c.Opened (f.Send (p.Connect clean 60 (codes "dev") None None None) ∷ [])

-- with what is sent at the first CONNACK, whether the second connection is clean too, and what its CONNACK says
abbrev pub wiped : Bool → List Effect → Bool → List Entry
wiped present at_first clean = connects true ∷ arrives (p.ConnAck present 0) at_first ∷ connects clean ∷ arrives (p.ConnAck false 0) [] ∷ finishes 0

-- ---- A session of this client that the agent doesn't know

abbrev pub held : List Effect → List Entry
held told = opens 0 60 ∷ arrives (p.ConnAck true 0) told ∷ []

-- behind wiping, the second connection's CONNACK is the first one
abbrev pub wiped_and_held : List Effect → List Entry
wiped_and_held told = connects true ∷ arrives (p.ConnAck true 0) (sends p.Disconnect) ∷ connects false ∷ arrives (p.ConnAck true 0) told ∷ []

-- ---- No room: the third publish with two open ones

abbrev pub no_room : List Effect → List Entry
no_room third =
    begins (takes 0 (request AtLeastOnce) (sends (packet false AtLeastOnce 1)) ∷ takes 1 (request ExactlyOnce) (sends (packet false ExactlyOnce 2)) ∷ takes 2 (request AtLeastOnce) third ∷ [])

-- ---- Sent again: PUBRELs in the order of the first PUBRECs, and then PUBLISHes in the order of first sending

abbrev pub ordered : List Effect → List Entry
ordered again =
    begins
    (takes 0 (request ExactlyOnce) (sends (packet false ExactlyOnce 1)) ∷ takes 1 (request AtLeastOnce) (sends (packet false AtLeastOnce 2)) ∷ takes 2 (request ExactlyOnce) (sends (packet false ExactlyOnce 3))
    ∷ arrives (p.PubRec 3) (sends (p.PubRel 3)) ∷ arrives (p.PubRec 1) (sends (p.PubRel 1)) ∷ arrives (p.PubRec 3) (sends (p.PubRel 3)) ∷ at 0 (c.Broke w.End) [] ∷ opens 0 60
    ∷ arrives (p.ConnAck true 0) again ∷ [])

abbrev pub by_receipt : List Effect
by_receipt = f.Send (p.PubRel 3) ∷ f.Send (p.PubRel 1) ∷ f.Send (packet true AtLeastOnce 2) ∷ []

abbrev pub by_number : List Effect
by_number = f.Send (p.PubRel 1) ∷ f.Send (p.PubRel 3) ∷ f.Send (packet true AtLeastOnce 2) ∷ []

abbrev pub publishes_first : List Effect
publishes_first = f.Send (packet true AtLeastOnce 2) ∷ f.Send (p.PubRel 3) ∷ f.Send (p.PubRel 1) ∷ []

-- ---- An identifier that is used again: its command waits for a PUBREC of its own

-- with what follows the second PUBCOMP
abbrev pub used_again : List ℕ → List Effect → List Entry
used_again ids second =
    begins
    (takes 0 (request ExactlyOnce) (sends (packet false ExactlyOnce 1)) ∷ arrives (p.PubRec 1) (sends (p.PubRel 1)) ∷ arrives (p.PubComp 1) (f.Done 0 0 o.Done ∷ [])
    ∷ takes 1 (request ExactlyOnce) (sends (packet false ExactlyOnce 2)) ∷ map (λ id. arrives (p.PubRec id) []) ids ++ arrives (p.PubComp 2) second ∷ [])

-- ---- The claims

pub record SessionsAreLegal : Type 0 where
  pub wiped_legal : IsLegal wiper usual (wiped false (sends p.Disconnect) false)
  pub wiped_of_a_session_legal : IsLegal wiper usual (wiped true (sends p.Disconnect) false)
  pub not_wiped : IsLegal wiper usual (wiped false [] false) → ⊥
  pub wiped_twice : IsLegal wiper usual (wiped false (sends p.Disconnect) true) → ⊥
  pub held_legal : Legal (held (f.Closed 0 ∷ []))
  pub taken_over : Legal (held []) → ⊥
  pub wiped_and_held_legal : IsLegal wiper usual (wiped_and_held (f.Closed 0 ∷ []))
  pub taken_over_behind_wiping : IsLegal wiper usual (wiped_and_held []) → ⊥

pub record RoomsAreLegal : Type 0 where
  pub no_room_legal : IsLegal (agent 60 5) tiny (no_room (f.Done 0 2 o.NoRoom ∷ []))
  pub sent_without_room : IsLegal (agent 60 5) tiny (no_room (sends (packet false AtLeastOnce 3))) → ⊥
  pub ordered_legal : Legal (ordered by_receipt)
  pub ordered_by_number : Legal (ordered by_number) → ⊥
  pub publishes_before_releases : Legal (ordered publishes_first) → ⊥
  pub none_received : Legal (used_again [] [])
  pub another_received : Legal (used_again (1 ∷ []) [])
  pub done_unreceived : Legal (used_again [] (f.Done 0 1 o.Done ∷ [])) → ⊥
  pub done_by_another : Legal (used_again (1 ∷ []) (f.Done 0 1 o.Done ∷ [])) → ⊥

-- Identifiers go on from 65,535 to 1, past those that are in use.
pub record IdentifiersWrap : Type 0 where
  pub first : fresh 0 [] ≡ 1
  pub last : fresh 65534 [] ≡ 65535
  pub wrapped : fresh 65535 [] ≡ 1
  pub past_used : fresh 65535 (2 ∷ 1 ∷ []) ≡ 3
  pub past_the_last : fresh 65533 (65535 ∷ 1 ∷ 65534 ∷ []) ≡ 2
