-- Worked journals of times and breaks: each is legal, and next to it stands a changed one that isn't.
use Rattle.std.specs.Prelude.{◌≡◌, ℕ, false, List, [], ◌∷◌, None, Some}
use Rattle.mqtt_packet.specs.declared.qos.Qos.TheVariants.{AtLeastOnce}
use Rattle.mqtt_packet.specs.declared.packet.Packet.TheVariants as p
use Rattle.agent_journal.specs.declared.request.Request.TheVariants as requests
use Rattle.agent_journal.specs.declared.outcome.Outcome.TheVariants as o
use Rattle.agent_journal.specs.declared.entry.Cause.TheVariants as c
use Rattle.agent_journal.specs.declared.entry.Why.TheVariants as w
use Rattle.agent_journal.specs.declared.entry.Entry.{Entry}
use Rattle.agent_journal.specs.declared.effect.Effect.{Effect}
use Rattle.agent_journal.specs.declared.effect.Effect.TheVariants as f
use Rattle.agent_journal.specs.declared.setup.Setup.{Setup}
use Rattle.agent_table.specs.Histories.{IsLegal, readings, due_by}
use Rattle.agent_table.specs.Worked.{usual, at, arrives, opens, begins, request, packet, takes, sends, agent, Legal, asks}

-- ---- A keep alive of a second: the PINGREQ is due half of it behind the last packet that was sent

abbrev pub ticked : ℕ → List Entry
ticked time = opens 0 1 ∷ arrives (p.ConnAck false 0) [] ∷ at time c.Tick (sends p.PingReq) ∷ []

-- what is due at such a time, newest entry first
abbrev pub connected : List Entry
connected = arrives (p.ConnAck false 0) [] ∷ opens 0 1 ∷ []

abbrev pub second : Setup
second = agent 1 5

-- ---- Nothing came for long: that breaks an opening, and a connection on which a command is open

abbrev pub idle_opening : List Entry
idle_opening = opens 0 60 ∷ at 9 (c.Broke w.Idle) [] ∷ []

abbrev pub idle_open : List Entry
idle_open = begins (takes 0 (request AtLeastOnce) (sends (packet false AtLeastOnce 1)) ∷ at 9 (c.Broke w.Idle) [] ∷ [])

abbrev pub idle_quiet : List Entry
idle_quiet = begins (at 9 (c.Broke w.Idle) [] ∷ [])

-- ---- A connection ends while a subscribe and a publish are open: the one is lost, and the other waits

abbrev pub link_lost : List Effect → List Entry
link_lost told =
    begins (takes 0 (requests.Subscribe asks) (sends (p.Subscribe 1 asks)) ∷ takes 1 (request AtLeastOnce) (sends (packet false AtLeastOnce 2)) ∷ at 0 (c.Broke w.End) told ∷ [])

-- ---- The claims

pub record TimesAreLegal : Type 0 where
  pub ticked_legal : IsLegal second usual (ticked 500)
  pub ticked_early : IsLegal second usual (ticked 499) → ⊥
  pub due : due_by second usual (readings second usual connected) 500 ≡ Some c.Tick
  pub not_due : due_by second usual (readings second usual connected) 499 ≡ None
  pub idle_opening_legal : Legal idle_opening
  pub idle_open_legal : Legal idle_open
  pub idle_without_a_command : Legal idle_quiet → ⊥
  pub link_lost_legal : Legal (link_lost (f.Done 0 0 o.LinkLost ∷ []))
  pub subscribe_waits : Legal (link_lost []) → ⊥
  pub publish_lost : Legal (link_lost (f.Done 0 0 o.LinkLost ∷ f.Done 0 1 o.LinkLost ∷ [])) → ⊥
