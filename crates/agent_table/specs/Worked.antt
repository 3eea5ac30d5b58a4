-- Worked journals: each is legal, and next to it stands a changed one that isn't.
use Rattle.std.specs.Prelude.{ℕ, Bool, true, false, List, [], ◌∷◌, None, codes}
use Rattle.mqtt_packet.specs.declared.qos.Qos.{Qos}
use Rattle.mqtt_packet.specs.declared.qos.Qos.TheVariants.{AtMostOnce, AtLeastOnce, ExactlyOnce}
use Rattle.mqtt_packet.specs.declared.packet.Packet.{Packet}
use Rattle.mqtt_packet.specs.declared.packet.Packet.TheVariants as p
use Rattle.mqtt_packet.specs.declared.will.Ask.{Ask}
use Rattle.agent_journal.specs.declared.request.Request.{Request}
use Rattle.agent_journal.specs.declared.request.Request.TheVariants as requests
use Rattle.agent_journal.specs.declared.outcome.Outcome.{Outcome}
use Rattle.agent_journal.specs.declared.outcome.Outcome.TheVariants as o
use Rattle.agent_journal.specs.declared.entry.Cause.{Cause}
use Rattle.agent_journal.specs.declared.entry.Cause.TheVariants as c
use Rattle.agent_journal.specs.declared.entry.Why.TheVariants as w
use Rattle.agent_journal.specs.declared.entry.Entry.{Entry}
use Rattle.agent_journal.specs.declared.effect.Effect.{Effect}
use Rattle.agent_journal.specs.declared.effect.Effect.TheVariants as f
use Rattle.agent_journal.specs.declared.setup.Setup.{Setup}
use Rattle.agent_journal.specs.Worked as first
use Rattle.agent_table.specs.Histories.{IsLegal}
use Rattle.agent_table.specs.Sizes.{Sizes}

abbrev pub usual : Sizes
usual = record { acks = 20; inbound = 20; routes = 32 }

abbrev pub tiny : Sizes
tiny = record { acks = 2; inbound = 2; routes = 2 }

abbrev pub at : ℕ → Cause → List Effect → Entry
at time cause effects = record { at = time; cause = cause; effects = effects }

abbrev pub arrives : Packet → List Effect → Entry
arrives packet effects = at 0 (c.Arrived packet) effects

-- the entries of an opening by client `dev` with a keep alive in seconds, and of the CONNACK that accepts
abbrev pub opens : ℕ → ℕ → Entry
opens time keep_alive = at time c.Opened (f.Send (p.Connect false keep_alive (codes "dev") None None None) ∷ [])

abbrev pub begins : List Entry → List Entry
begins entries = opens 0 60 ∷ arrives (p.ConnAck false 0) [] ∷ entries

-- the last two entries of a run: the task's Leave, with its number, and Finish
abbrev pub finishes : ℕ → List Entry
finishes seq = at 0 (c.Take 0 seq requests.Leave) [] ∷ at 0 c.Finish (f.Send p.Disconnect ∷ []) ∷ []

-- `hi` on `a/b`
abbrev pub request : Qos → Request
request qos = requests.Publish qos (codes "a/b") (codes "hi")

abbrev pub packet : Bool → Qos → ℕ → Packet
packet dup qos id = p.Publish dup qos false (codes "a/b") id (codes "hi")

abbrev pub takes : ℕ → Request → List Effect → Entry
takes seq wanted effects = at 0 (c.Take 0 seq wanted) effects

abbrev pub sends : Packet → List Effect
sends one = f.Send one ∷ []

-- ---- A publish at QoS 0, with what follows its PUBLISH

abbrev pub published : List Effect → List Entry
published behind = begins (takes 0 (request AtMostOnce) (f.Send (packet false AtMostOnce 0) ∷ behind) ∷ finishes 1)

-- ---- A CONNACK that refuses, with what is told

abbrev pub refused : List Effect → List Entry
refused told =
    opens 0 60 ∷ arrives (p.ConnAck false 5) told ∷ takes 0 (request AtMostOnce) (f.Done 0 0 o.NotConnected ∷ []) ∷ takes 1 requests.Leave [] ∷ []

-- ---- A publish at QoS 1 over a connection that ends, with the session kept and lost

abbrev pub resumed : Bool → List Entry
resumed dup =
    begins
    (takes 0 (request AtLeastOnce) (sends (packet false AtLeastOnce 1)) ∷ at 0 (c.Broke w.End) [] ∷ opens 0 60 ∷ arrives (p.ConnAck true 0) (sends (packet dup AtLeastOnce 1))
    ∷ arrives (p.PubAck 1) (f.Done 0 0 o.Done ∷ []) ∷ finishes 1)

abbrev pub lost : Outcome → List Entry
lost outcome =
    begins
    (takes 0 (request AtLeastOnce) (sends (packet false AtLeastOnce 1)) ∷ at 0 (c.Broke w.End) [] ∷ opens 0 60 ∷ arrives (p.ConnAck false 0) (f.Done 0 0 outcome ∷ []) ∷ finishes 1)

-- ---- A publish at QoS 2: the PUBREL is sent again, and never the PUBLISH

abbrev pub released : Packet → List Entry
released again =
    begins
    (takes 0 (request ExactlyOnce) (sends (packet false ExactlyOnce 1)) ∷ arrives (p.PubRec 1) (sends (p.PubRel 1)) ∷ at 0 (c.Broke w.End) [] ∷ opens 0 60 ∷ arrives (p.ConnAck true 0) (sends again)
    ∷ arrives (p.PubComp 1) (f.Done 0 0 o.Done ∷ []) ∷ finishes 1)

-- a PUBCOMP before the PUBREC says nothing, and the PUBREC completes nothing
abbrev pub acknowledged : List Effect → List Entry
acknowledged at_pubrec =
    begins
    (takes 0 (request ExactlyOnce) (sends (packet false ExactlyOnce 1)) ∷ arrives (p.PubComp 1) [] ∷ arrives (p.PubRec 1) at_pubrec ∷ arrives (p.PubComp 1) (f.Done 0 0 o.Done ∷ []) ∷ finishes 1)

-- ---- Messages

abbrev pub passes : Qos → Effect
passes qos = f.Pass 0 (record { topic = codes "a/b"; qos = qos; payload = codes "hi" })

abbrev pub asks : List Ask
asks = record { filter = codes "a/#"; qos = ExactlyOnce } ∷ record { filter = codes "a/b"; qos = AtLeastOnce } ∷ []

-- a message at QoS 2 is passed once, though it comes twice
abbrev pub passed : List Effect → List Entry
passed second =
    begins
    (takes 0 (requests.Subscribe asks) (sends (p.Subscribe 1 asks)) ∷ arrives (p.SubAck 1 (2 ∷ 1 ∷ [])) (f.Done 0 0 (o.Granted (2 ∷ 1 ∷ [])) ∷ [])
    ∷ arrives (packet false ExactlyOnce 7) (passes ExactlyOnce ∷ sends (p.PubRec 7)) ∷ arrives (packet true ExactlyOnce 7) second ∷ arrives (p.PubRel 7) (sends (p.PubComp 7)) ∷ finishes 1)

-- a SUBACK with too few codes is wrong
abbrev pub wrong : List Effect → List Entry
wrong told =
    begins
    (takes 0 (requests.Subscribe asks) (sends (p.Subscribe 1 asks)) ∷ arrives (p.SubAck 1 (2 ∷ [])) told ∷ [])

-- more messages at QoS 2 than there is room for, with what is sent for the one too many
abbrev pub empty : ℕ → Packet
empty id = p.Publish false ExactlyOnce false (codes "a") id []

abbrev pub spilled : List Effect → List Entry
spilled third =
    begins
    (arrives (empty 1) (sends (p.PubRec 1)) ∷ arrives (empty 2) (sends (p.PubRec 2)) ∷ arrives (empty 3) third ∷ at 0 (c.Broke w.InFull) [] ∷ at 0 c.GaveUp (f.Closed 0 ∷ []) ∷ [])

-- ---- Routes that outlive a lost session

abbrev pub wanted : List Ask
wanted = record { filter = codes "a/#"; qos = AtLeastOnce } ∷ []

abbrev pub renewed : List Entry → List Entry
renewed entries =
    begins
    (takes 0 (requests.Subscribe wanted) (sends (p.Subscribe 1 wanted)) ∷ arrives (p.SubAck 1 (1 ∷ [])) (f.Done 0 0 (o.Granted (1 ∷ [])) ∷ []) ∷ at 0 (c.Broke w.End) [] ∷ opens 0 60
    ∷ arrives (p.ConnAck false 0) (sends (p.Subscribe 2 wanted)) ∷ entries)

abbrev pub message : Entry
message = arrives (packet false AtMostOnce 0) (passes AtMostOnce ∷ [])

abbrev pub unpassed : Entry
unpassed = arrives (packet false AtMostOnce 0) []

-- what the SUBACK of the renewal says, and then the message
abbrev pub renewed_once : ℕ → Entry → List Entry
renewed_once code last = renewed (arrives (p.SubAck 2 (code ∷ [])) [] ∷ last ∷ finishes 1)

-- the renewal wasn't answered, so it is asked for again with the session that was kept
abbrev pub renewed_twice : List Effect → List Entry
renewed_twice again = renewed (at 0 (c.Broke w.End) [] ∷ opens 0 60 ∷ arrives (p.ConnAck true 0) again ∷ arrives (p.SubAck 3 (1 ∷ [])) [] ∷ message ∷ finishes 1)

-- ---- Ends

abbrev pub terminated : List Effect → List Entry
terminated told =
    begins
    (takes 0 (request AtLeastOnce) (sends (packet false AtLeastOnce 1)) ∷ takes 1 requests.Terminate told
    ∷ takes 2 requests.Ping (f.Done 0 2 o.Cancelled ∷ []) ∷ takes 3 requests.Leave [] ∷ [])

-- a PINGREQ that isn't answered
abbrev pub quiet : ℕ → List Entry
quiet broken =
    opens 0 1 ∷ at 1000 (c.Arrived (p.ConnAck false 0)) [] ∷ at 2000 c.Tick (sends p.PingReq) ∷ at broken (c.Broke w.KeepAlive) [] ∷ at 8000 c.GaveUp (f.Closed 0 ∷ [])
    ∷ at 9000 (c.Take 0 0 requests.Leave) [] ∷ []

-- ---- The claims

-- an agent of one task
abbrev pub agent : ℕ → ℕ → Setup
agent keep_alive reopen = record { to = []; client = codes "dev"; keep_alive = keep_alive; reopen = reopen; wipe = false; tasks = 1 }

abbrev pub Legal : List Entry → Type 0
Legal entries = IsLegal (agent 60 5) usual entries

pub record FirstsAreLegal : Type 0 where
  pub published_legal : Legal first.journal
  pub never_done : Legal (published []) → ⊥
  pub refused_legal : Legal (refused (f.Closed 0 ∷ []))
  pub not_closed : Legal (refused []) → ⊥

pub record DeliveriesAreLegal : Type 0 where
  pub resumed_legal : Legal (resumed true)
  pub resumed_without_dup : Legal (resumed false) → ⊥
  pub lost_legal : Legal (lost o.SessionLost)
  pub lost_as_done : Legal (lost o.Done) → ⊥
  pub released_legal : Legal (released (p.PubRel 1))
  pub published_again : Legal (released (packet true ExactlyOnce 1)) → ⊥
  pub acknowledged_legal : Legal (acknowledged (sends (p.PubRel 1)))
  pub done_at_pubrec : Legal (acknowledged (f.Send (p.PubRel 1) ∷ f.Done 0 0 o.Done ∷ [])) → ⊥

pub record MessagesAreLegal : Type 0 where
  pub passed_legal : Legal (passed (sends (p.PubRec 7)))
  pub passed_twice : Legal (passed (passes ExactlyOnce ∷ sends (p.PubRec 7))) → ⊥
  pub wrong_legal : Legal (wrong (f.Done 0 0 o.Cancelled ∷ f.Closed 0 ∷ []))
  pub granted_nevertheless : Legal (wrong (f.Done 0 0 (o.Granted (2 ∷ [])) ∷ [])) → ⊥
  pub spilled_legal : IsLegal (agent 60 0) tiny (spilled [])
  pub received_without_room : IsLegal (agent 60 0) tiny (spilled (sends (p.PubRec 3))) → ⊥

pub record RenewalsAreLegal : Type 0 where
  pub once : Legal (renewed_once 1 message)
  pub forgotten : Legal (renewed_once 1 unpassed) → ⊥
  pub twice : Legal (renewed_twice (sends (p.Subscribe 3 wanted)))
  pub left_out : Legal (renewed_twice []) → ⊥
  pub refused_legal : Legal (renewed_once 128 unpassed)
  pub passed_though_refused : Legal (renewed_once 128 message) → ⊥

pub record EndsAreLegal : Type 0 where
  pub terminated_legal : Legal (terminated (f.Done 0 0 o.Cancelled ∷ f.Send p.Disconnect ∷ f.Done 0 1 o.Done ∷ f.Closed 0 ∷ []))
  pub left_open : Legal (terminated (f.Send p.Disconnect ∷ f.Done 0 1 o.Done ∷ f.Closed 0 ∷ [])) → ⊥
  pub quiet_legal : IsLegal (agent 1 0) usual (quiet 7000)
  pub too_early : IsLegal (agent 1 0) usual (quiet 6999) → ⊥
