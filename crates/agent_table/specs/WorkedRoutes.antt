-- Worked journals of routes and of two tasks: each is legal, and next to it stands a changed one that isn't.
use Rattle.std.specs.Prelude.{ℕ, false, List, [], ◌∷◌, codes, map}
use Rattle.mqtt_packet.specs.declared.qos.Qos.{Qos}
use Rattle.mqtt_packet.specs.declared.qos.Qos.TheVariants.{AtMostOnce, AtLeastOnce}
use Rattle.mqtt_packet.specs.declared.packet.Packet.TheVariants as p
use Rattle.mqtt_packet.specs.declared.will.Ask.{Ask}
use Rattle.agent_journal.specs.declared.request.Request.{Request}
use Rattle.agent_journal.specs.declared.request.Request.TheVariants as requests
use Rattle.agent_journal.specs.declared.outcome.Outcome.TheVariants as o
use Rattle.agent_journal.specs.declared.entry.Cause.TheVariants as c
use Rattle.agent_journal.specs.declared.entry.Entry.{Entry}
use Rattle.agent_journal.specs.declared.effect.Effect.{Effect}
use Rattle.agent_journal.specs.declared.effect.Effect.TheVariants as f
use Rattle.agent_journal.specs.declared.setup.Setup.{Setup}
use Rattle.agent_table.specs.Histories.{IsLegal}
use Rattle.agent_table.specs.Worked.{usual, tiny, at, arrives, begins, packet, takes, sends, agent}

-- ---- Two tasks

abbrev pub pair : Setup
pair = record { to = []; client = codes "dev"; keep_alive = 60; reopen = 5; wipe = false; tasks = 2 }

abbrev pub PairLegal : List Entry → Type 0
PairLegal entries = IsLegal pair usual entries

abbrev pub by : ℕ → ℕ → Request → List Effect → Entry
by task seq wanted effects = at 0 (c.Take task seq wanted) effects

abbrev pub ask : List ℕ → Qos → Ask
ask topics qos = record { filter = topics; qos = qos }

abbrev pub asks : List Ask
asks = ask (codes "a/b") AtLeastOnce ∷ []

-- task 0 and task 1 subscribe the same filter
abbrev pub both_subscribe : List Entry → List Entry
both_subscribe entries =
    begins
    (by 0 0 (requests.Subscribe asks) (sends (p.Subscribe 1 asks)) ∷ arrives (p.SubAck 1 (1 ∷ [])) (f.Done 0 0 (o.Granted (1 ∷ [])) ∷ [])
    ∷ by 1 0 (requests.Subscribe asks) (sends (p.Subscribe 2 asks)) ∷ arrives (p.SubAck 2 (1 ∷ [])) (f.Done 1 0 (o.Granted (1 ∷ [])) ∷ []) ∷ entries)

abbrev pub passes_to : ℕ → Effect
passes_to task = f.Pass task (record { topic = codes "a/b"; qos = AtMostOnce; payload = codes "hi" })

abbrev pub message : List Effect → Entry
message effects = arrives (packet false AtMostOnce 0) effects

-- a message comes once and is passed to both
abbrev pub passed_to : List Effect → List Entry
passed_to effects = both_subscribe (message effects ∷ [])

-- one of them unsubscribes: the other needs the filter, so nothing is sent
abbrev pub unsubscribed : List Effect → List Entry
unsubscribed effects = both_subscribe (by 0 1 (requests.Unsubscribe (codes "a/b" ∷ [])) effects ∷ [])

-- with another filter, that one alone is unsubscribed, and the task loses both
abbrev pub partly_unsubscribed : List (List ℕ) → List Effect → List Entry
partly_unsubscribed filters effects =
    both_subscribe
    (by 0 1 (requests.Unsubscribe (codes "a/b" ∷ codes "c" ∷ [])) (sends (p.Unsubscribe 3 filters)) ∷ arrives (p.UnsubAck 3) (f.Done 0 1 o.Done ∷ []) ∷ message effects ∷ [])

-- a task that has left gets none
abbrev pub left : List Effect → List Entry
left effects = both_subscribe (by 0 1 requests.Leave [] ∷ message effects ∷ [])

-- ---- No route: room for two, and three that differ

abbrev pub asked : List (List ℕ) → List Effect → List Entry
asked filters effects = begins (takes 0 (requests.Subscribe (map (λ topics. ask topics AtMostOnce) filters)) effects ∷ [])

abbrev pub three : List (List ℕ)
three = codes "a" ∷ codes "b" ∷ codes "c" ∷ []

-- the same filter twice is one route
abbrev pub repeated : List (List ℕ)
repeated = codes "a" ∷ codes "a" ∷ codes "b" ∷ []

abbrev pub subscribed : List (List ℕ) → List Effect
subscribed filters = sends (p.Subscribe 1 (map (λ topics. ask topics AtMostOnce) filters))

-- ---- The claims

pub record PairsAreLegal : Type 0 where
  pub passed_legal : PairLegal (passed_to (passes_to 0 ∷ passes_to 1 ∷ []))
  pub passed_to_one : PairLegal (passed_to (passes_to 0 ∷ [])) → ⊥
  pub passed_in_another_order : PairLegal (passed_to (passes_to 1 ∷ passes_to 0 ∷ [])) → ⊥
  pub unsubscribed_legal : PairLegal (unsubscribed (f.Done 0 1 o.Done ∷ []))
  pub unsubscribed_for_both : PairLegal (unsubscribed (sends (p.Unsubscribe 3 (codes "a/b" ∷ [])))) → ⊥
  pub left_legal : PairLegal (left (passes_to 1 ∷ []))
  pub passed_though_left : PairLegal (left (passes_to 0 ∷ passes_to 1 ∷ [])) → ⊥

pub record SharedAreLegal : Type 0 where
  pub partly_legal : PairLegal (partly_unsubscribed (codes "c" ∷ []) (passes_to 1 ∷ []))
  pub wholly_sent : PairLegal (partly_unsubscribed (codes "a/b" ∷ codes "c" ∷ []) (passes_to 1 ∷ [])) → ⊥
  pub route_kept : PairLegal (partly_unsubscribed (codes "c" ∷ []) (passes_to 0 ∷ passes_to 1 ∷ [])) → ⊥
  pub no_route_legal : IsLegal (agent 60 5) tiny (asked three (f.Done 0 0 o.NoRoute ∷ []))
  pub sent_without_room : IsLegal (agent 60 5) tiny (asked three (subscribed three)) → ⊥
  pub repeated_legal : IsLegal (agent 60 5) tiny (asked repeated (subscribed repeated))
