-- Worked journals of renewals: each is legal, and next to it stands a changed one that isn't.
use Rattle.std.specs.Prelude.{ℕ, false, List, [], ◌∷◌, ◌++◌, codes, map}
use Rattle.mqtt_packet.specs.declared.qos.Qos.{Qos}
use Rattle.mqtt_packet.specs.declared.qos.Qos.TheVariants.{AtMostOnce, AtLeastOnce, ExactlyOnce}
use Rattle.mqtt_packet.specs.declared.packet.Packet.TheVariants as p
use Rattle.mqtt_packet.specs.declared.will.Ask.{Ask}
use Rattle.agent_journal.specs.declared.request.Request.TheVariants as requests
use Rattle.agent_journal.specs.declared.outcome.Outcome.TheVariants as o
use Rattle.agent_journal.specs.declared.entry.Cause.TheVariants as c
use Rattle.agent_journal.specs.declared.entry.Why.TheVariants as w
use Rattle.agent_journal.specs.declared.entry.Entry.{Entry}
use Rattle.agent_journal.specs.declared.effect.Effect.{Effect}
use Rattle.agent_journal.specs.declared.effect.Effect.TheVariants as f
use Rattle.agent_table.specs.Worked.{at, arrives, opens, begins, takes, sends, Legal}

abbrev pub ask : List ℕ → Qos → Ask
ask topics qos = record { filter = topics; qos = qos }

-- the session was lost, with what is sent at the CONNACK that says so
abbrev pub loses : List Effect → List Entry
loses again = at 0 (c.Broke w.End) [] ∷ opens 0 60 ∷ arrives (p.ConnAck false 0) again ∷ []

-- ---- Nine filters are asked for again in two packets, in the order of their bytes

abbrev pub letters : List (List ℕ)
letters = codes "c" ∷ codes "b" ∷ codes "a" ∷ codes "d" ∷ codes "e" ∷ codes "f" ∷ codes "g" ∷ codes "h" ∷ []

abbrev pub eight : List Ask
eight = map (λ topics. ask topics AtMostOnce) letters

abbrev pub ninth : List Ask
ninth = ask (codes "i") ExactlyOnce ∷ []

abbrev pub in_order : List Ask
in_order =
    map (λ topics. ask topics AtMostOnce)
    (codes "a" ∷ codes "b" ∷ codes "c" ∷ codes "d" ∷ codes "e" ∷ codes "f" ∷ codes "g" ∷ codes "h" ∷ [])

abbrev pub zeros : List ℕ
zeros = 0 ∷ 0 ∷ 0 ∷ 0 ∷ 0 ∷ 0 ∷ 0 ∷ 0 ∷ []

abbrev pub nine : List Effect → List Entry
nine again =
    begins
    (takes 0 (requests.Subscribe eight) (sends (p.Subscribe 1 eight)) ∷ arrives (p.SubAck 1 zeros) (f.Done 0 0 (o.Granted zeros) ∷ [])
    ∷ takes 1 (requests.Subscribe ninth) (sends (p.Subscribe 2 ninth)) ∷ arrives (p.SubAck 2 (2 ∷ [])) (f.Done 0 1 (o.Granted (2 ∷ [])) ∷ []) ∷ loses again)

-- ---- A granted quality of service outlives its route: that of the last subscribe in the order of Takes counts

abbrev pub first : List Ask
first = ask (codes "a") AtLeastOnce ∷ []

abbrev pub second : List Ask
second = ask (codes "a") ExactlyOnce ∷ []

-- the second subscribe is granted and unsubscribed before the first one is granted
abbrev pub outlived : List Ask → List Entry
outlived again =
    begins
    (takes 0 (requests.Subscribe first) (sends (p.Subscribe 1 first)) ∷ takes 1 (requests.Subscribe second) (sends (p.Subscribe 2 second))
    ∷ arrives (p.SubAck 2 (2 ∷ [])) (f.Done 0 1 (o.Granted (2 ∷ [])) ∷ []) ∷ takes 2 (requests.Unsubscribe (codes "a" ∷ [])) (sends (p.Unsubscribe 3 (codes "a" ∷ [])))
    ∷ arrives (p.UnsubAck 3) (f.Done 0 2 o.Done ∷ []) ∷ arrives (p.SubAck 1 (1 ∷ [])) (f.Done 0 0 (o.Granted (1 ∷ [])) ∷ []) ∷ loses (sends (p.Subscribe 4 again)))

-- ---- The claims

pub record ManyAreRenewed : Type 0 where
  pub nine_legal : Legal (nine (f.Send (p.Subscribe 3 in_order) ∷ f.Send (p.Subscribe 4 ninth) ∷ []))
  pub in_one_packet : Legal (nine (sends (p.Subscribe 3 (in_order ++ ninth)))) → ⊥
  pub in_the_order_of_asking : Legal (nine (f.Send (p.Subscribe 3 eight) ∷ f.Send (p.Subscribe 4 ninth) ∷ [])) → ⊥

pub record GrantsOutlive : Type 0 where
  pub outlived_legal : Legal (outlived second)
  pub of_the_route_alone : Legal (outlived first) → ⊥
