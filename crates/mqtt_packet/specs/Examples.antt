-- Worked examples: bytes that spell a packet of each kind, and bytes with each verdict.
use Rattle.std.specs.Prelude.{true, false, [], ◌∷◌, ◌++◌, Some, None, codes}
use Rattle.mqtt_packet.specs.declared.qos.Qos.TheVariants.{AtMostOnce, AtLeastOnce, ExactlyOnce}
use Rattle.mqtt_packet.specs.declared.packet.Packet.TheVariants as p
use Rattle.mqtt_packet.specs.declared.will.Ask.{Ask}
use Rattle.mqtt_packet.specs.declared.will.Will.{Will}
use Rattle.mqtt_packet.specs.Grammar.{Spells}
use Rattle.mqtt_packet.specs.Stream.{IsBad, IsTooLong, IsPartial}

abbrev pub a_will : Will
a_will = record { topic = codes "gone"; message = codes "x"; qos = AtLeastOnce; retain = true }

abbrev pub an_ask : Ask
an_ask = record { filter = codes "a/+"; qos = ExactlyOnce }

-- CONNECT with a will, a user name and a password has the flags 11101110.
abbrev pub ConnectsAreSpelled : Type 0
ConnectsAreSpelled =
    Spells (p.Connect false 60 (codes "dev") None None None) (16 ∷ 15 ∷ 0 ∷ 4 ∷ (codes "MQTT" ++ 4 ∷ 0 ∷ 0 ∷ 60 ∷ 0 ∷ 3 ∷ codes "dev"))
    × Spells (p.Connect true 9 (codes "dev") (Some a_will) (Some (codes "me")) (Some (codes "pw")))
    (16 ∷ 32 ∷ 0 ∷ 4 ∷ (codes "MQTT" ++ 4 ∷ 238 ∷ 0 ∷ 9 ∷ 0 ∷ 3 ∷ (codes "dev" ++ 0 ∷ 4 ∷ (codes "gone" ++ 0 ∷ 1 ∷ (codes "x" ++ 0 ∷ 2 ∷ (codes "me" ++ 0 ∷ 2 ∷ codes "pw"))))))
    × Spells (p.ConnAck true 0) (32 ∷ 2 ∷ 1 ∷ 0 ∷ [])

abbrev pub MessagesAreSpelled : Type 0
MessagesAreSpelled =
    Spells (p.Publish false AtMostOnce false (codes "a/b") 0 (codes "hi")) (48 ∷ 7 ∷ 0 ∷ 3 ∷ codes "a/bhi")
    × Spells (p.Publish true ExactlyOnce false (codes "a") 1 (codes "x")) (60 ∷ 6 ∷ 0 ∷ 1 ∷ (codes "a" ++ 0 ∷ 1 ∷ codes "x"))
    × Spells (p.PubAck 1) (64 ∷ 2 ∷ 0 ∷ 1 ∷ [])
    × Spells (p.PubRec 2) (80 ∷ 2 ∷ 0 ∷ 2 ∷ [])
    × Spells (p.PubRel 258) (98 ∷ 2 ∷ 1 ∷ 2 ∷ [])
    × Spells (p.PubComp 4) (112 ∷ 2 ∷ 0 ∷ 4 ∷ [])

abbrev pub SubscriptionsAreSpelled : Type 0
SubscriptionsAreSpelled =
    Spells (p.Subscribe 5 (an_ask ∷ [])) (130 ∷ 8 ∷ 0 ∷ 5 ∷ 0 ∷ 3 ∷ (codes "a/+" ++ 2 ∷ []))
    × Spells (p.SubAck 6 (0 ∷ 128 ∷ [])) (144 ∷ 4 ∷ 0 ∷ 6 ∷ 0 ∷ 128 ∷ [])
    × Spells (p.Unsubscribe 7 (codes "a/+" ∷ [])) (162 ∷ 7 ∷ 0 ∷ 7 ∷ 0 ∷ 3 ∷ codes "a/+")
    × Spells (p.UnsubAck 8) (176 ∷ 2 ∷ 0 ∷ 8 ∷ [])
    × Spells p.PingReq (192 ∷ 0 ∷ [])
    × Spells p.PingResp (208 ∷ 0 ∷ [])
    × Spells p.Disconnect (224 ∷ 0 ∷ [])

-- Bad: quality of service 3, DUP at quality of service 0, an overlong remaining length, identifier 0, return code 3. The
-- greatest remaining length is too long. Nothing, and the front of a packet, are partial.
abbrev pub VerdictsAreThese : Type 0
VerdictsAreThese =
    IsBad (54 ∷ []) × IsBad (56 ∷ []) × IsBad (192 ∷ 128 ∷ 0 ∷ []) × IsBad (64 ∷ 2 ∷ 0 ∷ 0 ∷ []) × IsBad (144 ∷ 3 ∷ 0 ∷ 1 ∷ 3 ∷ [])
    × IsTooLong (48 ∷ 255 ∷ 255 ∷ 255 ∷ 127 ∷ []) 268435460
    × IsPartial [] × IsPartial (192 ∷ 128 ∷ []) × IsPartial (48 ∷ 7 ∷ 0 ∷ 3 ∷ [])
